use Rattle.std.proofs.Common.{◌<◌, length, set, subst, ◌∙◌, arith}
use Rattle.std.proofs.lemmas.List.{length-set, take_all}
use Rattle.process_queue.proofs.PartLists.{anchor-within, more-memory}
use Rattle.process_queue.proofs.VecLists.{capacities-grown, capacity-now, rooms-kept}
use Rattle.process_queue.specs.Filing.{capacities_of}
use Rattle.process_queue.specs.Memory.{HaveListMemory}
use Rattle.process_queue.proofs.memory.reserve_lists.Goals as goal

pub index_mut-list-requires : goal.index_mut-list-requires
index_mut-list-requires c =
    let below = anchor-within (length c.args.lists.now.items) c.args.parts.now c.loop-part.part-index c.part-item.result c.requires.anchors
    c.loop-part-test.true c.part-item.is in
    let sites = c.loop-part.invariant.sites in
    let len = c.loop-part.lists.ok.0 in
    omega arith

pub returns-in_err-reserve_in_all-clause-rooms : goal.returns-in_err-reserve_in_all-clause-rooms
returns-in_err-reserve_in_all-clause-rooms c =
    let lists = c.loop-part.lists.items in
    let site = c.part-item.result.anchor.0 in
    let below = anchor-within (length c.args.lists.now.items) c.args.parts.now c.loop-part.part-index c.part-item.result c.requires.anchors
    c.loop-part-test.true c.part-item.is in
    let sites = c.loop-part.invariant.sites in
    let inside : site < length lists = omega arith in
    rooms-kept lists site c.index_mut-list.result.now inside c.index_mut-list.ensures.value c.reserve_in_all.new.list c.reserve_in_all.ensures.items
    ∙ c.loop-part.invariant.rooms

pub loop-part-preserved : goal.loop-part-preserved
loop-part-preserved c =
    let lists = c.loop-part.lists.items in
    let parts = c.args.parts.now in
    let i = c.loop-part.part-index in
    let part = c.part-item.result in
    let site = part.anchor.0 in
    let list = c.reserve_in_all.new.list in
    let below = anchor-within (length c.args.lists.now.items) parts i part c.requires.anchors c.loop-part-test.true c.part-item.is in
    let sites = c.loop-part.invariant.sites in
    let inside : site < length lists = omega arith in
    let was = c.index_mut-list.ensures.value in
    let done = c.in_ok-reserve_in_all.ensures in
    let now = capacity-now lists site c.index_mut-list.result.now inside was list in
    record {
      rooms = rooms-kept lists site c.index_mut-list.result.now inside was list done.items ∙ c.loop-part.invariant.rooms;
      sites = length-set lists site list ∙ sites;
      memory = more-memory (capacities_of lists) (capacities_of (set lists site list)) parts i part c.loop-part-test.true c.part-item.is
          (capacities-grown lists site c.index_mut-list.result.now inside was list done.capacity) (omega (arith, now, done.ok, c.len.ensures)) c.loop-part.invariant.memory;
    }

pub returns-clause-ok : goal.returns-clause-ok
returns-clause-ok c = let t = c.loop-part-test.false in
    subst (HaveListMemory (capacities_of c.loop-part.lists.items)) (take_all c.loop-part.part-index c.args.parts.now (omega arith)) c.loop-part.invariant.memory
