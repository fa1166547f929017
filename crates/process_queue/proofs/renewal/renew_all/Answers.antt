use Rattle.std.proofs.Common.{◌≡◌, ◌+◌, ◌∷◌, List, length, drop, refl, ap, sym, subst, ◌∙◌, arith}
use Rattle.std.specs.List.{AllByRecursion}
use Rattle.std.proofs.lemmas.List.{drop_all}
use Rattle.std.proofs.lemmas.List.Elements.{recursion_from_All}
use Rattle.std.proofs.lemmas.List.Sums.{sum_by-cons}
use Rattle.process_queue.proofs.RenewedEntries.{AreDifferent, different-from_pairs, renewed_at-more, renewed_at-nothing}
use Rattle.process_queue.specs.Renewal.{IsPart, anchors_of, renewed_at}
use Rattle.process_queue.specs.declared.part.AnchorEntries.{AnchorEntries}
use Rattle.process_queue.proofs.IndexedRooms.{rising-all}
use Rattle.process_queue.proofs.PartLists.{anchor-within, next-part}
use Rattle.process_queue.proofs.VecLists.{length-capacities}
use Rattle.process_queue.specs.Filing.{rooms_of}
use Rattle.process_queue.specs.Memory.{entry_count}
use Rattle.process_queue.specs.Rooms.{entries_of}
use Rattle.process_queue.proofs.renewal.renew_all.Goals as goal

pub loop-part-init : goal.loop-part-init
loop-part-init c = record {
  index = c.requires.index;
  rest = refl;
  are = recursion_from_All IsPart c.args.parts.now c.requires.parts;
  different = different-from_pairs (anchors_of c.args.parts.now) c.requires.anchors.differ;
  room = c.requires.room;
  capacities = refl;
  chosen = refl;
}

pub renew_part-requires-clause-anchor : goal.renew_part-requires-clause-anchor
renew_part-requires-clause-anchor c =
    let below = anchor-within (length c.args.lists.now.items) c.args.parts.now c.loop-part.part-index c.part-item.result c.requires.anchors
    c.loop-part-test.true c.part-item.is in
    let same = ap length c.loop-part.invariant.capacities in
    omega (arith, length-capacities c.args.lists.now.items, length-capacities c.loop-part.lists.items)

pub loop-part-preserved : goal.loop-part-preserved
loop-part-preserved c =
    let kept = c.loop-part.invariant in
    let parts = c.args.parts.now in
    let fired = c.args.fired in
    let i = c.loop-part.part-index in
    let part = c.part-item.result in
    let others = drop (i + 1) parts in
    let was = entries_of c.loop-part.rooms.slab in
    let done = c.renew_part.ensures in
    let cut : drop i parts ≡ part ∷ others = next-part parts i part c.loop-part-test.true c.part-item.is in
    let are = subst (λ (ps : List AnchorEntries). AllByRecursion IsPart ps) cut kept.are in
    let different = subst (λ (ps : List AnchorEntries). AreDifferent (anchors_of ps)) cut kept.different in
    let rises = rising-all c.loop-part.rooms.slab.slots (rooms_of c.loop-part.lists.items) kept.index in
    let count : entry_count (drop i parts) ≡ length part.entries + entry_count others
    = ap entry_count cut ∙ sum_by-cons (λ (p : AnchorEntries). length p.entries) part others in
    let room = kept.room in
    let grew = done.grew in
    record {
      index = done.index;
      rest = ap (renewed_at others fired) done.entries ∙ renewed_at-more part others fired was are different rises
          ∙ ap (λ (ps : List AnchorEntries). renewed_at ps fired was) (sym cut) ∙ kept.rest;
      are = are.1;
      different = different.1;
      room = record {
        slab = omega (arith, room.slab, grew.len, grew.capacity, count);
        nodes = omega (arith, room.nodes, grew.capacity, grew.nodes);
      };
      capacities = done.list_capacities ∙ kept.capacities;
      chosen = done.chosen_capacity ∙ kept.chosen;
    }

pub returns-clause-entries : goal.returns-clause-entries
returns-clause-entries c =
    let test = c.loop-part-test.false in
    let rises = rising-all c.loop-part.rooms.slab.slots (rooms_of c.loop-part.lists.items) c.loop-part.invariant.index in
    sym (ap (λ (parts : List AnchorEntries). renewed_at parts c.args.fired (entries_of c.loop-part.rooms.slab))
    (drop_all c.loop-part.part-index c.args.parts.now (omega arith)) ∙ renewed_at-nothing c.args.fired (entries_of c.loop-part.rooms.slab) rises)
    ∙ c.loop-part.invariant.rest
