use Rattle.std.proofs.Common.{◌-◌, drop, length, sym, subst, arith}
use Rattle.std.proofs.lemmas.List.{length-drop, take_all}
use Rattle.process_queue.proofs.RoomLists.{distinct-drop}
use Rattle.process_queue.specs.Filing.{AreDistinct}
use Rattle.process_queue.proofs.filing.shorten.Goals as goal

pub empty_rooms-requires-clause-distinct : goal.empty_rooms-requires-clause-distinct
empty_rooms-requires-clause-distinct c =
    let list = c.deref.result.now in
    let count = c.args.count in
    subst AreDistinct (sym (take_all (length list - count) (drop count list) (omega (arith, length-drop count list))))
    (distinct-drop list count (subst AreDistinct (sym c.deref.ensures.value) c.requires.distinct))
