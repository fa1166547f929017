use Rattle.std.proofs.Common.{◌≡◌, ◌+◌, ◌<◌, ◌∷◌, true, List, ℕ, length, drop, get_or, subst, ◌∙◌, arith}
use Rattle.std.proofs.lemmas.List.{drop_more}
use Rattle.process_queue.proofs.RoomLists.{emptied-rest, taken-kept}
use Rattle.process_queue.proofs.RoomLists.{emptied}
use Rattle.process_queue.specs.Filing.{AreDistinct, AreTaken, in_room, is_in}
use Rattle.process_queue.proofs.filing.empty_rooms.Goals as goal

pub loop-room-preserved : goal.loop-room-preserved
loop-room-preserved c =
    let list = c.args.list.now in
    let at = c.loop-room.room-index in
    let old = c.loop-room.rooms.slab.slots in
    let new = c.remove.new.self.slab.slots in
    let u = c.remove.ensures.updates in
    let test : at < length list = c.loop-room-test.true in
    let first = get_or list at 0 in
    let rest = drop (at + 1) list in
    let cut : drop at list ≡ first ∷ rest = drop_more list at 0 test in
    let kept = c.loop-room.invariant in
    let distinct = subst AreDistinct cut kept.distinct in
    let taken = subst (AreTaken old) cut kept.taken in
    record {
      rest = λ room. emptied-rest old new first rest u.changed u.others room
          ∙ subst (λ (rooms : List ℕ). emptied rooms room (in_room old room) ≡ emptied list room (in_room c.args.rooms.now.slab.slots room)) cut (kept.rest room);
      distinct = distinct.1;
      taken = taken-kept old new rest taken.1 (λ room one. u.others room (λ same.
          let never : is_in rest first ≡ true = subst (λ r. is_in rest r ≡ true) same one in let not_there = distinct.0 in cc));
      grew = record {
        len = omega (arith, kept.grew.len, c.remove.ensures.len);
        capacity = c.remove.ensures.capacity ∙ kept.grew.capacity;
        nodes = c.remove.ensures.nodes ∙ kept.grew.nodes;
      };
    }
