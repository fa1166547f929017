use Rattle.std.proofs.Common.{◌≡◌, ◌+◌, ◌<◌, List, ℕ, None, length, get_or, sym, subst, ◌∙◌, arith, inl, inr}
use Rattle.std.proofs.lemmas.Bool.{cases_lt}
use Rattle.std.proofs.lemmas.List.{get_or_default}
use Rattle.kmc_base.specs.declared.entry.Entry.{Entry}
use Rattle.kmc_base.specs.declared.firing_time.When.TheVariants.{At}
use Rattle.process_queue.proofs.FiledRooms.{IsPartlyFiled, partly-added, partly-replaced}
use Rattle.process_queue.proofs.filing.file_all.Goals as goal

-- the entries up to this place are filed
filed : (c : goal.After-file_one) → IsPartlyFiled c.args.rooms.now.slab.slots c.file_one.new.rooms.slab.slots c.args.list.now.items
    c.file_one.new.list.items c.args.entries.now (c.loop-place.place + 1)
filed c =
    let old = c.args.rooms.now.slab.slots in
    let new = c.file_one.new.rooms.slab in
    let before = c.args.list.now.items in
    let now = c.loop-place.list.items in
    let entries = c.args.entries.now in
    let place = c.loop-place.place in
    let room = c.file_one.result in
    let none : Entry = record { code = 0; lg = None; born = 0; born_time = 0; when = At 0 } in
    let e = get_or entries place none in
    let more : place < length entries = c.loop-place-test.true in
    let entry : get_or entries place e ≡ e = get_or_default entries place e none more in
    let partly = c.loop-place.invariant.partly in
    let updates = c.file_one.ensures.updates in
    elim (cases_lt place (length now)) [
      | inl within ↦
          let is = c.file_one.ensures.replaced within in
          subst (λ (list : List ℕ). IsPartlyFiled old new.slots before list entries (place + 1)) (sym is.0)
          (partly-replaced old c.loop-place.rooms.slab new before now entries place room e partly more entry updates within is.1)
      | inr full ↦
          let is = c.file_one.ensures.added full in
          subst (λ (list : List ℕ). IsPartlyFiled old new.slots before list entries (place + 1)) (sym is.0)
          (partly-added old c.loop-place.rooms.slab new before now entries place room e partly more entry updates full is.1)
    ]

pub loop-place-preserved : goal.loop-place-preserved
loop-place-preserved c =
    let grew = c.file_one.ensures.grew in
    let kept = c.loop-place.invariant.grew in
    record {
      partly = filed c;
      grew = record {
        len = omega (arith, grew.len, kept.len);
        capacity = grew.capacity ∙ kept.capacity;
        nodes = grew.nodes ∙ kept.nodes;
      };
      capacity = c.file_one.ensures.capacity ∙ c.loop-place.invariant.capacity;
    }
