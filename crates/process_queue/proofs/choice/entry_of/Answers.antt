use Rattle.std.proofs.Common.{◌≡◌, Some, get_or, ap, sym, ◌∙◌, inl, inr}
use Rattle.std.proofs.lemmas.Bool.{cases_eq, eq-eqb, ne_eqb}
use Rattle.std.specs.Option.{option_copied}
use Rattle.process_queue.proofs.ChosenEntries.{first-differs, first-has}
use Rattle.process_queue.specs.Filing.{in_room}
use Rattle.process_queue.proofs.choice.entry_of.Goals as goal

pub returns-in-Some : goal.returns-in-Some
returns-in-Some c =
    let slots = c.args.rooms.now.slab.slots in
    let list = c.args.list.now in
    let code = c.args.code in
    let e = c.in-Some.entry.now in
    let is : in_room slots (get_or list 0 0) ≡ Some e = sym c.in-Some.ensures in
    ap option_copied c.then_some.ensures ∙
    elim (cases_eq e.code code) [
      | inl same ↦ let t = eq-eqb e.code code same in rw t (sym (first-has slots list code e c.in-len1-up.len_at_least is same))
      | inr other ↦ let f = ne_eqb e.code code other in
          rw f (sym (first-differs slots list code e c.requires.rising c.requires.reached c.in-len1-up.len_at_least is other))
    ]
