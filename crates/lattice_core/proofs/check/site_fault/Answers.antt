use Rattle.std.proofs.Common.{◌≡◌, ◌∙◌, true, false, sym, ap, None, Some}
use Rattle.std.proofs.lemmas.Bool.{lt-ltb, le-ltb}
use Rattle.std.specs.Option.{option_map}
use Rattle.lattice_core.specs.declared.fault.GraphFault.TheVariants.{OneSided}
use Rattle.lattice_core.specs.Fault.{has_bad_site, has_itself, one_sided}
use Rattle.lattice_core.specs.SiteList.{number_lists}
use Rattle.lattice_core.proofs.Faults.{fault-bad_site, fault-itself, fault-too_many, fault-one_sided}
use Rattle.lattice_core.proofs.SiteTests.{has_bad_site-is, has_itself-is, has_too_many-is, one_sided-is}
use Rattle.lattice_core.proofs.check.site_fault.Goals as goal
use Rattle.lattice_core.proofs.check.site_fault.Goals.{Then-has_bad_site, Else-has_bad_site, Then-has_site, Else-has_site}

pub has_site-requires : goal.has_site-requires
has_site-requires c = record { rising = rw c.list_at-list.ensures (c.requires.rising c.args.site.0) }

pub returns-then-has_bad_site : goal.returns-then-has_bad_site
returns-then-has_bad_site c =
    let L = number_lists c.args.lists.now in
    let bad : has_bad_site L c.args.site.0 ≡ true =
    sym (c.has_bad_site.ensures ∙ has_bad_site-is c.args.lists.now c.args.site.0 _ c.list_at-list.ensures)
    ∙ c.if-has_bad_site.true in
    sym (fault-bad_site L c.args.site.0 bad)

-- the first test fails
sound : (c : Else-has_bad_site) → has_bad_site (number_lists c.args.lists.now) c.args.site.0 ≡ false
sound c = sym (c.has_bad_site.ensures ∙ has_bad_site-is c.args.lists.now c.args.site.0 _ c.list_at-list.ensures) ∙ c.if-has_bad_site.false

pub returns-then-has_site : goal.returns-then-has_site
returns-then-has_site c =
    let L = number_lists c.args.lists.now in
    let own : has_itself L c.args.site.0 ≡ true =
    sym (c.has_site.ensures ∙ has_itself-is c.args.lists.now c.args.site.0 _ c.list_at-list.ensures)
    ∙ c.if-has_site.true in
    sym (fault-itself L c.args.site.0 (sound (goal.at.returns-then-has_site c).Else-has_bad_site) own)

-- and so does the second
not_own : (c : Else-has_site) → has_itself (number_lists c.args.lists.now) c.args.site.0 ≡ false
not_own c = sym (c.has_site.ensures ∙ has_itself-is c.args.lists.now c.args.site.0 _ c.list_at-list.ensures) ∙ c.if-has_site.false

pub returns-then-list-gt-MAX_NEIGHBOURS : goal.returns-then-list-gt-MAX_NEIGHBOURS
returns-then-list-gt-MAX_NEIGHBOURS c =
    let at = goal.at.returns-then-list-gt-MAX_NEIGHBOURS c in
    let L = number_lists c.args.lists.now in
    let s = c.args.site.0 in
    let none_bad = sound at.Else-has_bad_site in
    let is = has_too_many-is c.args.lists.now s c.list_at-list.result.now c.list_at-list.ensures (c.requires.rising s) none_bad in
    sym (fault-too_many L s none_bad (not_own at.Else-has_site) (sym is ∙ lt-ltb _ _ c.if-list-gt-MAX_NEIGHBOURS.true))

pub returns-in_err-other : goal.returns-in_err-other
returns-in_err-other c =
    let at = goal.at.returns-in_err-other c in
    let L = number_lists c.args.lists.now in
    let s = c.args.site.0 in
    let none_bad = sound at.Else-has_bad_site in
    let few = sym (has_too_many-is c.args.lists.now s c.list_at-list.result.now c.list_at-list.ensures
    (c.requires.rising s) none_bad) ∙ le-ltb _ _ c.if-list-gt-MAX_NEIGHBOURS.false in
    let is = c.one_sided.ensures ∙ one_sided-is c.args.lists.now s c.list_at-list.result.now c.list_at-list.ensures (c.requires.rising s) none_bad in
    let none : one_sided L s ≡ None = sym is ∙ c.in_err-other.was in
    c.from_residual.ensures ∙ sym (fault-one_sided L s none_bad (not_own at.Else-has_site) few ∙ ap (option_map (OneSided s)) none)

pub returns : goal.returns
returns c =
    let at = goal.at.returns c in
    let L = number_lists c.args.lists.now in
    let s = c.args.site.0 in
    let none_bad = sound at.Else-has_bad_site in
    let few = sym (has_too_many-is c.args.lists.now s c.list_at-list.result.now c.list_at-list.ensures
    (c.requires.rising s) none_bad) ∙ le-ltb _ _ c.if-list-gt-MAX_NEIGHBOURS.false in
    let is = c.one_sided.ensures ∙ one_sided-is c.args.lists.now s c.list_at-list.result.now c.list_at-list.ensures (c.requires.rising s) none_bad in
    let some : one_sided L s ≡ Some c.in_ok-other.other = sym is ∙ c.in_ok-other.was in
    sym (fault-one_sided L s none_bad (not_own at.Else-has_site) few ∙ ap (option_map (OneSided s)) some)
