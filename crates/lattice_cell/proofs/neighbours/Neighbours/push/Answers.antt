use Rattle.std.proofs.Common.{◌<◌, ◌≡◌, ◌∙◌, ◌||◌, true, false, length, nat_lt, ap, subst, sym, arith}
use Rattle.std.proofs.Math.Bool.{or-false, or-true}
use Rattle.std.proofs.lemmas.Bool.{lt-ltb, ltb-true, false_from_ne_true}
use Rattle.std.specs.List.{list_any}
use Rattle.lattice_core.specs.declared.graph.TheConstants.{MAX_NEIGHBOURS}
use Rattle.lattice_core.specs.SiteList.{number_lists}
use Rattle.lattice_cell.specs.Naming.{HasEachOnce}
use Rattle.lattice_cell.proofs.Crowded.{is_long}
use Rattle.lattice_cell.proofs.Named.{names-add}
use Rattle.lattice_cell.proofs.Pushed.{number_lists-kept, HasEachOnce-push, long-push}
use Rattle.lattice_cell.proofs.neighbours.Neighbours.push.Goals as goal

pub invariant_of-self : goal.invariant_of-self
invariant_of-self c =
    let self = c.args.self.now in
    let same = number_lists-kept self.lists.items c.args.s c.index_mut-list.result.now c.push.new.self c.index_mut-list.ensures.value
    c.in_err-push.ensures.items in
    record {
      each_once = subst HasEachOnce (sym same) self.each_once;
      crowded = self.crowded ∙ ap (list_any is_long) (sym same);
    }

pub invariant_of-self-then-len-gt-MAX_NEIGHBOURS : goal.invariant_of-self-then-len-gt-MAX_NEIGHBOURS
invariant_of-self-then-len-gt-MAX_NEIGHBOURS c =
    let self = c.args.self.now in
    let lists = self.lists.items in
    let new = c.push.new.self in
    let within : c.args.s < length lists = omega (arith, self.lists.ok.0) in
    let long : nat_lt MAX_NEIGHBOURS (length new.items) ≡ true = lt-ltb _ _ (omega (arith, c.if-len-gt-MAX_NEIGHBOURS.true, new.ok.0)) in
    record {
      each_once = HasEachOnce-push lists c.args.s c.args.t c.index_mut-list.result.now new within c.index_mut-list.ensures.value
          c.in_ok-push.ensures.items (omega (arith, self.lists.ok.0)) c.requires.new self.each_once;
      crowded = sym (long-push lists c.args.s c.args.t c.index_mut-list.result.now new within c.index_mut-list.ensures.value
          c.in_ok-push.ensures.items ∙ ap (λ b. list_any is_long (number_lists lists) || b) long ∙ or-true _);
    }

pub invariant_of-self-else-len-gt-MAX_NEIGHBOURS : goal.invariant_of-self-else-len-gt-MAX_NEIGHBOURS
invariant_of-self-else-len-gt-MAX_NEIGHBOURS c =
    let self = c.args.self.now in
    let lists = self.lists.items in
    let new = c.push.new.self in
    let within : c.args.s < length lists = omega (arith, self.lists.ok.0) in
    let few : nat_lt MAX_NEIGHBOURS (length new.items) ≡ false =
    false_from_ne_true _ (λ h. absurd (omega (arith, ltb-true _ _ h, c.if-len-gt-MAX_NEIGHBOURS.false, new.ok.0))) in
    record {
      each_once = HasEachOnce-push lists c.args.s c.args.t c.index_mut-list.result.now new within c.index_mut-list.ensures.value
          c.in_ok-push.ensures.items (omega (arith, self.lists.ok.0)) c.requires.new self.each_once;
      crowded = self.crowded ∙ sym (long-push lists c.args.s c.args.t c.index_mut-list.result.now new within c.index_mut-list.ensures.value
          c.in_ok-push.ensures.items ∙ ap (λ b. list_any is_long (number_lists lists) || b) few ∙ or-false _);
    }

pub returns-then-len-gt-MAX_NEIGHBOURS-clause-more : goal.returns-then-len-gt-MAX_NEIGHBOURS-clause-more
returns-then-len-gt-MAX_NEIGHBOURS-clause-more c =
    names-add c.args.self.now.lists.items c.args.s c.args.t c.index_mut-list.result.now c.push.new.self
    (omega (arith, c.args.self.now.lists.ok.0)) c.index_mut-list.ensures.value c.in_ok-push.ensures.items

pub returns-else-len-gt-MAX_NEIGHBOURS-clause-more : goal.returns-else-len-gt-MAX_NEIGHBOURS-clause-more
returns-else-len-gt-MAX_NEIGHBOURS-clause-more c =
    names-add c.args.self.now.lists.items c.args.s c.args.t c.index_mut-list.result.now c.push.new.self
    (omega (arith, c.args.self.now.lists.ok.0)) c.index_mut-list.ensures.value c.in_ok-push.ensures.items
