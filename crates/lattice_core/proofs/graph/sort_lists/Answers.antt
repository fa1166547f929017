use Rattle.std.proofs.Common.{◌≡◌, ◌<◌, ◌∙◌, ℕ, length, set, subst, sym, inl, inr, arith, refl, ◌+◌}
use Rattle.std.proofs.lemmas.Bool.{cases_eq}
use Rattle.std.proofs.lemmas.List.{length-set}
use Rattle.std.specs.List.Sorted.{IsStrictlyIncreasing}
use Rattle.lattice_core.specs.SiteList.{number_lists, is_listed, list_of}
use Rattle.lattice_core.proofs.Numbers.{list_of-at, list_of-set_same, list_of-set_other}
use Rattle.lattice_core.proofs.graph.sort_lists.Goals as goal
use Rattle.lattice_core.proofs.graph.sort_lists.Goals.{After-sort_sites}

-- this turn's list rises, and the earlier ones do
rises : (c : After-sort_sites) (s : ℕ) → s < c.loop-i.i + 1
    → IsStrictlyIncreasing (list_of (number_lists (set c.loop-i.lists c.loop-i.i c.sort_sites.new.sites)) s)
rises c s low =
    let i = c.loop-i.i in
    let within : i < length c.loop-i.lists = omega arith in
    elim (cases_eq s i) [
      | inl e ↦ subst (λ k. IsStrictlyIncreasing (list_of (number_lists (set c.loop-i.lists i c.sort_sites.new.sites)) k)) (sym e)
          (rw (list_of-set_same c.loop-i.lists i c.sort_sites.new.sites within) c.sort_sites.ensures.rising)
      | inr n ↦ rw (list_of-set_other c.loop-i.lists i s c.sort_sites.new.sites n) (c.loop-i.invariant.rising s (omega arith))
    ]

-- each list names what it did
names : (c : After-sort_sites) (s t : ℕ)
    → is_listed (list_of (number_lists (set c.loop-i.lists c.loop-i.i c.sort_sites.new.sites)) s) t
    ≡ is_listed (list_of (number_lists c.loop-i.lists) s) t
names c s t =
    let i = c.loop-i.i in
    let within : i < length c.loop-i.lists = omega arith in
    elim (cases_eq s i) [
      | inl e ↦ subst (λ k. is_listed (list_of (number_lists (set c.loop-i.lists i c.sort_sites.new.sites)) k) t
          ≡ is_listed (list_of (number_lists c.loop-i.lists) k) t) (sym e)
          (rw (
            list_of-set_same c.loop-i.lists i c.sort_sites.new.sites within,
            list_of-at c.loop-i.lists i c.index-lists-i.result within,
          ) (c.sort_sites.ensures.same t))
      | inr n ↦ rw (list_of-set_other c.loop-i.lists i s c.sort_sites.new.sites n) refl
    ]

pub loop-i-preserved : goal.loop-i-preserved
loop-i-preserved c = record {
  same_length = length-set _ _ _ ∙ c.loop-i.invariant.same_length;
  rising = rises c;
  same_sites = λ s t. names c s t ∙ c.loop-i.invariant.same_sites s t;
}
