use Rattle.std.proofs.Common.{◌∙◌, get_or, ap, subst, Contains, rules}
use Rattle.std.specs.List.{list_any}
use Rattle.std.proofs.lemmas.List.Elements.{All-contains_itself}
use Rattle.std.proofs.lemmas.List.Filters.{dedup_is}
use Rattle.lattice_cell.proofs.Repeated.{any-from_sort, Contains-from_sort}
use Rattle.lattice_cell.proofs.distinct.distinct_joins.Goals as goal

pub returns : goal.returns
returns c =
    let copied = c.in_ok-kept.ensures.items_if_clones_equal (λ x y same. same) in
    let moved = c.sort_unstable.ensures.permutation in
    let is = dedup_is _ _ _ c.dedup.ensures.filtered in
    record {
      same = λ p. any-from_sort _ (λ x y e. grind (rules)) p _ _ _ moved is ∙ ap (list_any p) copied;
      among = λ k d within. subst (λ l. Contains l (get_or c.dedup.new.self.items k d)) copied
          (Contains-from_sort _ _ _ _ _ moved is (All-contains_itself c.dedup.new.self.items k d within));
    }
