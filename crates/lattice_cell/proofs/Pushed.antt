-- Lists of neighbours after a push to one of them.
use Rattle.std.proofs.Common.{◌≡◌, ℕ, ◌+◌, ◌<◌, false, ◌||◌, List, [], ◌∷◌, ◌++◌, length, get_or, set, sym, ◌∙◌, ap, subst, nat_lt, arith}
use Rattle.std.specs.List.{list_any}
use Rattle.std.proofs.Math.Seq.{map-set_same}
use Rattle.std.proofs.lemmas.Bool.{ltb-true, lt-ltb}
use Rattle.std.proofs.lemmas.List.{map-append, length-append, length-map}
use Rattle.std.specs.declared.vec.Vec.{Vec}
use Rattle.std.specs.declared.alloc.Global.{Global}
use Rattle.kmc_base.specs.declared.ids.SiteId.{SiteId}
use Rattle.lattice_core.specs.declared.graph.TheConstants.{MAX_NEIGHBOURS}
use Rattle.lattice_core.specs.SiteList.{site_numbers, number_lists, list_of}
use Rattle.lattice_core.proofs.Numbers.{number_lists-set, list_of-numbers}
use Rattle.lattice_cell.specs.Naming.{names, HasEachOnce}
use Rattle.lattice_cell.proofs.Crowded.{is_long, long-set}
use Rattle.lattice_cell.proofs.EachOnce.{HasEachOnce-add}

-- the numbers, with one more in the list of a site
pub number_lists-add : (lists : List (Vec SiteId Global)) (s t : ℕ) (old new : Vec SiteId Global) → s < length lists
    → old ≡ get_or lists s old → new.items ≡ old.items ++ record { 0 = t } ∷ []
    → number_lists (set lists s new) ≡ set (number_lists lists) s (list_of (number_lists lists) s ++ t ∷ [])
number_lists-add lists s t old new within was is =
    number_lists-set lists s new
    ∙ ap (λ l. set (number_lists lists) s (site_numbers l)) is
    ∙ ap (set (number_lists lists) s) (map-append (λ (v : SiteId). v.0) old.items (record { 0 = t } ∷ []))
    ∙ ap (λ l. set (number_lists lists) s (l ++ t ∷ [])) (sym (list_of-numbers lists s old within was))

-- and those where it was not added
pub number_lists-kept : (lists : List (Vec SiteId Global)) (s : ℕ) (old new : Vec SiteId Global)
    → old ≡ get_or lists s old → new.items ≡ old.items → number_lists (set lists s new) ≡ number_lists lists
number_lists-kept lists s old new was is =
    map-set_same (λ (v : Vec SiteId Global). site_numbers v.items) lists s new old
    (ap (λ l. site_numbers l) is ∙ ap (λ (v : Vec SiteId Global). site_numbers v.items) was)

module _ (lists : List (Vec SiteId Global)) (s t : ℕ) (old new : Vec SiteId Global) (within : s < length lists)
    (was : old ≡ get_or lists s old) (is : new.items ≡ old.items ++ record { 0 = t } ∷ []) where
  count-numbers : length (number_lists lists) ≡ length lists
  count-numbers = length-map lists (λ (v : Vec SiteId Global). site_numbers v.items)

  -- each site is named once where the pushed one was not named
  pub HasEachOnce-push : t < length lists → names lists s t ≡ false → HasEachOnce (number_lists lists) → HasEachOnce (number_lists (set lists s new))
  HasEachOnce-push inside fresh once =
      subst HasEachOnce (sym (number_lists-add lists s t old new within was is))
      (HasEachOnce-add (number_lists lists) s t (omega (arith, count-numbers, within)) (omega (arith, count-numbers, inside)) fresh once)

  -- some list is too long where one was, or where this one is
  pub long-push : list_any is_long (number_lists (set lists s new))
      ≡ (list_any is_long (number_lists lists) || nat_lt MAX_NEIGHBOURS (length new.items))
  long-push =
      let longer = list_of (number_lists lists) s ++ t ∷ [] in
      let more : length longer ≡ length (list_of (number_lists lists) s) + 1 = length-append (list_of (number_lists lists) s) (t ∷ []) in
      let same : length longer ≡ length new.items =
      omega (
        arith,
        more,
        ap length is,
        length-append old.items (record { 0 = t } ∷ []),
        ap length (list_of-numbers lists s old within was),
        length-map old.items (λ (v : SiteId). v.0),
      ) in
      ap (list_any is_long) (number_lists-add lists s t old new within was is)
      ∙ long-set (number_lists lists) s longer (omega (arith, count-numbers, within))
      (λ long. lt-ltb _ _ (omega (arith, more, ltb-true _ _ long)))
      ∙ ap (λ n. list_any is_long (number_lists lists) || nat_lt MAX_NEIGHBOURS n) same
