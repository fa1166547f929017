-- The tests of a site, read off its list of sites.
use Rattle.std.proofs.Common.{◌≡◌, ◌∙◌, ℕ, false, leb, ltb, not, find, List, length, sym, ap, refl}
use Rattle.std.specs.List.{list_any}
use Rattle.std.specs.List.Sorted.{IsStrictlyIncreasing}
use Rattle.std.proofs.lemmas.List.{length-map}
use Rattle.std.specs.declared.vec.Vec.{Vec}
use Rattle.std.specs.declared.alloc.Global.{Global}
use Rattle.kmc_base.specs.declared.ids.SiteId.{SiteId}
use Rattle.lattice_core.specs.declared.graph.TheConstants.{MAX_NEIGHBOURS}
use Rattle.lattice_core.specs.Fault.{has_bad_site, has_itself, has_too_many, one_sided, merged_of}
use Rattle.lattice_core.specs.SiteList.{site_numbers, number_lists, is_listed, list_of}
use Rattle.lattice_core.proofs.Merging.{All-below, merged-is}

module _ (lists : List (Vec SiteId Global)) (s : ℕ) (list : List SiteId) (is : site_numbers list ≡ list_of (number_lists lists) s) where
  pub count-is : length (number_lists lists) ≡ length lists
  count-is = length-map lists (λ (v : Vec SiteId Global). site_numbers v.items)

  pub has_bad_site-is : list_any (λ t. leb (length lists) t) (site_numbers list) ≡ has_bad_site (number_lists lists) s
  has_bad_site-is = rw (count-is, is) refl

  pub has_itself-is : is_listed (site_numbers list) s ≡ has_itself (number_lists lists) s
  has_itself-is = rw is refl

  -- a rising list of sites is merged already
  pub merged_of-is : IsStrictlyIncreasing (list_of (number_lists lists) s)
      → has_bad_site (number_lists lists) s ≡ false → site_numbers list ≡ merged_of (number_lists lists) s
  merged_of-is rising sound =
      is ∙ merged-is (length (number_lists lists)) (list_of (number_lists lists) s) (list_of (number_lists lists) s)
      (All-below _ _ sound) rising (λ t. refl)

  pub has_too_many-is : IsStrictlyIncreasing (list_of (number_lists lists) s)
      → has_bad_site (number_lists lists) s ≡ false
      → ltb MAX_NEIGHBOURS (length list) ≡ has_too_many (number_lists lists) s
  has_too_many-is rising sound =
      ap (λ n. ltb MAX_NEIGHBOURS n) (sym (length-map list (λ (t : SiteId). t.0)) ∙ ap length (merged_of-is rising sound))

  pub one_sided-is : IsStrictlyIncreasing (list_of (number_lists lists) s)
      → has_bad_site (number_lists lists) s ≡ false
      → find (λ t. not (is_listed (list_of (number_lists lists) t) s)) (site_numbers list)
      ≡ one_sided (number_lists lists) s
  one_sided-is rising sound = ap (find (λ t. not (is_listed (list_of (number_lists lists) t) s))) (merged_of-is rising sound)
