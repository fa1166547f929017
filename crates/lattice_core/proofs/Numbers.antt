-- Searches over sites are searches over their numbers.
use Rattle.std.proofs.Common.{◌≡◌, ℕ, ◌+◌, ◌<◌, Bool, not, cond, List, [], ◌∷◌, length, get_or, set, refl, ap, ◌∙◌, sym, ◌||◌, ◌≢◌, arith}
use Rattle.std.specs.List.{list_any, position, prefix_len, position_or_len}
use Rattle.std.proofs.lemmas.List.{length-map, get_or-map, map-set, get_or-set_same, get_or-set_other}
use Rattle.std.specs.declared.vec.Vec.{Vec}
use Rattle.std.specs.declared.alloc.Global.{Global}
use Rattle.kmc_base.specs.declared.ids.SiteId.{SiteId}
use Rattle.lattice_core.specs.SiteList.{site_numbers, number_lists, list_of}

pub list_any-numbers : (p : ℕ → Bool) (xs : List SiteId) → list_any (λ (s : SiteId). p s.0) xs ≡ list_any p (site_numbers xs)
list_any-numbers p [] = refl
list_any-numbers p (x ∷ xs) = ap (λ b. p x.0 || b) (list_any-numbers p xs)

prefix_len-numbers : (p : ℕ → Bool) (xs : List SiteId) → prefix_len (λ (s : SiteId). p s.0) xs ≡ prefix_len p (site_numbers xs)
prefix_len-numbers p [] = refl
prefix_len-numbers p (x ∷ xs) = ap (λ n. cond (p x.0) (1 + n) 0) (prefix_len-numbers p xs)

pub position-numbers : (p : ℕ → Bool) (xs : List SiteId) → position (λ (s : SiteId). p s.0) xs ≡ position p (site_numbers xs)
position-numbers p xs =
    let e : position_or_len (λ (s : SiteId). p s.0) xs ≡ position_or_len p (site_numbers xs) = prefix_len-numbers (λ n. not (p n)) xs in
    let l : length (site_numbers xs) ≡ length xs = length-map xs (λ (s : SiteId). s.0) in
    rw (e, ← l) refl

-- the numbers of one of several lists
pub list_of-numbers : (lists : List (Vec SiteId Global)) (i : ℕ) (list : Vec SiteId Global) → i < length lists
    → list ≡ get_or lists i list → list_of (number_lists lists) i ≡ site_numbers list.items
list_of-numbers lists i list within is =
    get_or-map (λ (v : Vec SiteId Global). site_numbers v.items) lists i list [] within
    ∙ ap (λ (v : Vec SiteId Global). site_numbers v.items) (sym is)

-- one list replaced
pub number_lists-set : (lists : List (Vec SiteId Global)) (i : ℕ) (list : Vec SiteId Global)
    → number_lists (set lists i list) ≡ set (number_lists lists) i (site_numbers list.items)
number_lists-set lists i list = map-set (λ (v : Vec SiteId Global). site_numbers v.items) lists i list

pub list_of-set_same : (lists : List (Vec SiteId Global)) (i : ℕ) (list : Vec SiteId Global) → i < length lists
    → list_of (number_lists (set lists i list)) i ≡ site_numbers list.items
list_of-set_same lists i list within =
    let long : i < length (number_lists lists) = omega (arith, length-map lists (λ (v : Vec SiteId Global). site_numbers v.items)) in
    ap (λ l. list_of l i) (number_lists-set lists i list) ∙ get_or-set_same (number_lists lists) i (site_numbers list.items) [] long

pub list_of-set_other : (lists : List (Vec SiteId Global)) (i s : ℕ) (list : Vec SiteId Global) → s ≢ i
    → list_of (number_lists (set lists i list)) s ≡ list_of (number_lists lists) s
list_of-set_other lists i s list apart =
    ap (λ l. list_of l s) (number_lists-set lists i list) ∙ get_or-set_other (number_lists lists) i s (site_numbers list.items) [] apart

-- the numbers of the list at a place
pub list_of-at : (lists : List (Vec SiteId Global)) (i : ℕ) (default : Vec SiteId Global) → i < length lists
    → list_of (number_lists lists) i ≡ site_numbers (get_or lists i default).items
list_of-at lists i default within = get_or-map (λ (v : Vec SiteId Global). site_numbers v.items) lists i default [] within
