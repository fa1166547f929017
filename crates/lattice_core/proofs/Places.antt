-- The place of a number in a list.
use Rattle.std.proofs.Common.{◌≡◌, ℕ, ◌<◌, Bool, true, false, refl, cond, eqb, ltb, List, length, get_or, Option, Some, None, is_some}
use Rattle.std.proofs.Common.{inl, inr, sym, ap, ◌∙◌, arith, slice_get, IfSome, map}
use Rattle.std.specs.Option.{option_map}
use Rattle.kmc_base.specs.declared.ids.SiteId.{SiteId}
use Rattle.std.specs.List.{list_any, position, position_or_len}
use Rattle.std.specs.List.Sorted.{IsStrictlyIncreasing}
use Rattle.std.proofs.lemmas.Bool.{both_ways, cases_Bool, cond-false, cond-true, eq-eqb, eqb-true, lt-ltb, ltb-false, ltb-true, ne_eqb}
use Rattle.std.proofs.lemmas.List.{get_or-map}
use Rattle.std.proofs.lemmas.List.Folds.{list_any_at, list_any_none}
use Rattle.std.proofs.lemmas.List.Kept.{AllPairs-from_increasing}
use Rattle.std.proofs.lemmas.List.Quantifiers.{position-Some}
use Rattle.std.proofs.lemmas.List.Sums.{position_or_len_is, fails_before_first, passes_at_first}
use Rattle.std.proofs.lemmas.Option.{get_or_from_slice_get, none-some, same_Some, slice_get-get_or, slice_get_within}

-- there is a place exactly where some number passes
pub is_some-position : (p : ℕ → Bool) (xs : List ℕ) → is_some (position p xs) ≡ list_any p xs
is_some-position p xs =
    elim (cases_Bool (ltb (position_or_len p xs) (length xs))) [
      | inl t ↦ let within = ltb-true _ _ t in rw t (sym (list_any_at p xs _ 0 within (passes_at_first p xs 0 within)))
      | inr f ↦ let past = ltb-false _ _ f in
          rw f (sym (list_any_none p xs (λ k d low. let before : k < position_or_len p xs = omega arith in fails_before_first p xs k d before)))
    ]

-- the number at the place of a number is that number
pub slice_get-position : (xs : List ℕ) (t i : ℕ) → position (λ u. eqb u t) xs ≡ Some i → slice_get xs i ≡ Some t
slice_get-position xs t i h =
    let at = position-Some (λ u. eqb u t) xs i 0 h in
    slice_get-get_or xs i 0 at.0 ∙ ap Some (eqb-true _ _ at.1)

-- a place is within the list
pub position-within : (xs : List ℕ) (t i : ℕ) → position (λ u. eqb u t) xs ≡ Some i → i < length xs
position-within xs t i h = (position-Some (λ u. eqb u t) xs i 0 h).0

-- in a rising list the place of the number at a place is that place
pub position-slice_get : (xs : List ℕ) (t i : ℕ) → IsStrictlyIncreasing xs → slice_get xs i ≡ Some t → position (λ u. eqb u t) xs ≡ Some i
position-slice_get xs t i rising h =
    let within = slice_get_within xs i t h in
    let at = get_or_from_slice_get xs i t 0 h in
    let before : (k : ℕ) → k < i → eqb (get_or xs k 0) t ≡ false =
    λ k low. ne_eqb _ _ (λ e. let less = AllPairs-from_increasing xs rising k i 0 low within in
    absurd (omega arith)) in
    let is = position_or_len_is (λ u. eqb u t) xs i 0 (omega arith) before (λ _. eq-eqb _ _ at) in
    ap (λ n. cond (ltb n (length xs)) (Some n) None) is ∙ cond-true _ _ _ (lt-ltb _ _ within)

-- the same of a site that was looked up
pub position-site : (xs : List ℕ) (site : Option SiteId) (i : ℕ) → IsStrictlyIncreasing xs
    → option_map (λ (s : SiteId). s.0) site ≡ slice_get xs i
    → IfSome site (λ s. position (λ u. eqb u s.0) xs ≡ Some i)
position-site xs None i rising h = tt
position-site xs (Some s) i rising h = position-slice_get xs s.0 i rising (sym h)

none_from_is_some : (o : Option ℕ) → is_some o ≡ false → o ≡ None
none_from_is_some None h = refl
none_from_is_some (Some x) h = absurd (both_ways true h refl)

-- a number that is listed has a place within the list, and stands there
pub place_of-listed : (xs : List ℕ) (s : ℕ) → list_any (λ t. eqb t s) xs ≡ true
    → (position_or_len (λ t. eqb t s) xs < length xs) × (get_or xs (position_or_len (λ t. eqb t s) xs) 0 ≡ s)
place_of-listed xs s listed =
    let i = position_or_len (λ t. eqb t s) xs in
    elim (cases_Bool (ltb i (length xs))) [
      | inl t ↦ let within = ltb-true _ _ t in (within, eqb-true _ _ (passes_at_first (λ t. eqb t s) xs 0 within))
      | inr f ↦ let past = ltb-false _ _ f in
          absurd (both_ways _ (list_any_none (λ t. eqb t s) xs (λ k d low. let before : k < i = omega arith in
          fails_before_first (λ t. eqb t s) xs k d before)) listed)
    ]

-- the place that was found
pub position_or_len-found : (xs : List ℕ) (s i : ℕ) → position (λ t. eqb t s) xs ≡ Some i → position_or_len (λ t. eqb t s) xs ≡ i
position_or_len-found xs s i found =
    elim (cases_Bool (ltb (position_or_len (λ t. eqb t s) xs) (length xs)))
    [ inl t ↦ same_Some _ _ (sym (cond-true _ _ _ t) ∙ found) | inr f ↦ absurd (none-some i (sym (cond-false _ _ _ f) ∙ found)) ]

-- where there is none
pub position-none : (xs : List ℕ) (s : ℕ) → list_any (λ t. eqb t s) xs ≡ false → position (λ t. eqb t s) xs ≡ None
position-none xs s none = none_from_is_some _ (is_some-position (λ t. eqb t s) xs ∙ none)

-- what stands beside a site in a list of their values
pub get_or-place : {X : Type 0} (f : ℕ → X) (xs : List ℕ) (ys : List X) (s : ℕ) (d : X) → ys ≡ map f xs
    → list_any (λ t. eqb t s) xs ≡ true → get_or ys (position_or_len (λ t. eqb t s) xs) d ≡ f s
get_or-place f xs ys s d is listed =
    let place = place_of-listed xs s listed in
    ap (λ l. get_or l (position_or_len (λ t. eqb t s) xs) d) is ∙ get_or-map f xs _ 0 d place.0 ∙ ap f place.1
