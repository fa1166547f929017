-- the place of a name is where the list has it, and there is none if and only if the list has it nowhere
use Rattle.std.proofs.Common.{◌≡◌, ◌↔◌, ℕ, ◌+◌, ◌<◌, Bool, true, false, not, IsTrue, IsNone, Option, Some, None, List, []}
use Rattle.std.proofs.Common.{◌∷◌, length, zero, suc, subst, add-zero, refl, ap, ◌∙◌, arith, ⊎_elim}
use Rattle.std.specs.List.{list_any, position_from, slice_get}
use Rattle.std.specs.Str.{bytes_eq}
use Rattle.std.proofs.lemmas.Bool.{and_parts, cases_Bool, or_parts}
use Rattle.std.proofs.lemmas.Slice.Eq.{bytes_eq-Decides}
use Rattle.species_book.specs.Book.{are_distinct, place_of}

same_name : (a b : List ℕ) → bytes_eq a b ≡ true → a ≡ b
same_name a b e = (bytes_eq-Decides a b).0 e

eq_name : (a b : List ℕ) → a ≡ b → bytes_eq a b ≡ true
eq_name a b e = (bytes_eq-Decides a b).1 e

-- what is found at a place is there
record StandsAt (names : List (List ℕ)) (name : List ℕ) (at j : ℕ) : Type 0 where
  pub offset : ℕ
  pub place : j ≡ at + offset
  pub stands : slice_get names offset ≡ Some name

sound : (names : List (List ℕ)) (name : List ℕ) (at j : ℕ) → position_from (λ n. bytes_eq n name) at names ≡ Some j → StandsAt names name at j
sound [] name at j found = absurd (let e : ⊥ = cc in e)
sound (n ∷ ns) name at j found = ⊎_elim
    (λ (here : bytes_eq n name ≡ true).
    let first : Some at ≡ Some j = rw here at found in
    let place : at ≡ j = cc in
    record { offset = 0; place = omega arith; stands = ap Some (same_name n name here) })
    (λ (there : bytes_eq n name ≡ false).
    let rest : StandsAt ns name (at + 1) j = sound ns name (at + 1) j (rw there at found) in
    record { offset = suc rest.offset; place = omega (arith, rest.place); stands = rest.stands })
    (cases_Bool (bytes_eq n name))

is_false : (x : Bool) → not x ≡ true → x ≡ false
is_false true e = cc
is_false false e = refl

-- no member of a list is a name that differs from each
differs : (names : List (List ℕ)) (name other : List ℕ) (i : ℕ) → slice_get names i ≡ Some name
    → list_any (λ m. bytes_eq other m) names ≡ false → bytes_eq other name ≡ false
differs [] name other i stands none = absurd (let e : ⊥ = cc in e)
differs (n ∷ ns) name other zero stands none =
    let same : n ≡ name = cc in
    subst (λ (m : List ℕ). bytes_eq other m ≡ false) same (or_parts (bytes_eq other n) _ none).0
differs (n ∷ ns) name other (suc i) stands none = differs ns name other i stands (or_parts (bytes_eq other n) _ none).1

complete : (names : List (List ℕ)) (name : List ℕ) (at i : ℕ) → are_distinct names ≡ true
    → slice_get names i ≡ Some name → position_from (λ n. bytes_eq n name) at names ≡ Some (at + i)
complete [] name at i distinct stands = absurd (let e : ⊥ = cc in e)
complete (n ∷ ns) name at zero distinct stands =
    let same : n ≡ name = cc in
    rw (eq_name n name same, add-zero) refl
complete (n ∷ ns) name at (suc i) distinct stands =
    let others = list_any (λ m. bytes_eq n m) ns in
    let parts = and_parts (not others) (are_distinct ns) distinct in
    let place : at + 1 + i ≡ at + suc i = omega arith in
    rw (differs ns name n i stands (is_false others parts.0)) (complete ns name (at + 1) i parts.1 stands ∙ ap Some place)

pub place_found : (names : List (List ℕ)) (name : List ℕ) → IsTrue (are_distinct names) → (i : ℕ)
    → (place_of names name ≡ Some i) ↔ (slice_get names i ≡ Some name)
place_found names name distinct i = (
  (λ found.
      let at : StandsAt names name 0 i = sound names name 0 i found in
      let same : i ≡ at.offset = omega (arith, at.place) in
      rw same at.stands),
  (λ stands. let same : 0 + i ≡ i = omega arith in complete names name 0 i distinct stands ∙ ap Some same),
)

none_stands : (names : List (List ℕ)) (name : List ℕ) (r : Option ℕ) → place_of names name ≡ r
    → ((i : ℕ) → slice_get names i ≡ Some name → ⊥) → IsNone r
none_stands names name None e nowhere = refl
none_stands names name (Some j) e nowhere = absurd (let at : StandsAt names name 0 j = sound names name 0 j e in nowhere at.offset at.stands)

not_both : (r : Option ℕ) (i : ℕ) → IsNone r → r ≡ Some i → ⊥
not_both None i none e = cc
not_both (Some j) i none e = let f : true ≡ false = none in cc

pub place_none : (names : List (List ℕ)) (name : List ℕ) → IsTrue (are_distinct names) → IsNone (place_of names name)
    ↔ ((i : ℕ) → slice_get names i ≡ Some name → ⊥)
place_none names name distinct = (
  (λ none i stands. not_both (place_of names name) i none ((place_found names name distinct i).1 stands)),
  none_stands names name (place_of names name) refl,
)

inside : (names : List (List ℕ)) (name : List ℕ) (i : ℕ) → slice_get names i ≡ Some name → i < length names
inside [] name i stands = absurd (let e : ⊥ = cc in e)
inside (n ∷ ns) name zero stands = omega arith
inside (n ∷ ns) name (suc i) stands = omega (arith, inside ns name i stands)

pub place_below : (names : List (List ℕ)) (name : List ℕ) (i : ℕ) → place_of names name ≡ Some i → i < length names
place_below names name i found =
    let at : StandsAt names name 0 i = sound names name 0 i found in
    omega (arith, at.place, inside names name at.offset at.stands)

-- the same names, kept in another way
pub none_at : {T : Type 0} (r : Option T) (name : List ℕ) (names others : List (List ℕ)) → names ≡ others
    → IsNone r ↔ ((i : ℕ) → slice_get names i ≡ Some name → ⊥) → IsNone r ↔ ((i : ℕ) → slice_get others i ≡ Some name → ⊥)
none_at r name names others same none = subst (λ (ns : List (List ℕ)). IsNone r ↔ ((i : ℕ) → slice_get ns i ≡ Some name → ⊥)) same none
