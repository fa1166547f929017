-- A list of vectors, of which one is changed.
use Rattle.std.proofs.Common.{◌≡◌, ℕ, ◌<◌, ◌≤◌, zero, suc, List, [], ◌∷◌, length, get_or, set, refl, sym, ap, ◌∙◌, subst, arith, inl, inr}
use Rattle.std.specs.Prelude.{vec_capacity}
use Rattle.std.specs.declared.vec.Vec.{Vec}
use Rattle.std.proofs.lemmas.List.{get_or-map, get_or-set_other, get_or-set_same, map-set, set-get_or}
use Rattle.std.proofs.lemmas.Bool.{cases_eq}
use Rattle.process_queue.specs.Filing.{capacities_of, rooms_at, rooms_of}

pub length-rooms : {Z : Type 0} (lists : List (Vec ℕ Z)) → length (rooms_of lists) ≡ length lists
length-rooms [] = refl
length-rooms (list ∷ lists) = ap suc (length-rooms lists)

pub length-capacities : {Z : Type 0} (lists : List (Vec ℕ Z)) → length (capacities_of lists) ≡ length lists
length-capacities [] = refl
length-capacities (list ∷ lists) = ap suc (length-capacities lists)

module _ {Z : Type 0} (lists : List (Vec ℕ Z)) (site : ℕ) (old : Vec ℕ Z) (inside : site < length lists) (is : old ≡ get_or lists site old) where
  pub rooms-read : rooms_at (rooms_of lists) site ≡ old.items
  rooms-read = get_or-map (λ (list : Vec ℕ Z). list.items) lists site old [] inside ∙ ap (λ (list : Vec ℕ Z). list.items) (sym is)

  pub capacity-read : get_or (capacities_of lists) site 0 ≡ vec_capacity old
  capacity-read = get_or-map (λ (list : Vec ℕ Z). vec_capacity list) lists site old 0 inside ∙ ap (λ (list : Vec ℕ Z). vec_capacity list) (sym is)

  -- one with the same capacity in its place
  pub capacities-kept : (new : Vec ℕ Z) → vec_capacity new ≡ vec_capacity old → capacities_of (set lists site new) ≡ capacities_of lists
  capacities-kept new same =
      map-set (λ (list : Vec ℕ Z). vec_capacity list) lists site new ∙ ap (set (capacities_of lists) site) (same ∙ sym capacity-read)
      ∙ set-get_or (capacities_of lists) site 0

module _ {Z : Type 0} (lists : List (Vec ℕ Z)) (site : ℕ) (old : Vec ℕ Z) (inside : site < length lists) (is : old ≡ get_or lists site old) where
  -- one with the same items, and no less memory, in its place
  pub rooms-kept : (new : Vec ℕ Z) → new.items ≡ old.items → rooms_of (set lists site new) ≡ rooms_of lists
  rooms-kept new same =
      map-set (λ (list : Vec ℕ Z). list.items) lists site new
      ∙ ap (set (rooms_of lists) site) (same ∙ sym (rooms-read lists site old inside is)) ∙ set-get_or (rooms_of lists) site []

  pub capacities-grown : (new : Vec ℕ Z) → vec_capacity old ≤ vec_capacity new → (other : ℕ)
      → get_or (capacities_of lists) other 0 ≤ get_or (capacities_of (set lists site new)) other 0
  capacities-grown new more other =
      let changed = map-set (λ (list : Vec ℕ Z). vec_capacity list) lists site new in
      let was = capacity-read lists site old inside is in
      subst (λ caps. get_or (capacities_of lists) other 0 ≤ get_or caps other 0) (sym changed)
      (elim (cases_eq other site) [
        | inl same ↦ subst (λ o. get_or (capacities_of lists) o 0 ≤ get_or (set (capacities_of lists) site (vec_capacity new)) o 0) (sym same)
            (let now = get_or-set_same (capacities_of lists) site (vec_capacity new) 0 (omega (arith, length-capacities lists)) in omega arith)
        | inr differ ↦ let now = get_or-set_other (capacities_of lists) site other (vec_capacity new) 0 differ in omega arith
      ])

  pub capacity-now : (new : Vec ℕ Z) → get_or (capacities_of (set lists site new)) site 0 ≡ vec_capacity new
  capacity-now new =
      ap (λ caps. get_or caps site 0) (map-set (λ (list : Vec ℕ Z). vec_capacity list) lists site new)
      ∙ get_or-set_same (capacities_of lists) site (vec_capacity new) 0 (omega (arith, length-capacities lists))

pub rooms-set : {Z : Type 0} (lists : List (Vec ℕ Z)) (site : ℕ) (new : Vec ℕ Z) → rooms_of (set lists site new) ≡ set (rooms_of lists) site new.items
rooms-set lists site new = map-set (λ (list : Vec ℕ _). list.items) lists site new

-- a number that is no site has no rooms
pub rooms-outside : {Z : Type 0} (lists : List (Vec ℕ Z)) (site : ℕ) → length lists ≤ site → rooms_at (rooms_of lists) site ≡ []
rooms-outside [] zero outside = refl
rooms-outside [] (suc site) outside = refl
rooms-outside (l ∷ ls) zero outside = absurd (omega arith)
rooms-outside (l ∷ ls) (suc site) outside = rooms-outside ls site (omega arith)
