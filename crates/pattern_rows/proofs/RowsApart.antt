-- Rows of states of which none has a fault, and the states that they want.
use Rattle.std.proofs.Common.{◌≡◌, ◌∙◌, sym, ap, ℕ, zero, suc, ◌<◌, ◌++◌, ◌==◌, ◌&&◌, Bool, true, false, not, List, [], ◌∷◌, None, Some}
use Rattle.std.proofs.Common.{get_or, length, map, take, inl, inr, refl, arith, append_assoc, codes}
use Rattle.std.specs.List.{AllPairs, list_any}
use Rattle.std.specs.Option.{option_map_or}
use Rattle.std.proofs.lemmas.Bool.{cases_Bool, eq-eqb, false_from_ne_true, both_ways}
use Rattle.std.proofs.lemmas.List.{append-nil, get_or-map, get_or-take, length-map, length-take}
use Rattle.std.proofs.lemmas.List.Folds.{list_any_at}
use Rattle.std.proofs.lemmas.Slice.Eq.{bytes_eq-Decides}
use Rattle.kmc_base.specs.declared.ids.SpeciesId.{SpeciesId}
use Rattle.deck_values.proofs.EarliestFaults.{none_earliest, none_if}
use Rattle.deck_values.specs.Lists.{fault_if}
use Rattle.deck_words.specs.Tables.{same_word}
use Rattle.deck_words.specs.declared.kind.TheConstants.{DOUBLE_DENTATE, TWO_SPECIES}
use Rattle.pattern_rows.specs.Patterns.{wanted_of}
use Rattle.pattern_rows.specs.States.{EntityWords, StateWords, entity_fault, fault_below, wants_dentate, wants_other_species}
use Rattle.pattern_types.specs.Wants.{different_species, same_dentate}

-- a row does not want the dentate of an entity, nor another species of it
pub record IsApart (row : StateWords) (entity : EntityWords) : Type 0 where
  pub dentate : wants_dentate entity row ≡ false
  pub species : wants_other_species entity row ≡ false

-- the same of two rows
abbrev pub AreApart : StateWords → StateWords → Type 0
AreApart above None = Unit {0}
AreApart above (Some entity) = IsApart above entity

-- no member passes a test that none is found to pass
fails_at : {X : Type 0} (p : X → Bool) (xs : List X) (i : ℕ) (d : X) → i < length xs → list_any p xs ≡ false → p (get_or xs i d) ≡ false
fails_at p xs i d within none = false_from_ne_true (p (get_or xs i d)) (λ passes. both_ways (list_any p xs) none (list_any_at p xs i d within passes))

-- the row at a place has no fault
none_at : (rows above : List StateWords) (i : ℕ) (d : StateWords) → i < length rows → fault_below above rows ≡ None
    → option_map_or (entity_fault (above ++ take i rows)) (get_or rows i d) None ≡ None
none_at [] above i d within none = absurd (omega arith)
none_at (row ∷ rows) above zero d within none =
    ap (λ rs. option_map_or (entity_fault rs) row None) (append-nil above)
    ∙ (none_earliest (option_map_or (entity_fault above) row None) (fault_below (above ++ row ∷ []) rows) none).0
none_at (row ∷ rows) above (suc i) d within none =
    ap (λ rs. option_map_or (entity_fault rs) (get_or rows i d) None) (sym (append_assoc above (row ∷ []) (take i rows)))
    ∙ none_at rows (above ++ row ∷ []) i d (omega arith)
    (none_earliest (option_map_or (entity_fault above) row None) (fault_below (above ++ row ∷ []) rows) none).1

-- it is apart from each row above
apart_from : (above : List StateWords) (row : StateWords) (i : ℕ) (d : StateWords) → i < length above
    → option_map_or (entity_fault above) row None ≡ None → AreApart (get_or above i d) row
apart_from above None i d within none = tt
apart_from above (Some entity) i d within none =
    let other = fault_if (list_any (wants_other_species entity) above) entity.species.line TWO_SPECIES in
    let dentate = none_if (list_any (wants_dentate entity) above) entity.species.line DOUBLE_DENTATE (other ∷ []) none in
    let species = none_if (list_any (wants_other_species entity) above) entity.species.line TWO_SPECIES [] dentate.1 in
    record {
      dentate = fails_at (wants_dentate entity) above i d within dentate.0;
      species = fails_at (wants_other_species entity) above i d within species.0;
    }

pub rows_apart : (rows : List StateWords) → fault_below [] rows ≡ None → AllPairs AreApart rows
rows_apart rows none i j d before within =
    let first = apart_from (take j rows) (get_or rows j d) i d (omega (arith, length-take j rows)) (none_at rows [] j d within none) in
    rw (get_or-take j rows i d before) at first

-- what two rows that are apart want is no dentate twice
apart-dentates : (species : List ℕ → SpeciesId) (above row : StateWords) → AreApart above row
    → same_dentate (wanted_of species above) (wanted_of species row) ≡ false
apart-dentates species None row apart = refl
apart-dentates species (Some a) None apart =
    elim (cases_Bool (same_word (codes "*") a.species.word.bytes)) [ inl vacant ↦ rw vacant refl | inr holds ↦ rw holds refl ]
apart-dentates species (Some a) (Some b) apart =
    elim (cases_Bool (same_word (codes "*") a.species.word.bytes)) [
      | inl vacant ↦ rw vacant refl
      | inr holds ↦ elim (cases_Bool (same_word (codes "*") b.species.word.bytes)) [
        | inl vacant ↦ rw (holds, vacant) refl
        | inr too ↦ rw (holds, too) apart.dentate
      ]
    ]

one_species : (species : List ℕ → SpeciesId) (same : Bool) (a b : List ℕ) → same && not (same_word a b) ≡ false
    → same && not ((species a).0 == (species b).0) ≡ false
one_species species false a b one = refl
one_species species true a b one =
    elim (cases_Bool (same_word a b)) [
      | inl word ↦
          let equal : (species a).0 ≡ (species b).0 = ap (λ w. (species w).0) ((bytes_eq-Decides a b).0 word) in
          ap not (eq-eqb (species a).0 (species b).0 equal)
      | inr other ↦ absurd (both_ways (not (same_word a b)) one (rw other refl))
    ]

-- and not two species of an entity
apart-species : (species : List ℕ → SpeciesId) (above row : StateWords) → AreApart above row
    → different_species (wanted_of species above) (wanted_of species row) ≡ false
apart-species species None row apart = refl
apart-species species (Some a) None apart =
    elim (cases_Bool (same_word (codes "*") a.species.word.bytes)) [ inl vacant ↦ rw vacant refl | inr holds ↦ rw holds refl ]
apart-species species (Some a) (Some b) apart =
    elim (cases_Bool (same_word (codes "*") a.species.word.bytes)) [
      | inl vacant ↦ rw vacant refl
      | inr holds ↦ elim (cases_Bool (same_word (codes "*") b.species.word.bytes)) [
        | inl vacant ↦ rw (holds, vacant) refl
        | inr too ↦ rw (holds, too) (one_species species (a.entity == b.entity) a.species.word.bytes b.species.word.bytes apart.species)
      ]
    ]

-- what holds of each two members holds of what is made of them
pairs-map : {X Y : Type 0} (R : X → X → Type 0) (S : Y → Y → Type 0) (f : X → Y) (e : X) (xs : List X) → ((a b : X) → R a b → S (f a) (f b))
    → AllPairs R xs → AllPairs S (map f xs)
pairs-map R S f e xs keeps all i j d before within =
    let inside : j < length xs = omega (arith, length-map xs f) in
    rw (get_or-map f xs i e d (omega arith), get_or-map f xs j e d inside) (keeps (get_or xs i e) (get_or xs j e) (all i j e before inside))

pub dentates_apart : (species : List ℕ → SpeciesId) (rows : List StateWords) → AllPairs AreApart rows
    → AllPairs (λ a b. same_dentate a b ≡ false) (map (wanted_of species) rows)
dentates_apart species rows apart =
    pairs-map AreApart (λ a b. same_dentate a b ≡ false) (wanted_of species) None rows (apart-dentates species) apart

pub species_apart : (species : List ℕ → SpeciesId) (rows : List StateWords) → AllPairs AreApart rows
    → AllPairs (λ a b. different_species a b ≡ false) (map (wanted_of species) rows)
species_apart species rows apart =
    pairs-map AreApart (λ a b. different_species a b ≡ false) (wanted_of species) None rows (apart-species species) apart
