-- What is kept of the rows above, and one row more.
use Rattle.std.proofs.Common.{[], ◌∷◌, ◌++◌, ◌+◌, ◌<◌, Option, None, add-one, drop, get_or, length, map, take}
use Rattle.std.proofs.Math.Seq.{take-suc}
use Rattle.std.proofs.lemmas.List.{get_or_default, map-append}
use Rattle.std.specs.Option.{option_map_or}
use Rattle.deck_values.proofs.EarliestFaults.{earliest_groups, next_left}
use Rattle.deck_words.specs.Faults.{earliest}
use Rattle.deck_words.specs.declared.fault.LineFault.{LineFault}
use Rattle.pattern_rows.specs.States.{StateWords, entity_fault, fault_below}
use Rattle.pattern_rows.specs.Views.{state_at}
use Rattle.pattern_rows.specs.declared.state.StateRow.{StateRow}
use Rattle.std.proofs.Common.{◌≡◌, ◌∙◌, sym, ap, ◌||◌, Bool, true, false, not, List, ℕ, refl, inl, inr, subst}
use Rattle.std.proofs.lemmas.Bool.{both_ways, cases_Bool}
use Rattle.std.proofs.lemmas.Slice.Eq.{bytes_eq-Decides}
use Rattle.deck_words.specs.Tables.{same_word}

same_from : (a b : List ℕ) → same_word a b ≡ true → a ≡ b
same_from a b same = (bytes_eq-Decides a b).0 same

same_words : (a b c : List ℕ) → same_word a c ≡ true → same_word b c ≡ true → same_word a b ≡ true
same_words a b c first second = subst (λ w. same_word a w ≡ true) (sym (same_from b c second)) first

twice : (b : Bool) → b ≡ (b || b)
twice true = refl
twice false = refl

-- the first species differs from a third one where it differs from the second, or the second does from the third
differ : (first word other : List ℕ)
    → (not (same_word first word) || not (same_word first other)) ≡ (not (same_word first other) || not (same_word word other))
differ first word other =
    elim (cases_Bool (same_word first word)) [
      | inl same ↦
          rw same (twice (not (same_word first other))
          ∙ ap (λ w. not (same_word first other) || not (same_word w other)) (same_from first word same))
      | inr apart ↦ elim (cases_Bool (same_word first other)) [
        | inl one ↦ elim (cases_Bool (same_word word other)) [
          | inl two ↦ absurd (both_ways (same_word first word) apart (same_words first word other one two))
          | inr more ↦ rw (apart, one, more) refl
        ]
        | inr more ↦ rw (apart, more) refl
      ]
    ]

-- some species is another one than a given one, among those seen and one more
pub another_more : (are_two : Bool) (first word other : List ℕ)
    → ((are_two || not (same_word first word)) || not (same_word first other))
    ≡ ((are_two || not (same_word first other)) || not (same_word word other))
another_more true first word other = refl
another_more false first word other = differ first word other

module _ (text : List ℕ) (rows : List StateRow) (i : ℕ) (d : StateRow) (within : i < length rows) where
  abbrev above : ℕ → List StateWords
  above n = map (state_at text) (take n rows)

  abbrev next : StateWords
  next = state_at text (get_or rows i d)

  pub rows_more : above (i + 1) ≡ above i ++ next ∷ []
  rows_more =
      ap above (add-one i) ∙ ap (map (state_at text)) (take-suc rows i d within)
      ∙ map-append (state_at text) (take i rows) (get_or rows i d ∷ [])

  -- the fault of one row more
  pub fault_more : (fault new here all : Option LineFault) → here ≡ option_map_or (entity_fault (above i)) next None
      → new ≡ earliest fault here
      → earliest fault (fault_below (above i) (map (state_at text) (drop i rows))) ≡ all
      → earliest new (fault_below (above (i + 1)) (map (state_at text) (drop (i + 1) rows))) ≡ all
  fault_more fault new here all found new_is before =
      let rest = map (state_at text) (drop (i + 1) rows) in
      let row = get_or rows i d in
      let own = option_map_or (entity_fault (above i)) next None in
      ap (λ f. earliest f (fault_below (above (i + 1)) rest)) (new_is ∙ ap (earliest fault) found)
      ∙ ap (λ rs. earliest (earliest fault own) (fault_below rs rest)) rows_more
      ∙ earliest_groups fault own (fault_below (above i ++ next ∷ []) rest)
      ∙ ap (λ left. earliest fault (fault_below (above i) left))
      (sym (next_left (state_at text) rows i row within (get_or_default rows i d row within)))
      ∙ before
