-- The names of some sections, and one more.
use Rattle.std.proofs.Common.{◌≡◌, ◌==◌, ◌∙◌, sym, ap, ℕ, ◌++◌, Bool, true, false, List, [], ◌∷◌, Option, map, not, refl, inl, inr}
use Rattle.std.proofs.Common.{◌+◌, ◌<◌, drop, get_or, length, take}
use Rattle.std.specs.List.{list_any}
use Rattle.std.proofs.lemmas.Bool.{cases_eq, ne_eqb}
use Rattle.dec_text.specs.Spans.{bytes_at}
use Rattle.deck_shape.specs.Blocks.{section_at}
use Rattle.deck_shape.specs.declared.shape.Section.{Section}
use Rattle.deck_values.proofs.EarliestFaults.{earliest_groups, next_left}
use Rattle.deck_values.proofs.Repeats.{next_name}
use Rattle.deck_values.specs.Lists.{fault_if}
use Rattle.deck_words.specs.Faults.{earliest}
use Rattle.deck_words.specs.Tables.{same_word}
use Rattle.deck_words.specs.declared.fault.LineFault.{LineFault}
use Rattle.deck_words.specs.declared.kind.TheConstants.{REPEATED_NAME}
use Rattle.pattern_rows.specs.SectionNames.{repeated_below}

-- the name of a section
abbrev pub name_of : List ℕ → Section → List ℕ
name_of text section = bytes_at text section.block.name

pub not-not : (b : Bool) → not (not b) ≡ b
not-not true = refl
not-not false = refl

same_byte : (x y : ℕ) → (x == y) ≡ (y == x)
same_byte x y =
    elim (cases_eq x y) [ inl e ↦ rw e refl | inr ne ↦ ne_eqb x y ne ∙ sym (ne_eqb y x (λ e. ne (sym e))) ]

pub same_word-flips : (a b : List ℕ) → same_word a b ≡ same_word b a
same_word-flips [] [] = refl
same_word-flips [] (y ∷ b) = refl
same_word-flips (x ∷ a) [] = refl
same_word-flips (x ∷ a) (y ∷ b) = rw (same_byte x y, same_word-flips a b) refl

pub any-flips : (word : List ℕ) (words : List (List ℕ)) → list_any (λ w. same_word w word) words ≡ list_any (same_word word) words
any-flips word [] = refl
any-flips word (w ∷ words) = rw (same_word-flips w word, any-flips word words) refl

module _ (text : List ℕ) (sections : List Section) (i : ℕ) (section : Section) (within : i < length sections)
    (is : section ≡ get_or sections i section) where
  abbrev above : ℕ → List (List ℕ)
  above n = map (name_of text) (take n sections)

  pub names_more : above (i + 1) ≡ above i ++ name_of text section ∷ []
  names_more = next_name (name_of text) sections i section (name_of text section) within (ap (name_of text) is)

  -- the fault of one section more
  pub repeats_more : (fault new all : Option LineFault) (repeats : Bool) → repeats ≡ list_any (λ w. same_word w (name_of text section)) (above i)
      → new ≡ earliest fault (fault_if repeats section.block.line REPEATED_NAME)
      → earliest fault (repeated_below (above i) (map (section_at text) (drop i sections))) ≡ all
      → earliest new (repeated_below (above (i + 1)) (map (section_at text) (drop (i + 1) sections))) ≡ all
  repeats_more fault new all repeats found new_is before =
      let rest = map (section_at text) (drop (i + 1) sections) in
      let name = name_of text section in
      let here = fault_if (list_any (same_word name) (above i)) section.block.line REPEATED_NAME in
      ap (λ f. earliest f (repeated_below (above (i + 1)) rest))
      (new_is ∙ ap (λ b. earliest fault (fault_if b section.block.line REPEATED_NAME)) (found ∙ any-flips name (above i)))
      ∙ ap (λ names. earliest (earliest fault here) (repeated_below names rest)) names_more
      ∙ earliest_groups fault here (repeated_below (above i ++ name ∷ []) rest)
      ∙ ap (λ left. earliest fault (repeated_below (above i) left)) (sym (next_left (section_at text) sections i section within is))
      ∙ before
