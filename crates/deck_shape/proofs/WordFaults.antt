-- what is known of a word line without faults, by the rule of its word
use Rattle.std.proofs.Common.{◌≡◌, ℕ, Bool, true, false, List, [], ◌∷◌, length, None, Some, ap, sym, ◌∙◌, refl}
use Rattle.std.specs.Option.{option_map_or}
use Rattle.std.proofs.lemmas.Bool.{not-false}
use Rattle.dec_text.specs.Lines.{WordLine}
use Rattle.deck_shape.proofs.RisingKinds.{kinds_in_order}
use Rattle.deck_shape.specs.LineFaults.{fault_at, first_kind, has_other_count, is_repeated, is_stray_row, is_unknown, is_unsupported}
use Rattle.deck_shape.specs.LineFaults.{misses_word, names_no_lattice, rule_faults, variants_within}
use Rattle.deck_shape.specs.LineWords.{arguments_of}
use Rattle.deck_shape.specs.Reading.{SoFar, block_of, rule_at}
use Rattle.deck_words.specs.Tables.{allows}
use Rattle.deck_words.specs.declared.kind.TheConstants.{ARGUMENT_COUNT, MISSING_WORD, REPEATED_WORD, STRAY_ROW, UNKNOWN_LATTICE}
use Rattle.deck_words.specs.declared.kind.TheConstants.{UNKNOWN_WORD, UNSUPPORTED_WORD}
use Rattle.deck_words.specs.declared.table.Rule.{Rule}

not_first : (holds : Bool) (kind : ℕ) (faults : List (Bool × ℕ)) → first_kind ((holds, kind) ∷ faults) ≡ None
    → (holds ≡ false) × (first_kind faults ≡ None)
not_first true kind faults none = cc
not_first false kind faults none = (refl, none)

-- none of the kinds of a word holds
module _ (unsupported other_count repeated misses no_lattice : Bool) where
  abbrev from_lattice : List (Bool × ℕ)
  from_lattice = (no_lattice, UNKNOWN_LATTICE) ∷ []

  abbrev from_missing : List (Bool × ℕ)
  from_missing = (misses, MISSING_WORD) ∷ from_lattice

  abbrev from_repeated : List (Bool × ℕ)
  from_repeated = (repeated, REPEATED_WORD) ∷ from_missing

  abbrev from_count : List (Bool × ℕ)
  from_count = (other_count, ARGUMENT_COUNT) ∷ from_repeated

  none_of : first_kind ((unsupported, UNSUPPORTED_WORD) ∷ from_count) ≡ None
      → (other_count ≡ false) × (repeated ≡ false) × (misses ≡ false) × (no_lattice ≡ false)
  none_of none =
      let first = not_first unsupported UNSUPPORTED_WORD from_count none in
      let second = not_first other_count ARGUMENT_COUNT from_repeated first.1 in
      let third = not_first repeated REPEATED_WORD from_missing second.1 in
      let fourth = not_first misses MISSING_WORD from_lattice third.1 in
      let fifth = not_first no_lattice UNKNOWN_LATTICE [] fourth.1 in
      (second.0, third.0, fourth.0, fifth.0)

module _ (so_far : SoFar) (line : WordLine) (rule : Rule) (is : rule_at so_far line ≡ Some rule) (none : fault_at so_far line ≡ None) where
  no_rule_fault : first_kind (rule_faults so_far line rule) ≡ None
  no_rule_fault =
      let rest = option_map_or (rule_faults so_far line) (rule_at so_far line) [] in
      let first = not_first (is_stray_row so_far line) STRAY_ROW ((is_unknown so_far line, UNKNOWN_WORD) ∷ rest)
      (kinds_in_order so_far line ∙ none) in
      let second = not_first (is_unknown so_far line) UNKNOWN_WORD rest first.1 in
      sym (ap (λ r. first_kind (option_map_or (rule_faults so_far line) r [])) is) ∙ second.1

  abbrev misses : Bool
  misses = misses_word (block_of so_far) (variants_within so_far.around so_far.variants) so_far.block.items rule

  no_fault_of_rule : (has_other_count line rule ≡ false) × (is_repeated so_far.block.items rule ≡ false) × (misses ≡ false)
      × (names_no_lattice line rule ≡ false)
  no_fault_of_rule =
      none_of (is_unsupported rule.role) (has_other_count line rule) (is_repeated so_far.block.items rule) misses
      (names_no_lattice line rule) no_rule_fault

  pub allowed : allows rule.arguments (length (arguments_of line)) ≡ true
  allowed = not-false (allows rule.arguments (length (arguments_of line))) no_fault_of_rule.0

  pub not_repeated : is_repeated so_far.block.items rule ≡ false
  not_repeated = no_fault_of_rule.1

  pub misses_none :
      misses_word (block_of so_far) (variants_within so_far.around so_far.variants) so_far.block.items rule ≡ false
  misses_none = no_fault_of_rule.2

  pub names_lattice : names_no_lattice line rule ≡ false
  names_lattice = no_fault_of_rule.3
