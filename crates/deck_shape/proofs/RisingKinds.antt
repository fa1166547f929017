-- of kinds that rise, the first that holds is the least
use Rattle.std.proofs.Common.{◌≡◌, ◌∙◌, ◌&&◌, ap, sym, not, is_none, ℕ, ◌≤◌, Bool, true, false, List, [], ◌∷◌, Option, None, Some, IfSome}
use Rattle.std.proofs.Common.{if◌then◌else◌, nat_le, refl, arith}
use Rattle.std.specs.List.{AllByRecursion}
use Rattle.std.specs.Option.{option_map_or}
use Rattle.std.proofs.lemmas.Bool.{le-leb}
use Rattle.dec_text.specs.Lines.{WordLine}
use Rattle.deck_shape.specs.LineFaults.{fault_if, first_kind, lesser, is_stray_row, is_unknown, least_kind, line_faults, rule_faults, takes_rows}
use Rattle.deck_shape.specs.LineWords.{is_row}
use Rattle.deck_shape.specs.Reading.{SoFar, rule_at}
use Rattle.deck_words.specs.declared.kind.TheConstants.{STRAY_ROW, UNKNOWN_WORD}
use Rattle.deck_words.specs.declared.table.Rule.{Rule}

-- the kinds rise along a list of faults
abbrev pub Rise : List (Bool × ℕ) → Type 0
Rise [] = Unit {0}
Rise (fault ∷ faults) = AllByRecursion (λ other. fault.1 ≤ other.1) faults × Rise faults

lesser_is_above : (bound kind : ℕ) (other : Option ℕ) → bound ≤ kind → IfSome other (λ least. bound ≤ least)
    → IfSome (lesser (Some kind) other) (λ least. bound ≤ least)
lesser_is_above bound kind None here above = here
lesser_is_above bound kind (Some least) here above =
    elim (nat_le kind least) as (λ t. IfSome (if t then Some kind else Some least) (λ least. bound ≤ least)) [ true ↦ here | false ↦ above ]

-- what is at most every kind is at most the least of those that hold
least_is_above : (bound : ℕ) (faults : List (Bool × ℕ)) → AllByRecursion (λ other. bound ≤ other.1) faults
    → IfSome (least_kind faults) (λ least. bound ≤ least)
least_is_above bound [] all = tt
least_is_above bound (fault ∷ faults) all =
    elim fault.0 as (λ t. IfSome (lesser (fault_if t fault.1) (least_kind faults)) (λ least. bound ≤ least))
    [ true ↦ lesser_is_above bound fault.1 (least_kind faults) all.0 (least_is_above bound faults all.1) | false ↦ least_is_above bound faults all.1 ]

lesser_first : (kind : ℕ) (other : Option ℕ) → IfSome other (λ least. kind ≤ least) → Some kind ≡ lesser (Some kind) other
lesser_first kind None above = refl
lesser_first kind (Some least) above = rw (le-leb kind least above) refl

pub first_is_least : (faults : List (Bool × ℕ)) → Rise faults → first_kind faults ≡ least_kind faults
first_is_least [] rise = refl
first_is_least (fault ∷ faults) rise =
    elim fault.0 as (λ t. (if t then Some fault.1 else first_kind faults) ≡ lesser (fault_if t fault.1) (least_kind faults))
    [ true ↦ lesser_first fault.1 (least_kind faults) (least_is_above fault.1 faults rise.0) | false ↦ first_is_least faults rise.1 ]

-- the kinds of the faults at a line, whose word has a rule or none
rise : (stray unknown : Bool) (so_far : SoFar) (line : WordLine) (rule : Option Rule)
    → Rise ((stray, STRAY_ROW) ∷ (unknown, UNKNOWN_WORD) ∷ option_map_or (rule_faults so_far line) rule [])
rise stray unknown so_far line None = ((omega arith, tt), (tt, tt))
rise stray unknown so_far line (Some rule) = (
  (omega arith, (omega arith, (omega arith, (omega arith, (omega arith, (omega arith, tt)))))),
  (
    (omega arith, (omega arith, (omega arith, (omega arith, (omega arith, tt))))),
    (
      (omega arith, (omega arith, (omega arith, (omega arith, tt)))),
      (
        (omega arith, (omega arith, (omega arith, tt))),
        ((omega arith, (omega arith, tt)), ((omega arith, tt), (tt, tt))),
      ),
    ),
  ),
)

pub kinds_in_order : (so_far : SoFar) (line : WordLine) → first_kind (line_faults so_far line) ≡ least_kind (line_faults so_far line)
kinds_in_order so_far line =
    first_is_least (line_faults so_far line)
    (rise (is_stray_row so_far line) (is_unknown so_far line) so_far line (rule_at so_far line))

passed_two : (a b : Bool) (i j : ℕ) (faults : List (Bool × ℕ)) → a ≡ false → b ≡ false → first_kind faults ≡ first_kind ((a, i) ∷ (b, j) ∷ faults)
passed_two a b i j faults no_a no_b = rw (no_a, no_b) refl

-- at a word that the block has, the first kind of its rule is the least at the line
pub rule_kind_least : (so_far : SoFar) (line : WordLine) (rule : Rule) → is_row line ≡ false → rule_at so_far line ≡ Some rule
    → first_kind (rule_faults so_far line rule) ≡ least_kind (line_faults so_far line)
rule_kind_least so_far line rule no_row is =
    ap (λ r. first_kind (option_map_or (rule_faults so_far line) r [])) (sym is)
    ∙ passed_two (is_stray_row so_far line) (is_unknown so_far line) STRAY_ROW UNKNOWN_WORD
    (option_map_or (rule_faults so_far line) (rule_at so_far line) [])
    (ap (λ row. row && not (takes_rows so_far.below)) no_row)
    (ap (λ r. not (is_row line) && is_none r) is ∙ ap (λ row. not row && false) no_row)
    ∙ kinds_in_order so_far line
