-- what holds of a file line by line, and of its blocks at its closing word
use Rattle.std.proofs.Common.{◌≡◌, ℕ, ◌&&◌, Bool, true, false, List, [], ◌∷◌, ◌++◌, Option, None, Some, Result, Ok, Err, IfSome, is_some}
use Rattle.std.proofs.Common.{unwrap_or, if◌then◌else◌, inl, inr, ap, sym, subst, ◌∙◌, refl}
use Rattle.std.specs.List.{AllByRecursion}
use Rattle.std.specs.Option.{option_map_or}
use Rattle.std.proofs.lemmas.Bool.{and_parts, cases_Bool, false≢true}
use Rattle.dec_text.specs.Lines.{WordLine}
use Rattle.deck_shape.specs.Blocks.{BlockLines, FileLines}
use Rattle.deck_shape.specs.LineFaults.{closes, closes_file, fault_at, is_alone, is_outermost, read_below}
use Rattle.deck_shape.specs.LineWords.{head_of, is_row}
use Rattle.deck_shape.specs.Reading.{SoFar, after_line, after_row, after_word, block_of, closed, form_below, read_after, rule_at}
use Rattle.deck_words.specs.Tables.{is_spelled, rule_for, rules_of}
use Rattle.deck_shape.specs.declared.reading.Below.{Below}
use Rattle.deck_shape.specs.declared.reading.Below.TheVariants.{Words, Rows, Enclosed}
use Rattle.deck_words.specs.declared.fault.LineFault.{LineFault}
use Rattle.deck_words.specs.declared.table.BlockForm.{BlockForm}
use Rattle.deck_words.specs.declared.table.Rule.{Rule}
use Rattle.deck_shape.proofs.PassedLines.{read_after-last}
use Rattle.deck_shape.proofs.Maps.{IfSome-find}

-- what holds of each rule of a block holds of that of a word
pub role_of : (P : Rule → Type 0) (form : BlockForm) (word : List ℕ) (rule : Rule) → AllByRecursion P (rules_of form)
    → rule_for form word ≡ Some rule → P rule
role_of P form word rule all is = subst (λ r. IfSome r P) is (IfSome-find P (λ r. is_spelled r.keyword word) (rules_of form) all)

-- the rule of a line is that of its word in its block
pub rule_in : (so_far : SoFar) (line : WordLine) (rule : Rule) (form : BlockForm) → block_of so_far ≡ form
    → rule_at so_far line ≡ Some rule → rule_for form (head_of line) ≡ Some rule
rule_in so_far line rule form same is =
    let found = rule_for (block_of so_far) (head_of line) in
    elim (cases_Bool (is_row line)) [
      | inl row ↦ let no : None ≡ Some rule = sym (ap (λ b. if b then None else found) row) ∙ is in cc
      | inr word ↦ sym (ap (λ k. rule_for k (head_of line)) same) ∙ sym (ap (λ b. if b then None else found) word) ∙ is
    ]

no_fault : (fault : Option ℕ) → is_some fault ≡ false → fault ≡ None
no_fault None is = refl
no_fault (Some k) is = cc

-- outside enclosed rows the next line is in the innermost block
pub outermost : (below : Below) (form : BlockForm) → is_outermost below ≡ true → form_below below form ≡ form
outermost Words form is = refl
outermost Rows form is = refl
outermost (Enclosed rows) form is = absurd (false≢true is)

pub alone : (around : List BlockLines) → is_alone around ≡ true → around ≡ []
alone [] is = refl
alone (outer ∷ others) is = absurd (false≢true is)

-- a file whose closing word is on a line
abbrev pub file_closed : ℕ → SoFar → FileLines
file_closed line so_far = record { block = closed line so_far.block; sections = so_far.sections }

-- a line that closes the file, as its three parts
pub record ClosesFile (so_far : SoFar) (line : WordLine) (rule : Rule) : Type 0 where
  pub has_rule : rule_at so_far line ≡ Some rule
  pub outside : is_outermost so_far.below ≡ true
  pub alone : so_far.around ≡ []
  pub closing : closes rule.role ≡ true

closing_rule : (so_far : SoFar) (line : WordLine) (rule : Option Rule) → rule_at so_far line ≡ rule → is_outermost so_far.below ≡ true
    → is_alone so_far.around ≡ true → option_map_or (λ r. closes r.role) rule false ≡ true → (r : Rule) × ClosesFile so_far line r
closing_rule so_far line None has outside is_alone is = absurd (false≢true is)
closing_rule so_far line (Some rule) has outside is_alone is =
    (rule, record { has_rule = has; outside = outside; alone = alone so_far.around is_alone; closing = is })

closing_parts : (so_far : SoFar) (line : WordLine) → closes_file so_far line ≡ true → (r : Rule) × ClosesFile so_far line r
closing_parts so_far line is =
    let closing = option_map_or (λ r. closes r.role) (rule_at so_far line) false in
    let last = and_parts (is_outermost so_far.below && is_alone so_far.around) closing is in
    let first = and_parts (is_outermost so_far.below) (is_alone so_far.around) last.0 in
    closing_rule so_far line (rule_at so_far line) refl first.0 first.1 last.1

abbrev outcome : SoFar → WordLine → Bool → Bool → Result FileLines LineFault → Result FileLines LineFault
outcome so_far line faulty closing rest =
    if faulty then Err (record { line = line.number; kind = unwrap_or (fault_at so_far line) 0 })
    else (if closing then Ok (file_closed line.number so_far) else rest)

-- P, of what is read and of the lines below, stays while lines without faults are read, and gives Q at the closing word
module _ (P : SoFar → List WordLine → Type 0) (Q : FileLines → Type 0)
    (by_row : (so_far : SoFar) (line : WordLine) (lines : List WordLine) → P so_far (line ∷ lines) → P (after_row line so_far) lines)
    (by_other : (so_far : SoFar) (line : WordLine) (lines : List WordLine) → P so_far (line ∷ lines) → P so_far lines)
    (by_word : (so_far : SoFar) (line : WordLine) (lines : List WordLine) (rule : Rule) → P so_far (line ∷ lines)
    → rule_at so_far line ≡ Some rule → fault_at so_far line ≡ None → P (after_word line so_far rule.role) lines)
    (by_closing : (so_far : SoFar) (line : WordLine) (lines : List WordLine) (rule : Rule) → P so_far (line ∷ lines)
    → ClosesFile so_far line rule → fault_at so_far line ≡ None → Q (file_closed line.number so_far)) where
  by_rule : (so_far : SoFar) (line : WordLine) (lines : List WordLine) → P so_far (line ∷ lines) → fault_at so_far line ≡ None
      → (rule : Option Rule) → rule_at so_far line ≡ rule → P (option_map_or (λ r. after_word line so_far r.role) rule so_far) lines
  by_rule so_far line lines read none None is = by_other so_far line lines read
  by_rule so_far line lines read none (Some rule) is = by_word so_far line lines rule read is none

  line_read : (so_far : SoFar) (line : WordLine) (lines : List WordLine) → P so_far (line ∷ lines) → fault_at so_far line ≡ None
      → P (after_line line so_far) lines
  line_read so_far line lines read none =
      let after = λ (b : Bool). (if b then after_row line so_far else option_map_or (λ r. after_word line so_far r.role) (rule_at so_far line)
      so_far) in
      elim (cases_Bool (is_row line)) [
        | inl row ↦ subst (λ b. P (after b) lines) (sym row) (by_row so_far line lines read)
        | inr word ↦ subst (λ b. P (after b) lines) (sym word) (by_rule so_far line lines read none (rule_at so_far line) refl)
      ]

  by_outcome : (so_far : SoFar) (line : WordLine) (lines : List WordLine) (faulty closing : Bool) (rest : Result FileLines LineFault)
      (file : FileLines) → is_some (fault_at so_far line) ≡ faulty → closes_file so_far line ≡ closing
      → P so_far (line ∷ lines) → (fault_at so_far line ≡ None → rest ≡ Ok file → Q file) → outcome so_far line faulty closing rest ≡ Ok file
      → Q file
  by_outcome so_far line lines true closing rest file is_faulty is_closing read later is = cc
  by_outcome so_far line lines false true rest file is_faulty is_closing read later is =
      let e : file_closed line.number so_far ≡ file = cc in
      let found = closing_parts so_far line is_closing in
      subst Q e (by_closing so_far line lines found.0 read found.1 (no_fault (fault_at so_far line) is_faulty))
  by_outcome so_far line lines false false rest file is_faulty is_closing read later is =
      later (no_fault (fault_at so_far line) is_faulty) is

  pub read_has : (first : SoFar) (above lines : List WordLine) (count : ℕ) (file : FileLines)
      → P (read_after first above) lines → read_below first above lines count ≡ Ok file → Q file
  read_has first above [] count file read is = cc
  read_has first above (line ∷ lines) count file read is =
      by_outcome (read_after first above) line lines (is_some (fault_at (read_after first above) line))
      (closes_file (read_after first above) line) (read_below first (above ++ line ∷ []) lines count) file refl refl read
      (λ none rest. read_has first (above ++ line ∷ []) lines count file
      (subst (λ s. P s lines) (sym (read_after-last first above line)) (line_read (read_after first above) line lines read none)) rest)
      is
