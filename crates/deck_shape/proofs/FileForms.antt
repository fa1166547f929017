-- the form of the block of a file
use Rattle.std.proofs.Common.{◌≡◌, ℕ, Bool, true, false, List, [], ◌∷◌, Some, None, Ok, unwrap_or, if◌then◌else◌, sym, subst, ◌∙◌, refl, codes}
use Rattle.std.proofs.Common.{rules}
use Rattle.std.specs.List.{AllByRecursion}
use Rattle.std.proofs.lemmas.Bool.{false≢true}
use Rattle.dec_text.specs.Lines.{WordLine, word_lines}
use Rattle.kmc_base.specs.declared.ids.FileId.{FileId}
use Rattle.kmc_base.specs.declared.ids.FileId.TheVariants.{Simulation as SimulationText, Lattice as LatticeText}
use Rattle.kmc_base.specs.declared.ids.FileId.TheVariants.{Energetics as EnergeticsText, Mechanism as MechanismText, State as StateText}
use Rattle.deck_shape.specs.Blocks.{BlockLines, FileLines, SectionLines}
use Rattle.deck_shape.specs.LineFaults.{closes, file_of_text, line_count}
use Rattle.deck_shape.specs.LineWords.{head_of}
use Rattle.deck_shape.specs.Reading.{SoFar, after_closing, after_inner_block, after_word, argument_of}
use Rattle.deck_shape.specs.Reading.{block_of, first_block, lattice_block, nothing_read, rule_at}
use Rattle.deck_words.specs.Tables.{rule_for, rules_of, same_word}
use Rattle.deck_shape.specs.declared.reading.Below.{Below}
use Rattle.deck_shape.specs.declared.reading.Below.TheVariants.{Words, Rows, Enclosed}
use Rattle.deck_words.specs.declared.table.BlockForm.{BlockForm}
use Rattle.deck_words.specs.declared.table.BlockForm.TheVariants.{Simulation, LatticeFile, DefaultChoice, PeriodicCell, Explicit}
use Rattle.deck_words.specs.declared.table.BlockForm.TheVariants.{EnergeticsFile, Energetics, Cluster, ClusterVariant}
use Rattle.deck_words.specs.declared.table.BlockForm.TheVariants.{MechanismFile, Mechanism, Step, ReversibleStep, StepVariant}
use Rattle.deck_words.specs.declared.table.BlockForm.TheVariants.{StateFile, InitialState}
use Rattle.deck_words.specs.declared.table.Role.{Role}
use Rattle.deck_words.specs.declared.table.Role.TheVariants.{Value, Rows as HasRows, Encloses, Opens, Begins, BeginsLattice}
use Rattle.deck_words.specs.declared.table.Role.TheVariants.{Closes, Unsupported}
use Rattle.deck_words.specs.declared.table.Rule.{Rule}
use Rattle.deck_shape.specs.WholeBlocks.{IsFormOf}
use Rattle.deck_shape.proofs.BelowLines.{IsBelow, below_read, closes_rows}
use Rattle.deck_shape.proofs.ReadBlocks.{ClosesFile, outermost, read_has, role_of, rule_in}

-- the blocks of each file, opened or not
abbrev pub IsWithin : FileId → BlockForm → Type 0
IsWithin SimulationText Simulation = Unit {0}
IsWithin LatticeText LatticeFile = Unit {0}
IsWithin LatticeText DefaultChoice = Unit {0}
IsWithin LatticeText PeriodicCell = Unit {0}
IsWithin LatticeText Explicit = Unit {0}
IsWithin EnergeticsText EnergeticsFile = Unit {0}
IsWithin EnergeticsText Energetics = Unit {0}
IsWithin EnergeticsText Cluster = Unit {0}
IsWithin EnergeticsText ClusterVariant = Unit {0}
IsWithin MechanismText MechanismFile = Unit {0}
IsWithin MechanismText Mechanism = Unit {0}
IsWithin MechanismText Step = Unit {0}
IsWithin MechanismText ReversibleStep = Unit {0}
IsWithin MechanismText StepVariant = Unit {0}
IsWithin StateText StateFile = Unit {0}
IsWithin StateText InitialState = Unit {0}
IsWithin file form = ⊥

-- the outermost of them
abbrev pub IsTop : FileId → BlockForm → Type 0
IsTop SimulationText form = IsWithin SimulationText form
IsTop LatticeText form = IsWithin LatticeText form
IsTop EnergeticsText EnergeticsFile = Unit {0}
IsTop EnergeticsText Energetics = Unit {0}
IsTop EnergeticsText form = ⊥
IsTop MechanismText MechanismFile = Unit {0}
IsTop MechanismText Mechanism = Unit {0}
IsTop MechanismText form = ⊥
IsTop StateText form = IsWithin StateText form

-- a word of a file opens blocks of that file
abbrev pub StaysWithin : FileId → Role → Type 0
StaysWithin file (Opens form) = IsWithin file form
StaysWithin file (Begins form) = IsTop file form × IsWithin file form
StaysWithin file BeginsLattice = file ≡ LatticeText
StaysWithin file role = Unit {0}

all_stay : (file : FileId) (form : BlockForm) → IsWithin file form → AllByRecursion (λ rule. StaysWithin file rule.role) (rules_of form)
all_stay SimulationText Simulation is = search rules depth 60
all_stay LatticeText LatticeFile is = search rules depth 60
all_stay LatticeText DefaultChoice is = search rules depth 60
all_stay LatticeText PeriodicCell is = search rules depth 60
all_stay LatticeText Explicit is = search rules depth 60
all_stay EnergeticsText EnergeticsFile is = search rules depth 60
all_stay EnergeticsText Energetics is = search rules depth 60
all_stay EnergeticsText Cluster is = search rules depth 60
all_stay EnergeticsText ClusterVariant is = search rules depth 60
all_stay MechanismText MechanismFile is = search rules depth 60
all_stay MechanismText Mechanism is = search rules depth 60
all_stay MechanismText Step is = search rules depth 60
all_stay MechanismText ReversibleStep is = search rules depth 60
all_stay MechanismText StepVariant is = search rules depth 60
all_stay StateText StateFile is = search rules depth 60
all_stay StateText InitialState is = search rules depth 60
all_stay file form is = absurd is

-- what is read so far of a file, by its outermost block and the open ones
abbrev file_form : BlockForm → List BlockLines → BlockForm
file_form form [] = form
file_form form (outer ∷ others) = file_form outer.form others

pub record IsOfFile (file : FileId) (so_far : SoFar) : Type 0 where
  pub top : IsTop file (file_form so_far.block.form so_far.around)
  pub inner : IsWithin file so_far.block.form
  pub around : AllByRecursion (λ block. IsWithin file block.form) so_far.around

one_of : (P : BlockForm → Type 0) (a b c : Bool) (form : BlockForm) → P DefaultChoice → P PeriodicCell → P Explicit → P form
    → P (unwrap_or (if a then Some DefaultChoice else (if b then Some PeriodicCell else (if c then Some Explicit else None))) form)
one_of P true b c form p q r s = p
one_of P false true c form p q r s = q
one_of P false false true form p q r s = r
one_of P false false false form p q r s = s

lattice_within : (word : List ℕ) (form : BlockForm) → IsWithin LatticeText form → IsWithin LatticeText (unwrap_or (lattice_block word) form)
lattice_within word form is =
    one_of (IsWithin LatticeText) (same_word (codes "default_choice") word) (same_word (codes "periodic_cell") word)
    (same_word (codes "explicit") word) form tt tt tt is

-- the innermost block is closed
module _ (file : FileId) (block : BlockLines) (below : Below) (variants : List BlockLines) (sections : List SectionLines) (line : ℕ) where
  abbrev at : List BlockLines → SoFar
  at around = record { block = block; below = below; around = around; variants = variants; sections = sections }

  inner_closed : (around : List BlockLines) → IsOfFile file (at around) → IsOfFile file (after_inner_block line around (at around))
  inner_closed [] is = is
  inner_closed (top ∷ []) is = record { top = is.top; inner = is.around.0; around = tt }
  inner_closed (section ∷ outer ∷ others) is = record { top = is.top; inner = is.around.0; around = is.around.1 }

module _ (file : FileId) (block : BlockLines) (around variants : List BlockLines) (sections : List SectionLines) (line : WordLine) where
  abbrev where_below : Below → SoFar
  where_below below = record { block = block; below = below; around = around; variants = variants; sections = sections }

  closing_read : (below : Below) → IsOfFile file (where_below below) → IsOfFile file (after_closing line (where_below below) below)
  closing_read (Enclosed rows) is = record { top = is.top; inner = is.inner; around = is.around }
  closing_read Words is = inner_closed file block Words variants sections line.number around is
  closing_read Rows is = inner_closed file block Rows variants sections line.number around is

role_read : (file : FileId) (so_far : SoFar) (line : WordLine) → IsOfFile file so_far → (role : Role) → StaysWithin file role
    → IsOfFile file (after_word line so_far role)
role_read file so_far line is Value stays = record { top = is.top; inner = is.inner; around = is.around }
role_read file so_far line is HasRows stays = record { top = is.top; inner = is.inner; around = is.around }
role_read file so_far line is (Encloses rows) stays = record { top = is.top; inner = is.inner; around = is.around }
role_read file so_far line is (Opens form) stays = record { top = is.top; inner = stays; around = (is.inner, is.around) }
role_read file so_far line is (Begins form) stays = record { top = stays.0; inner = stays.1; around = tt }
role_read file so_far line is BeginsLattice stays =
    let within = lattice_within (argument_of line) so_far.block.form (subst (λ f. IsWithin f so_far.block.form) stays is.inner) in
    subst (λ f. IsOfFile f (after_word line so_far BeginsLattice)) (sym stays) (record { top = within; inner = within; around = tt })
role_read file so_far line is Closes stays =
    closing_read file so_far.block so_far.around so_far.variants so_far.sections line so_far.below is
role_read file so_far line is Unsupported stays = is

-- a word within enclosed rows closes them
module _ (file : FileId) (block : BlockLines) (around variants : List BlockLines) (sections : List SectionLines) (line : WordLine) (rule : Rule) where
  abbrev with_below : Below → SoFar
  with_below below = record { block = block; below = below; around = around; variants = variants; sections = sections }

  in_block : (below : Below) → block_of (with_below below) ≡ block.form → IsOfFile file (with_below below)
      → rule_at (with_below below) line ≡ Some rule → IsOfFile file (after_word line (with_below below) rule.role)
  in_block below same is has =
      role_read file (with_below below) line is rule.role
      (role_of (λ r. StaysWithin file r.role) block.form (head_of line) rule (all_stay file block.form is.inner)
      (rule_in (with_below below) line rule block.form same has))

  word_read : (below : Below) → IsBelow below → IsOfFile file (with_below below)
      → rule_at (with_below below) line ≡ Some rule → IsOfFile file (after_word line (with_below below) rule.role)
  word_read Words alone is has = in_block Words refl is has
  word_read Rows alone is has = in_block Rows refl is has
  word_read (Enclosed rows) alone is has =
      let role = closes_rows block around variants sections line rule rows alone has in
      subst (λ r. IsOfFile file (after_word line (with_below (Enclosed rows)) r)) (sym role)
      (record { top = is.top; inner = is.inner; around = is.around })

-- a file has no closing word before its block is opened
no_closing : (form : BlockForm) (word : List ℕ) (rule : Rule) → AllByRecursion (λ r. closes r.role ≡ false) (rules_of form)
    → rule_for form word ≡ Some rule → closes rule.role ≡ true → ⊥
no_closing form word rule all found closing = false≢true (sym (role_of (λ r. closes r.role ≡ false) form word rule all found) ∙ closing)

closing_form : (file : FileId) (form : BlockForm) (word : List ℕ) (rule : Rule) → IsTop file form → rule_for form word ≡ Some rule
    → closes rule.role ≡ true → IsFormOf file form
closing_form SimulationText Simulation word rule is found closing = refl
closing_form LatticeText LatticeFile word rule is found closing = absurd (no_closing LatticeFile word rule (refl, tt) found closing)
closing_form LatticeText DefaultChoice word rule is found closing = tt
closing_form LatticeText PeriodicCell word rule is found closing = tt
closing_form LatticeText Explicit word rule is found closing = tt
closing_form EnergeticsText EnergeticsFile word rule is found closing = absurd (no_closing EnergeticsFile word rule (refl, tt) found closing)
closing_form EnergeticsText Energetics word rule is found closing = refl
closing_form MechanismText MechanismFile word rule is found closing = absurd (no_closing MechanismFile word rule (refl, tt) found closing)
closing_form MechanismText Mechanism word rule is found closing = refl
closing_form StateText StateFile word rule is found closing = absurd (no_closing StateFile word rule (refl, tt) found closing)
closing_form StateText InitialState word rule is found closing = refl
closing_form file form word rule is found closing = absurd is

file_closed : (file : FileId) (so_far : SoFar) (line : WordLine) (rule : Rule) → IsOfFile file so_far → ClosesFile so_far line rule
    → IsFormOf file so_far.block.form
file_closed file so_far line rule is closes =
    closing_form file so_far.block.form (head_of line) rule
    (subst (λ around. IsTop file (file_form so_far.block.form around)) closes.alone is.top)
    (rule_in so_far line rule so_far.block.form (outermost so_far.below so_far.block.form closes.outside) closes.has_rule) closes.closing

begins : (file : FileId) → IsOfFile file (nothing_read (first_block file))
begins SimulationText = record { top = tt; inner = tt; around = tt }
begins LatticeText = record { top = tt; inner = tt; around = tt }
begins EnergeticsText = record { top = tt; inner = tt; around = tt }
begins MechanismText = record { top = tt; inner = tt; around = tt }
begins StateText = record { top = tt; inner = tt; around = tt }

-- the block of a file is one of that file
pub form_of_file : (file : FileId) (text : List ℕ) (lines : FileLines) → file_of_text (first_block file) text ≡ Ok lines
    → IsFormOf file lines.block.form
form_of_file file text lines is =
    read_has (λ so_far rest. IsBelow so_far.below × IsOfFile file so_far) (λ whole. IsFormOf file whole.block.form)
    (λ so_far row rest read. (read.0, record { top = read.1.top; inner = read.1.inner; around = read.1.around }))
    (λ so_far line rest read. read)
    (λ so_far line rest rule read has none. (
      below_read so_far.block so_far.around so_far.variants so_far.sections line rule so_far.below read.0 has,
      word_read file so_far.block so_far.around so_far.variants so_far.sections line rule so_far.below read.0 read.1 has,
    ))
    (λ so_far line rest rule read closes none. file_closed file so_far line rule read.1 closes)
    (nothing_read (first_block file)) [] (word_lines text) (line_count text) lines (tt, begins file) is
