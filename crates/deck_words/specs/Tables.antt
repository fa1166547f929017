-- The words of the blocks, by the tables that the reader reads too.
use Rattle.std.specs.Prelude.{ℕ, ◌%◌, ◌==◌, ◌&&◌, Bool, true, List, Option, find, nat_le}
use Rattle.std.specs.Cmp.Lexicographic.{pointwise}
use Rattle.deck_words.specs.Keywords.{spelling}
use Rattle.deck_words.specs.declared.keyword.Keyword.{Keyword}
use Rattle.deck_words.specs.declared.table.Arguments.{Arguments}
use Rattle.deck_words.specs.declared.table.Arguments.TheVariants.{Exactly, Between, Any, Even}
use Rattle.deck_words.specs.declared.table.BlockForm.{BlockForm}
use Rattle.deck_words.specs.declared.table.BlockForm.TheVariants.{Simulation, LatticeFile, DefaultChoice, PeriodicCell, Explicit}
use Rattle.deck_words.specs.declared.table.BlockForm.TheVariants.{NeighboringStructure, LatticeStructure}
use Rattle.deck_words.specs.declared.table.BlockForm.TheVariants.{EnergeticsFile, Energetics, Cluster, ClusterVariant}
use Rattle.deck_words.specs.declared.table.BlockForm.TheVariants.{MechanismFile, Mechanism, Step, ReversibleStep, StepVariant}
use Rattle.deck_words.specs.declared.table.BlockForm.TheVariants.{StateFile, InitialState}
use Rattle.deck_words.specs.declared.table.Rule.{Rule}
use Rattle.deck_words.specs.declared.table.TheConstants.{SIMULATION, LATTICE_FILE, DEFAULT_CHOICE, PERIODIC_CELL, EXPLICIT}
use Rattle.deck_words.specs.declared.table.TheConstants.{NEIGHBORING_STRUCTURE, LATTICE_STRUCTURE}
use Rattle.deck_words.specs.declared.table.TheConstants.{ENERGETICS_FILE, ENERGETICS, CLUSTER, CLUSTER_VARIANT}
use Rattle.deck_words.specs.declared.table.TheConstants.{MECHANISM_FILE, MECHANISM, STEP, REVERSIBLE_STEP, STEP_VARIANT}
use Rattle.deck_words.specs.declared.table.TheConstants.{STATE_FILE, INITIAL_STATE}

-- the rules of a block: its words
abbrev pub rules_of : BlockForm → List Rule
rules_of Simulation = SIMULATION
rules_of LatticeFile = LATTICE_FILE
rules_of DefaultChoice = DEFAULT_CHOICE
rules_of PeriodicCell = PERIODIC_CELL
rules_of Explicit = EXPLICIT
rules_of NeighboringStructure = NEIGHBORING_STRUCTURE
rules_of LatticeStructure = LATTICE_STRUCTURE
rules_of EnergeticsFile = ENERGETICS_FILE
rules_of Energetics = ENERGETICS
rules_of Cluster = CLUSTER
rules_of ClusterVariant = CLUSTER_VARIANT
rules_of MechanismFile = MECHANISM_FILE
rules_of Mechanism = MECHANISM
rules_of Step = STEP
rules_of ReversibleStep = REVERSIBLE_STEP
rules_of StepVariant = STEP_VARIANT
rules_of StateFile = STATE_FILE
rules_of InitialState = INITIAL_STATE

-- two words have the same bytes
abbrev pub same_word : List ℕ → List ℕ → Bool
same_word a b = pointwise (λ x y. x == y) a b

-- a word is spelled as a keyword
abbrev pub is_spelled : Keyword → List ℕ → Bool
is_spelled keyword word = same_word (spelling keyword) word

-- the rule of a word in a block, where the block has the word
abbrev pub rule_for : BlockForm → List ℕ → Option Rule
rule_for form word = find (λ rule. is_spelled rule.keyword word) (rules_of form)

-- so many arguments are allowed
abbrev pub allows : Arguments → ℕ → Bool
allows (Exactly n) count = count == n
allows (Between least most) count = nat_le least count && nat_le count most
allows Any count = true
allows Even count = count % 2 == 0
