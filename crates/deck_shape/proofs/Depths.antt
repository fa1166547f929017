-- what the tables say of the blocks that words open: enclosed rows have a closing word alone, and no block is within a
-- variant
use Rattle.std.proofs.Common.{◌≡◌, rules}
use Rattle.std.specs.List.{AllByRecursion}
use Rattle.deck_words.specs.Tables.{rules_of}
use Rattle.deck_words.specs.declared.table.BlockForm.{BlockForm}
use Rattle.deck_words.specs.declared.table.BlockForm.TheVariants.{Simulation, LatticeFile, DefaultChoice, PeriodicCell, Explicit}
use Rattle.deck_words.specs.declared.table.BlockForm.TheVariants.{NeighboringStructure, LatticeStructure}
use Rattle.deck_words.specs.declared.table.BlockForm.TheVariants.{EnergeticsFile, Energetics, Cluster, ClusterVariant}
use Rattle.deck_words.specs.declared.table.BlockForm.TheVariants.{MechanismFile, Mechanism, Step, ReversibleStep, StepVariant}
use Rattle.deck_words.specs.declared.table.BlockForm.TheVariants.{StateFile, InitialState}
use Rattle.deck_words.specs.declared.table.Role.{Role}
use Rattle.deck_words.specs.declared.table.Role.TheVariants.{Encloses, Opens, Closes}

-- a block that knows its closing word alone
abbrev pub ClosesAlone : BlockForm → Type 0
ClosesAlone form = AllByRecursion (λ rule. rule.role ≡ Closes) (rules_of form)

abbrev pub OpensNone : Role → Type 0
OpensNone (Opens form) = ⊥
OpensNone role = Unit {0}

-- a block within which there are no others
abbrev pub IsFlat : BlockForm → Type 0
IsFlat form = AllByRecursion (λ rule. OpensNone rule.role) (rules_of form)

abbrev pub OpensFlat : Role → Type 0
OpensFlat (Opens form) = IsFlat form
OpensFlat role = Unit {0}

-- a block within which there are only such
abbrev pub IsShallow : BlockForm → Type 0
IsShallow form = AllByRecursion (λ rule. OpensFlat rule.role) (rules_of form)

-- what the role of each word of the tables says
abbrev pub IsRole : Role → Type 0
IsRole (Encloses rows) = ClosesAlone rows
IsRole (Opens form) = IsShallow form
IsRole role = Unit {0}

pub all_roles : (form : BlockForm) → AllByRecursion (λ rule. IsRole rule.role) (rules_of form)
all_roles Simulation = search rules depth 60
all_roles LatticeFile = search rules depth 60
all_roles DefaultChoice = search rules depth 60
all_roles PeriodicCell = search rules depth 60
all_roles Explicit = search rules depth 60
all_roles NeighboringStructure = search rules depth 60
all_roles LatticeStructure = search rules depth 60
all_roles EnergeticsFile = search rules depth 60
all_roles Energetics = search rules depth 60
all_roles Cluster = search rules depth 60
all_roles ClusterVariant = search rules depth 60
all_roles MechanismFile = search rules depth 60
all_roles Mechanism = search rules depth 60
all_roles Step = search rules depth 60
all_roles ReversibleStep = search rules depth 60
all_roles StepVariant = search rules depth 60
all_roles StateFile = search rules depth 60
all_roles InitialState = search rules depth 60
