-- Which words a block has more than once, and which it has to have: the columns of the tables, said once more.
use Rattle.std.specs.Prelude.{Bool, true, false, List, [], ◌∷◌, filter, map}
use Rattle.deck_words.specs.declared.keyword.Keyword.{Keyword}
use Rattle.deck_words.specs.declared.keyword.Keyword.TheVariants.{Temperature, Pressure, RectangularPeriodic, HexagonalPeriodic}
use Rattle.deck_words.specs.declared.keyword.Keyword.TheVariants.{RepeatCell, NCellSites, NSiteTypes, SiteTypeNames, SiteTypes}
use Rattle.deck_words.specs.declared.keyword.Keyword.TheVariants.{NeighboringStructure, NSites, LatticeStructure}
use Rattle.deck_words.specs.declared.keyword.Keyword.TheVariants.{Cluster, Step, ReversibleStep, Variant, Sites, LatticeState, ClusterEng}
use Rattle.deck_words.specs.declared.keyword.Keyword.TheVariants.{Initial, Final, PreExpon, PeRatio, ActivEng, SeedOnSites}
use Rattle.deck_words.specs.declared.table.BlockForm.{BlockForm}
use Rattle.deck_words.specs.declared.table.BlockForm.TheVariants as Form
use Rattle.deck_words.specs.declared.table.Need.{Need}
use Rattle.deck_words.specs.declared.table.Need.TheVariants.{Optional, Required, ThisOr, HereOrInVariants}
use Rattle.deck_words.specs.declared.table.Rule.{Rule}

-- a word that a block may have more than once
abbrev pub is_repeatable : Keyword → Bool
is_repeatable Cluster = true
is_repeatable Step = true
is_repeatable ReversibleStep = true
is_repeatable Variant = true
is_repeatable SeedOnSites = true
is_repeatable keyword = false

-- a word is required in some way
abbrev pub is_needed : Need → Bool
is_needed Optional = false
is_needed Required = true
is_needed (ThisOr other) = true
is_needed HereOrInVariants = true

-- the words of some rules that are required, each with how
abbrev pub needed_words : List Rule → List (Keyword × Need)
needed_words rules = map (λ rule. (rule.keyword, rule.need)) (filter (λ rule. is_needed rule.need) rules)

-- the words that each block has to have, and how
abbrev pub needs_of : BlockForm → List (Keyword × Need)
needs_of Form.Simulation = (Temperature, Required) ∷ (Pressure, Required) ∷ []
needs_of Form.DefaultChoice = (RectangularPeriodic, ThisOr HexagonalPeriodic) ∷ (HexagonalPeriodic, ThisOr RectangularPeriodic) ∷ []
needs_of Form.PeriodicCell =
    (RepeatCell, Required) ∷ (NCellSites, Required) ∷ (NSiteTypes, Required) ∷ (SiteTypeNames, Required)
    ∷ (SiteTypes, Required) ∷ (NeighboringStructure, Required) ∷ []
needs_of Form.Explicit =
    (NSites, Required) ∷ (NSiteTypes, Required) ∷ (SiteTypeNames, Required) ∷ (LatticeStructure, Required) ∷ []
needs_of Form.Cluster = (Sites, Required) ∷ (LatticeState, Required) ∷ (ClusterEng, HereOrInVariants) ∷ []
needs_of Form.Step =
    (Sites, Required) ∷ (Initial, Required) ∷ (Final, Required) ∷ (PreExpon, HereOrInVariants) ∷ (ActivEng, HereOrInVariants) ∷ []
needs_of Form.ReversibleStep =
    (Sites, Required) ∷ (Initial, Required) ∷ (Final, Required) ∷ (PreExpon, HereOrInVariants)
    ∷ (PeRatio, HereOrInVariants) ∷ (ActivEng, HereOrInVariants) ∷ []
needs_of form = []
