-- The keywords of the input files.
use Rattle.std.specs.Prelude.{ℕ, List, codes}
use Rattle.deck_words.specs.declared.keyword.Keyword.{Keyword}
use Rattle.deck_words.specs.declared.keyword.Keyword.TheVariants.{RandomSeed, Temperature, Pressure, NGasSpecies, GasSpecsNames}
use Rattle.deck_words.specs.declared.keyword.Keyword.TheVariants.{GasEnergies, GasMolecWeights, GasMolarFracs, NSurfSpecies}
use Rattle.deck_words.specs.declared.keyword.Keyword.TheVariants.{SurfSpecsNames, SurfSpecsDent, Snapshots, ProcessStatistics}
use Rattle.deck_words.specs.declared.keyword.Keyword.TheVariants.{SpeciesNumbers, EventReport, MaxSteps, MaxTime, WallTime, NoRestart}
use Rattle.deck_words.specs.declared.keyword.Keyword.TheVariants.{OverrideArrayBounds, Finish, Lattice, RectangularPeriodic}
use Rattle.deck_words.specs.declared.keyword.Keyword.TheVariants.{HexagonalPeriodic, TriangularPeriodic, CellVectors, RepeatCell}
use Rattle.deck_words.specs.declared.keyword.Keyword.TheVariants.{NCellSites, NSiteTypes, SiteTypeNames, SiteTypes, SiteCoordinates}
use Rattle.deck_words.specs.declared.keyword.Keyword.TheVariants.{NeighboringStructure, EndNeighboringStructure, NSites, MaxCoord}
use Rattle.deck_words.specs.declared.keyword.Keyword.TheVariants.{LatticeStructure, EndLatticeStructure, EndLattice}
use Rattle.deck_words.specs.declared.keyword.Keyword.TheVariants.{Energetics, Cluster, Sites, Neighboring, LatticeState}
use Rattle.deck_words.specs.declared.keyword.Keyword.TheVariants.{GraphMultiplicity, ClusterEng, EndCluster, EndEnergetics}
use Rattle.deck_words.specs.declared.keyword.Keyword.TheVariants.{Mechanism, Step, ReversibleStep, GasReacsProds, Initial}
use Rattle.deck_words.specs.declared.keyword.Keyword.TheVariants.{Final, PreExpon, PeRatio, ActivEng, ProxFactor, EndStep}
use Rattle.deck_words.specs.declared.keyword.Keyword.TheVariants.{EndReversibleStep, EndMechanism, Variant, EndVariant, Angles}
use Rattle.deck_words.specs.declared.keyword.Keyword.TheVariants.{NoMirrorImages, AbslOrientation}
use Rattle.deck_words.specs.declared.keyword.Keyword.TheVariants.{InitialState, SeedOnSites, SeedMultiple, EndInitialState}

-- how each is spelled (Zacros manual); case counts
abbrev pub spelling : Keyword → List ℕ
spelling RandomSeed = codes "random_seed"
spelling Temperature = codes "temperature"
spelling Pressure = codes "pressure"
spelling NGasSpecies = codes "n_gas_species"
spelling GasSpecsNames = codes "gas_specs_names"
spelling GasEnergies = codes "gas_energies"
spelling GasMolecWeights = codes "gas_molec_weights"
spelling GasMolarFracs = codes "gas_molar_fracs"
spelling NSurfSpecies = codes "n_surf_species"
spelling SurfSpecsNames = codes "surf_specs_names"
spelling SurfSpecsDent = codes "surf_specs_dent"
spelling Snapshots = codes "snapshots"
spelling ProcessStatistics = codes "process_statistics"
spelling SpeciesNumbers = codes "species_numbers"
spelling EventReport = codes "event_report"
spelling MaxSteps = codes "max_steps"
spelling MaxTime = codes "max_time"
spelling WallTime = codes "wall_time"
spelling NoRestart = codes "no_restart"
spelling OverrideArrayBounds = codes "override_array_bounds"
spelling Finish = codes "finish"
spelling Lattice = codes "lattice"
spelling RectangularPeriodic = codes "rectangular_periodic"
spelling HexagonalPeriodic = codes "hexagonal_periodic"
spelling TriangularPeriodic = codes "triangular_periodic"
spelling CellVectors = codes "cell_vectors"
spelling RepeatCell = codes "repeat_cell"
spelling NCellSites = codes "n_cell_sites"
spelling NSiteTypes = codes "n_site_types"
spelling SiteTypeNames = codes "site_type_names"
spelling SiteTypes = codes "site_types"
spelling SiteCoordinates = codes "site_coordinates"
spelling NeighboringStructure = codes "neighboring_structure"
spelling EndNeighboringStructure = codes "end_neighboring_structure"
spelling NSites = codes "n_sites"
spelling MaxCoord = codes "max_coord"
spelling LatticeStructure = codes "lattice_structure"
spelling EndLatticeStructure = codes "end_lattice_structure"
spelling EndLattice = codes "end_lattice"
spelling Energetics = codes "energetics"
spelling Cluster = codes "cluster"
spelling Sites = codes "sites"
spelling Neighboring = codes "neighboring"
spelling LatticeState = codes "lattice_state"
spelling GraphMultiplicity = codes "graph_multiplicity"
spelling ClusterEng = codes "cluster_eng"
spelling EndCluster = codes "end_cluster"
spelling EndEnergetics = codes "end_energetics"
spelling Mechanism = codes "mechanism"
spelling Step = codes "step"
spelling ReversibleStep = codes "reversible_step"
spelling GasReacsProds = codes "gas_reacs_prods"
spelling Initial = codes "initial"
spelling Final = codes "final"
spelling PreExpon = codes "pre_expon"
spelling PeRatio = codes "pe_ratio"
spelling ActivEng = codes "activ_eng"
spelling ProxFactor = codes "prox_factor"
spelling EndStep = codes "end_step"
spelling EndReversibleStep = codes "end_reversible_step"
spelling EndMechanism = codes "end_mechanism"
spelling Variant = codes "variant"
spelling EndVariant = codes "end_variant"
spelling Angles = codes "angles"
spelling NoMirrorImages = codes "no_mirror_images"
spelling AbslOrientation = codes "absl_orientation"
spelling InitialState = codes "initial_state"
spelling SeedOnSites = codes "seed_on_sites"
spelling SeedMultiple = codes "seed_multiple"
spelling EndInitialState = codes "end_initial_state"
