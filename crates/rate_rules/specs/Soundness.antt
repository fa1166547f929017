-- When a chemistry is sound: its numbers are in their ranges, and its patterns suit the adsorbates.
use Rattle.std.specs.Prelude.{◌≡◌, ℕ, ◌+◌, ◌-◌, ◌*◌, ◌^◌, ◌≤◌, max, true, List, length, map, unsigned_abs}
use Rattle.std.specs.List.{All, fold}
use Rattle.firing.specs.Soundness.{HasDentates, IsSoundSide}
use Rattle.kmc_base.specs.declared.limits.TheConstants.{MAX_ENERGY, MAX_TEMPERATURE}
use Rattle.lattice_core.specs.Config.{IsWellFormed, state_at}
use Rattle.lattice_core.specs.Lattice.{IsLattice, site_count}
use Rattle.lattice_core.specs.declared.state.State.{State}
use Rattle.pattern_list.specs.Match.{is_match}
use Rattle.pattern_list.specs.Placement.{is_placement}
use Rattle.pattern_types.specs.declared.limits.TheConstants.{MAX_PROCESSES}
use Rattle.pattern_types.specs.Parts.{vertex_count}
use Rattle.rate_rules.specs.declared.chemistry.Chemistry.{Chemistry}
use Rattle.rate_rules.specs.declared.chemistry.Cluster.{Cluster}
use Rattle.rate_rules.specs.declared.chemistry.Process.{Process}
use Rattle.pattern_types.specs.declared.limits.TheConstants.{MAX_CLUSTERS}

-- a cluster's share is an energy
abbrev pub IsSoundCluster : Cluster → Type 0
IsSoundCluster cluster = unsigned_abs cluster.share ≤ unsigned_abs MAX_ENERGY

-- The numbers of a process: the activation energy is an energy, the gas energy is that of at most 512 molecules, and the
-- proximity factor is at most 1.
pub record HasSoundNumbers (process : Process) : Type 0 where
  pub activation : unsigned_abs process.activation ≤ unsigned_abs MAX_ENERGY
  pub gas : unsigned_abs process.gas ≤ 512 * unsigned_abs MAX_ENERGY
  pub proximity : process.proximity ≤ 10 ^ 9

-- both sides of a process are whole adsorbates, of species with these numbers of dentates, on the same vertices
pub record IsSoundProcess (dentates : ℕ → ℕ) (process : Process) : Type 0 where
  pub before : IsSoundSide process.before
  pub after : IsSoundSide process.after
  pub dentates_before : HasDentates dentates process.before
  pub dentates_after : HasDentates dentates process.after
  pub edges : process.after.edges ≡ process.before.edges
  pub types : process.after.types ≡ process.before.types
  pub numbers : HasSoundNumbers process

-- the greatest number of vertices of some patterns, and 1 if there are none
abbrev pub greatest : List ℕ → ℕ
greatest counts = fold max 1 counts

-- the radius around the sites of a fired instance in which anchors of instances are, whose rates may have changed
abbrev pub radius_of : List Process → List Cluster → ℕ
radius_of processes clusters =
    (greatest (map (λ p. vertex_count p.before) processes) - 1) + (greatest (map (λ c. vertex_count c.pattern) clusters) - 1)

-- a sound chemistry, of species with these numbers of dentates
pub record IsSoundChemistry (dentates : ℕ → ℕ) (chemistry : Chemistry) : Type 0 where
  pub lattice : IsLattice chemistry.graph
  pub some_temperature : 1 ≤ chemistry.temperature
  pub temperature : chemistry.temperature ≤ MAX_TEMPERATURE
  pub few_processes : length chemistry.processes ≤ MAX_PROCESSES
  pub few_clusters : length chemistry.clusters ≤ MAX_CLUSTERS
  pub processes : All (IsSoundProcess dentates) chemistry.processes
  pub clusters : All IsSoundCluster chemistry.clusters
  pub radius : chemistry.radius ≡ radius_of chemistry.processes chemistry.clusters

-- a sound process of a sound chemistry, on a placement of the side before it
pub record IsPlacedProcess (chemistry : Chemistry) (process : Process) (sites : List ℕ) : Type 0 where
  pub dentates : ℕ → ℕ
  pub chemistry_sound : IsSoundChemistry dentates chemistry
  pub process_sound : IsSoundProcess dentates process
  pub placed : is_placement chemistry.graph process.before sites ≡ true

-- the same, where the side before the process matches a well-formed configuration of the lattice: an instance
pub record IsInstance (chemistry : Chemistry) (process : Process) (states : List State) (sites : List ℕ) : Type 0 where
  pub placed : IsPlacedProcess chemistry process sites
  pub long : length states ≡ site_count chemistry.graph
  pub well_formed : IsWellFormed placed.dentates states
  pub matches : is_match (state_at states) process.before sites ≡ true
