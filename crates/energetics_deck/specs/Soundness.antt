-- What the values of every energetics file without faults keep.
use Rattle.std.specs.Prelude.{◌≡◌, ◌≤◌, ◌⊎◌, [], length, unsigned_abs}
use Rattle.std.specs.List.{AllByRecursion}
use Rattle.energetics_deck.specs.Clusters.{ClusterValues}
use Rattle.energetics_deck.specs.Parts.{EnergeticsValues}
use Rattle.pattern_types.specs.declared.limits.TheConstants.{MAX_CLUSTERS}
use Rattle.kmc_base.specs.declared.limits.TheConstants.{MAX_ENERGY}
use Rattle.pattern_rows.specs.Patterns.{MakePattern}

-- a cluster is a pattern, of a type for each site or of any types, and its share is an energy
pub record IsSoundCluster (cluster : ClusterValues) : Type 0 where
  pub pattern : MakePattern cluster.pattern.sites cluster.pattern.edges cluster.pattern.rows
  pub types : (cluster.types ≡ []) ⊎ (length cluster.types ≡ cluster.pattern.sites)
  pub share : unsigned_abs cluster.share ≤ unsigned_abs MAX_ENERGY

-- all clusters are, and there are at most 256
pub record IsSoundPart (values : EnergeticsValues) : Type 0 where
  pub clusters : AllByRecursion IsSoundCluster values.clusters
  pub few : length values.clusters ≤ MAX_CLUSTERS
