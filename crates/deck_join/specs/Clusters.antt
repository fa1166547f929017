-- The clusters of an energetics file, with species and site types by their numbers.
use Rattle.std.specs.Prelude.{ℕ, List, map, Result}
use Rattle.deck_words.specs.Faults.{all_of, value_map, with_fault}
use Rattle.deck_words.specs.declared.fault.LineFault.{LineFault}
use Rattle.energetics_deck.specs.Clusters.{ClusterValues}
use Rattle.energetics_deck.specs.Parts.{EnergeticsValues}
use Rattle.lattice_deck.specs.Types.{unknown_type}
use Rattle.pattern_names.specs.Species.{all_wanted}
use Rattle.pattern_names.specs.Types.{types_for}
use Rattle.pattern_types.specs.Parts.{pattern_of}
use Rattle.pattern_types.specs.declared.wanted.Wanted.{Wanted}
use Rattle.rate_rules.specs.declared.chemistry.Cluster.{Cluster}
use Rattle.species_book.specs.Book.{Book}

-- the cluster of a deck, by what it wants of its sites
abbrev pub cluster_with : List (List ℕ) → ClusterValues → List Wanted → Cluster
cluster_with type_names cluster wanted = record {
  pattern = pattern_of cluster.pattern.edges (types_for type_names cluster.pattern.sites cluster.types) wanted;
  share = cluster.share;
}

-- the cluster of a deck, or the earliest fault of its rows
abbrev pub cluster_in : Book → List (List ℕ) → ClusterValues → Result Cluster LineFault
cluster_in book type_names cluster = value_map (cluster_with type_names cluster) (all_wanted book cluster.pattern.rows)

-- the clusters of a file, or the earliest fault of a name in it: of a species, its dentate, or a site type
abbrev pub clusters_in : Book → List (List ℕ) → EnergeticsValues → Result (List Cluster) LineFault
clusters_in book type_names values =
    with_fault (unknown_type type_names values.type_words) (all_of (map (cluster_in book type_names) values.clusters))
