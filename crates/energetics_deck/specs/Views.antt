-- The values of an energetics file as they are read, seen in their text.
use Rattle.std.specs.Prelude.{ℕ, List, map}
use Rattle.std.specs.declared.alloc.Global.{Global}
use Rattle.std.specs.declared.vec.Vec.{Vec}
use Rattle.deck_shape.specs.Names.{name_at}
use Rattle.deck_words.specs.Faults.{value_map}
use Rattle.energetics_deck.specs.Clusters.{ClusterValues, CommonValues, PatternValues, VariantValues}
use Rattle.energetics_deck.specs.Parts.{EnergeticsValues}
use Rattle.energetics_deck.specs.declared.part.ClusterPart.{ClusterPart}
use Rattle.energetics_deck.specs.declared.part.EnergeticsPart.{EnergeticsPart}
use Rattle.energetics_deck.specs.declared.pattern.Pattern.{Pattern}
use Rattle.energetics_deck.specs.declared.variants.CommonWords.{CommonWords}
use Rattle.energetics_deck.specs.declared.variants.Variant.{Variant}
use Rattle.pattern_rows.specs.Listings.{Listing}
use Rattle.pattern_rows.specs.Views.{state_at}

-- what the pattern of a cluster says in its text
abbrev pub pattern_at : List ℕ → Pattern → PatternValues
pattern_at text pattern = record { sites = pattern.sites; edges = pattern.edges.items; rows = map (state_at text) pattern.rows.items }

-- what a cluster states for its variants, in its text
abbrev pub common_at : List ℕ → CommonWords → CommonValues
common_at text common = record {
  types = value_map (λ list. map (name_at text) list.items) common.types;
  multiplicity = common.multiplicity;
  energy = common.energy;
}

-- what a variant says in its text
abbrev pub variant_at : List ℕ → Variant → VariantValues
variant_at text variant = record {
  types = map (name_at text) variant.types.items;
  multiplicity = variant.multiplicity;
  energy = variant.energy;
}

-- what a cluster says in its text
abbrev pub cluster_at : List ℕ → ClusterPart → ClusterValues
cluster_at text cluster = record {
  pattern = record { sites = cluster.sites; edges = cluster.edges; rows = map (state_at text) cluster.rows };
  types = map (name_at text) cluster.types;
  share = cluster.share;
}

-- what a part of a deck says in its text
abbrev pub values_at : List ℕ → EnergeticsPart → EnergeticsValues
values_at text part = record { clusters = map (cluster_at text) part.clusters; type_words = map (name_at text) part.type_words }

-- what some clusters say in their text
abbrev pub clusters_at : List ℕ → List ClusterPart → List ClusterValues
clusters_at text clusters = map (cluster_at text) clusters

-- clusters so far, and the pattern of those that follow, as they are read
abbrev pub listing_at : List ℕ → Vec ClusterPart Global × Pattern → Listing ClusterValues PatternValues
listing_at text listing = (clusters_at text listing.0.items, pattern_at text listing.1)
