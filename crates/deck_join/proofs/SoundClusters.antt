-- Clusters whose names have no fault are sound.
use Rattle.std.proofs.Common.{ℕ, IfOk, List, [], ◌∷◌, map, arith}
use Rattle.std.specs.List.{All, AllByRecursion}
use Rattle.std.proofs.lemmas.List.Elements.{All-weaker}
use Rattle.std.proofs.lemmas.Result.{IfOk-weaker}
use Rattle.deck.specs.Soundness.{IsOfBook}
use Rattle.deck_join.proofs.SoundPatterns.{pattern_of_rows}
use Rattle.deck_join.specs.Clusters.{cluster_in, cluster_with, clusters_in}
use Rattle.deck_join.specs.SoundValues.{AreSoundClusters, IsPatternFor}
use Rattle.deck_words.proofs.HeldValues.{value_map-holds, with_fault-holds}
use Rattle.deck_words.specs.Faults.{all_of}
use Rattle.energetics_deck.specs.Clusters.{ClusterValues}
use Rattle.energetics_deck.specs.Parts.{EnergeticsValues}
use Rattle.energetics_deck.specs.Soundness.{IsSoundCluster as IsSoundValues, IsSoundPart}
use Rattle.lattice_deck.specs.Types.{unknown_type}
use Rattle.pattern_names.proofs.Members.{AreSo, members-hold}
use Rattle.pattern_names.proofs.WantedRows.{IsOfSpecies, species_are, wanted_are}
use Rattle.pattern_names.specs.Species.{all_wanted}
use Rattle.pattern_types.specs.declared.wanted.Wanted.{Wanted}
use Rattle.pattern_types.specs.declared.wanted.Wanted.TheVariants.{Any, Holds, Vacant}
use Rattle.rate_rules.specs.Soundness.{IsSoundCluster}
use Rattle.rate_rules.specs.declared.chemistry.Cluster.{Cluster}
use Rattle.species_book.specs.Book.{Book}

-- what is wanted of a species is of the book
of_book : (book : Book) (wanted : Wanted) → IsOfSpecies book wanted → IsOfBook book wanted
of_book book Any is = tt
of_book book Vacant is = tt
of_book book (Holds entity species dentate) is = is

-- a cluster's share, and its dentates
abbrev IsSoundOf : Book → Cluster → Type 0
IsSoundOf book cluster = IsSoundCluster cluster × All (IsOfBook book) cluster.pattern.wanted

cluster_is : (book : Book) (type_names : List (List ℕ)) (cluster : ClusterValues) → IsSoundValues cluster
    → IfOk (cluster_in book type_names cluster) (IsSoundOf book)
cluster_is book type_names cluster sound =
    let read = all_wanted book cluster.pattern.rows in
    value_map-holds (IsSoundOf book) (cluster_with type_names cluster) read
    (IfOk-weaker read (All (IsOfSpecies book)) _
    (λ wanted all. (sound.share, All-weaker (IsOfSpecies book) (IsOfBook book) (of_book book) wanted all))
    (species_are book cluster.pattern.rows))

shares_of : (book : Book) (clusters : List Cluster) → AllByRecursion (IsSoundOf book) clusters → AllByRecursion IsSoundCluster clusters
shares_of book [] all = tt
shares_of book (cluster ∷ clusters) all = (all.0.0, shares_of book clusters all.1)

dentates_of_all : (book : Book) (clusters : List Cluster) → AllByRecursion (IsSoundOf book) clusters
    → AllByRecursion (λ cluster. All (IsOfBook book) cluster.pattern.wanted) clusters
dentates_of_all book [] all = tt
dentates_of_all book (cluster ∷ clusters) all = (all.0.1, dentates_of_all book clusters all.1)

-- the clusters of a sound file are sound
pub clusters_are : (book : Book) (type_names : List (List ℕ)) (values : EnergeticsValues) → IsSoundPart values
    → IfOk (clusters_in book type_names values) (AreSoundClusters book)
clusters_are book type_names values sound =
    let read = cluster_in book type_names in
    with_fault-holds (AreSoundClusters book) (unknown_type type_names values.type_words) (all_of (map read values.clusters))
    (IfOk-weaker (all_of (map read values.clusters)) (AreSo (IsSoundOf book) values.clusters) (AreSoundClusters book)
    (λ clusters so. record {
      few = omega (arith, so.0, sound.few);
      shares = shares_of book clusters so.1;
      dentates = dentates_of_all book clusters so.1;
    })
    (members-hold IsSoundValues (IsSoundOf book) read (cluster_is book type_names) values.clusters sound.clusters))

-- what the rows of a sound cluster want makes a pattern
pub pattern_for : (book : Book) (cluster : ClusterValues) → IsSoundValues cluster
    → IfOk (all_wanted book cluster.pattern.rows) (IsPatternFor cluster.pattern.sites cluster.pattern.edges cluster.types)
pattern_for book cluster sound =
    let rows = cluster.pattern.rows in
    IfOk-weaker (all_wanted book rows) _ (IsPatternFor cluster.pattern.sites cluster.pattern.edges cluster.types)
    (pattern_of_rows book cluster.pattern.sites cluster.pattern.edges cluster.types rows sound.pattern sound.types)
    (wanted_are book rows)
