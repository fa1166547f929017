use Rattle.std.proofs.Common.{◌≡◌, drop, map}
use Rattle.deck_join.specs.Clusters.{cluster_in}
use Rattle.deck_values.proofs.FaultLists.{joined}
use Rattle.deck_words.specs.Faults.{all_of, value_map}
use Rattle.energetics_deck.specs.Views.{cluster_at}
use Rattle.deck_join.proofs.clusters.all_clusters.Given as goal

-- the clusters so far, and those that are left, are all of them
abbrev pub invariant-loop-cluster : goal.invariant-loop-cluster
invariant-loop-cluster l =
    joined (value_map (λ v. v.items) l.all)
    (all_of (map (cluster_in l.book l.index) (map (cluster_at l.bytes) (drop l.cluster-index l.clusters))))
    ≡ all_of (map (cluster_in l.book l.index) (map (cluster_at l.bytes) l.clusters))
