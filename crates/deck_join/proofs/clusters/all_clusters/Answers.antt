use Rattle.std.proofs.Common.{◌∙◌, ◌+◌, ◌∷◌, ap, drop, map, sym}
use Rattle.pattern_names.proofs.Members.{member}
use Rattle.deck_join.specs.Clusters.{cluster_in}
use Rattle.deck_values.proofs.EarliestFaults.{next_left}
use Rattle.deck_values.proofs.FaultLists.{joined, joined_next}
use Rattle.deck_words.specs.Faults.{all_of, both, value_map}
use Rattle.energetics_deck.specs.Soundness.{IsSoundCluster}
use Rattle.energetics_deck.specs.Views.{cluster_at}
use Rattle.deck_join.proofs.clusters.all_clusters.Goals as goal

pub cluster_in-requires-clause-sound : goal.cluster_in-requires-clause-sound
cluster_in-requires-clause-sound c =
    member IsSoundCluster (cluster_at c.args.bytes.now) c.args.clusters.now c.loop-cluster.cluster-index c.cluster-item.result
    c.loop-cluster-test.true c.cluster-item.is c.requires.sound

pub loop-cluster-preserved : goal.loop-cluster-preserved
loop-cluster-preserved c =
    let view = cluster_at c.args.bytes.now in
    let read = cluster_in c.args.book.now c.args.index.now in
    let i = c.loop-cluster.cluster-index in
    let so_far = c.loop-cluster.all in
    let rest = all_of (map read (map view (drop (i + 1) c.args.clusters.now))) in
    let before = value_map (λ v. v.items) so_far in
    ap (λ r. joined r rest) c.in_ok-all.ensures
    ∙ joined_next (λ v. v.items) so_far c.in_ok-cluster_in.field-0 rest
    ∙ ap (λ next. joined before (value_map (λ found. found.0 ∷ found.1) (both next rest))) c.in_ok-cluster_in.ensures
    ∙ ap (λ xs. joined before (all_of (map read xs)))
    (sym (next_left view c.args.clusters.now i c.cluster-item.result c.loop-cluster-test.true c.cluster-item.is))
    ∙ c.loop-cluster.invariant
