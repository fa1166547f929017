use Rattle.std.proofs.Common.{◌≡◌, IfOk, Ok, subst, sym}
use Rattle.deck_join.proofs.SoundClusters.{pattern_for}
use Rattle.deck_join.specs.SoundValues.{IsPatternFor}
use Rattle.energetics_deck.specs.Views.{cluster_at}
use Rattle.pattern_names.specs.Species.{all_wanted}
use Rattle.deck_join.proofs.clusters.cluster_in.Goals as goal

pub cluster_with-requires-clause-pattern : goal.cluster_with-requires-clause-pattern
cluster_with-requires-clause-pattern c =
    let cluster = cluster_at c.args.bytes.now c.args.cluster.now in
    let found : Ok c.in-Ok.wanted.items ≡ all_wanted c.args.book.now cluster.pattern.rows
    = rw (c.in-Ok.is, c.as_slice.ensures) at c.in_ok-wanted.ensures in
    rw c.as_slice-in-Ok.ensures.value
    (subst (λ r. IfOk r (IsPatternFor cluster.pattern.sites cluster.pattern.edges cluster.types)) (sym found)
    (pattern_for c.args.book.now cluster c.requires.sound))
