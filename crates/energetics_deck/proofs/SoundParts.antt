-- the values of a file that is read are sound
use Rattle.std.proofs.Common.{◌≡◌, ◌∙◌, ◌⊎◌, ⊎_elim, ◌≤◌, ◌==◌, ◌+◌, ◌++◌, ap, arith, inl, inr, refl, suc, sym, ℕ, not, false, true, nat_lt, length, map}
use Rattle.std.proofs.Common.{IfOk, List, [], ◌∷◌, Some, Result, Ok, Err}
use Rattle.std.proofs.lemmas.Bool.Decides.{nat_tests}
use Rattle.std.proofs.lemmas.List.{length-append, length-map}
use Rattle.std.proofs.lemmas.List.Sums.{sum_by-cons}
use Rattle.std.proofs.lemmas.Result.{IfOk-weaker}
use Rattle.std.specs.List.{AllByRecursion, flat_map}
use Rattle.std.specs.Result.{result_ok}
use Rattle.deck_shape.proofs.BlockValues.{line_value_or-holds}
use Rattle.deck_shape.specs.Blocks.{BlockLines, FileLines, SectionLines}
use Rattle.deck_shape.specs.LineWords.{arguments_of}
use Rattle.deck_shape.specs.Names.{NameWord, on_line}
use Rattle.deck_shape.specs.WordLines.{names_on}
use Rattle.deck_values.proofs.Values.{AreSo, unless-holds}
use Rattle.deck_values.specs.Lists.{has_other_length}
use Rattle.deck_words.proofs.HeldValues.{both-holds, value_map-holds, with_fault-holds}
use Rattle.deck_words.specs.Faults.{all_of, both, value_map}
use Rattle.deck_words.specs.declared.fault.LineFault.{LineFault}
use Rattle.deck_words.specs.declared.keyword.Keyword.TheVariants.{LatticeState, SiteTypes}
use Rattle.deck_words.specs.declared.kind.TheConstants.{LIST_LENGTH, TOO_MANY_PARTS}
use Rattle.energetics_deck.specs.Clusters.{ClusterValues, PatternValues, VariantValues, cluster_with, clusters_of, common_values, own_fault}
use Rattle.energetics_deck.specs.Clusters.{pattern_of, variant_values}
use Rattle.energetics_deck.specs.Parts.{cluster_count, part_of}
use Rattle.energetics_deck.specs.Shares.{AreInRange}
use Rattle.energetics_deck.specs.Soundness.{IsSoundCluster, IsSoundPart}
use Rattle.energetics_deck.proofs.SoundVariants.{common_energy, common_multiplicity, share-holds, within-holds}
use Rattle.pattern_rows.proofs.HeldParts.{AreTypes, all-hold, all_append, any-holds, not_more, types-hold, without_sites}
use Rattle.pattern_rows.proofs.Patterns.{makes_pattern}
use Rattle.pattern_rows.specs.Edges.{edges_in}
use Rattle.pattern_rows.specs.Listings.{made_of}
use Rattle.pattern_rows.specs.Patterns.{MakePattern}
use Rattle.pattern_rows.specs.SectionNames.{repeated_name}
use Rattle.pattern_rows.specs.Sites.{sites_in}
use Rattle.pattern_rows.specs.States.{StateWords, states_in}
use Rattle.pattern_rows.specs.Types.{types_on, types_or}
use Rattle.pattern_rows.specs.Variants.{variants_of}
use Rattle.pattern_types.specs.declared.limits.TheConstants.{MAX_CLUSTERS}

-- a variant of a cluster of so many sites
abbrev IsVariant : ℕ → VariantValues → Type 0
IsVariant sites v = AreTypes sites v.types × AreInRange v.energy v.multiplicity

variant-holds : (sites : ℕ) (cluster variant : BlockLines) → IfOk (variant_values (Some sites) cluster variant) (IsVariant sites)
variant-holds sites cluster variant =
    let common = common_values (Some sites) cluster in
    within-holds (AreTypes sites) common (Some sites) variant (common_multiplicity (Some sites) cluster) (common_energy (Some sites) cluster)
    (types-hold common.types sites variant (types-hold (Ok []) sites cluster (inl refl)))

-- a pattern of so many sites
abbrev IsPattern : ℕ → PatternValues → Type 0
IsPattern sites p = (p.sites ≡ sites) × MakePattern p.sites p.edges p.rows

pattern-holds : (sites : ℕ) (edges : Result (List (ℕ × ℕ)) LineFault) (rows : Result (List StateWords) LineFault)
    → ((es : List (ℕ × ℕ)) (rs : List StateWords) → edges ≡ Ok es → rows ≡ Ok rs → MakePattern sites es rs)
    → IfOk (pattern_of (Ok sites) edges rows) (IsPattern sites)
pattern-holds sites (Ok es) (Ok rs) make = (refl, make es rs refl refl)
pattern-holds sites (Ok es) (Err g) make = tt
pattern-holds sites (Err f) (Ok rs) make = tt
pattern-holds sites (Err f) (Err g) make = tt

-- the clusters of a pattern and its variants
sound_clusters : (sites : ℕ) (pattern : PatternValues) (variants : List VariantValues) → IsPattern sites pattern
    → AllByRecursion (IsVariant sites) variants → AllByRecursion IsSoundCluster (map (cluster_with pattern) variants)
sound_clusters sites pattern [] is are = tt
sound_clusters sites pattern (v ∷ vs) is are = (
  record {
    pattern = is.1;
    types = ⊎_elim (λ none. inl none) (λ long. inr (long ∙ sym is.0)) are.0.0;
    share = share-holds v.energy v.multiplicity are.0.1;
  },
  sound_clusters sites pattern vs is are.1,
)

-- so many clusters, each of them sound
abbrev AreClusters : ℕ → List ClusterValues → Type 0
AreClusters count clusters = AllByRecursion IsSoundCluster clusters × (length clusters ≡ count)

of_sites-hold : (block : BlockLines) (variants : List BlockLines) (sites : Result ℕ LineFault) → sites_in block ≡ sites
    → IfOk (made_of cluster_with (pattern_of sites (edges_in (result_ok sites) block) (states_in true (result_ok sites) LatticeState block))
    (all_of (map (variant_values (result_ok sites) block) variants))) (AreClusters (length variants))
of_sites-hold block variants (Err f) stated =
    let edges = edges_in (result_ok (Err f)) block in
    let rows = states_in true (result_ok (Err f)) LatticeState block in
    let values = all_of (map (variant_values (result_ok (Err f)) block) variants) in
    let pattern = pattern_of (Err f) edges rows in
    value_map-holds (AreClusters (length variants)) _ (both pattern values)
    (IfOk-weaker (both pattern values) (λ found. ⊥ × Unit {0}) _ (λ found holds. absurd holds.0)
    (both-holds (λ _. ⊥) (λ _. Unit {0}) pattern values
    (value_map-holds (λ _. ⊥) _ (both (Err f) (both edges rows)) (without_sites (Err f) f (both edges rows) refl)) (any-holds values)))
of_sites-hold block variants (Ok sites) stated =
    let edges = edges_in (Some sites) block in
    let rows = states_in true (Some sites) LatticeState block in
    let values = all_of (map (variant_values (Some sites) block) variants) in
    let pattern = pattern_of (Ok sites) edges rows in
    value_map-holds (AreClusters (length variants)) _ (both pattern values)
    (IfOk-weaker (both pattern values) (λ found. IsPattern sites found.0 × AreSo (IsVariant sites) (length variants) found.1) _
    (λ found holds. (sound_clusters sites found.0 found.1 holds.0 holds.1.1, length-map found.1 (cluster_with found.0) ∙ holds.1.0))
    (both-holds (IsPattern sites) (AreSo (IsVariant sites) (length variants)) pattern values
    (pattern-holds sites edges rows (λ es rs edges_are rows_are. makes_pattern block true LatticeState sites es rs stated edges_are rows_are))
    (all-hold (IsVariant sites) (variant_values (Some sites) block) variants (variant-holds sites block))))

clusters-hold : (section : SectionLines) → IfOk (clusters_of section) (AreClusters (length (variants_of section)))
clusters-hold section =
    with_fault-holds (AreClusters (length (variants_of section))) (own_fault (result_ok (sites_in section.block)) section.block) _
    (of_sites-hold section.block (variants_of section) (sites_in section.block) refl)

abbrev AreTogether : List SectionLines → List (List ClusterValues) → Type 0
AreTogether sections lists = AreClusters (cluster_count sections) (flat_map (λ found. found) lists)

sections-hold : (sections : List SectionLines) → IfOk (all_of (map clusters_of sections)) (AreTogether sections)
sections-hold [] = (tt, refl)
sections-hold (section ∷ sections) =
    let first = clusters_of section in
    let rest = all_of (map clusters_of sections) in
    value_map-holds (AreTogether (section ∷ sections)) (λ found. found.0 ∷ found.1) (both first rest)
    (IfOk-weaker (both first rest) (λ found. AreClusters (length (variants_of section)) found.0 × AreTogether sections found.1) _
    (λ found are. (
      all_append IsSoundCluster found.0 (flat_map (λ list. list) found.1) are.0.0 are.1.0,
      length-append found.0 (flat_map (λ list. list) found.1) ∙ ap (λ n. n + length (flat_map (λ list. list) found.1)) are.0.1
          ∙ ap (λ n. length (variants_of section) + n) are.1.1
          ∙ sym (sum_by-cons (λ n. n) (length (variants_of section)) (map (λ other. length (variants_of other)) sections)),
    ))
    (both-holds (AreClusters (length (variants_of section))) (AreTogether sections) first rest (clusters-hold section) (sections-hold sections)))

-- the values of a file without a fault
pub sound_part : (file : FileLines) → IfOk (part_of file) IsSoundPart
sound_part file =
    let lists = all_of (map clusters_of file.sections) in
    let count = cluster_count file.sections in
    unless-holds IsSoundPart (nat_lt MAX_CLUSTERS count) file.block.end_line TOO_MANY_PARTS _
    (λ few. with_fault-holds IsSoundPart (repeated_name file.sections) _
    (value_map-holds IsSoundPart _ lists
    (IfOk-weaker lists (AreTogether file.sections) _
    (λ found are. record { clusters = are.0; few = not_more _ MAX_CLUSTERS (ap (nat_lt MAX_CLUSTERS) are.1 ∙ few) })
    (sections-hold file.sections))))
