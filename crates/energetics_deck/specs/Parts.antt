-- The values of an energetics file.
use Rattle.std.specs.Prelude.{ℕ, List, length, map, nat_lt, sum, Option, Result}
use Rattle.std.specs.List.{flat_map}
use Rattle.deck_shape.specs.Blocks.{FileLines, SectionLines}
use Rattle.deck_shape.specs.Names.{NameWord}
use Rattle.deck_values.specs.Lists.{fault_if}
use Rattle.deck_words.specs.Faults.{all_of, value_map, with_fault}
use Rattle.deck_words.specs.declared.fault.LineFault.{LineFault}
use Rattle.deck_words.specs.declared.kind.TheConstants.{TOO_MANY_PARTS}
use Rattle.energetics_deck.specs.Clusters.{ClusterValues, clusters_of}
use Rattle.pattern_types.specs.declared.limits.TheConstants.{MAX_CLUSTERS}
use Rattle.pattern_rows.specs.SectionNames.{repeated_name}
use Rattle.pattern_rows.specs.TypeWords.{type_words}
use Rattle.pattern_rows.specs.Variants.{variants_of}

-- the clusters in the order of the file, and all its type words in order, also those that no variant needs
pub record EnergeticsValues : Type 0 where
  pub clusters : List ClusterValues
  pub type_words : List NameWord

-- how many clusters some blocks are, with each variant counted
abbrev pub cluster_count : List SectionLines → ℕ
cluster_count sections = sum (map (λ section. length (variants_of section)) sections)

-- a file has more clusters than it may have, at its closing line
abbrev pub count_fault : FileLines → Option LineFault
count_fault file = fault_if (nat_lt MAX_CLUSTERS (cluster_count file.sections)) file.block.end_line TOO_MANY_PARTS

-- the values of an energetics file, or the earliest of its faults
abbrev pub part_of : FileLines → Result EnergeticsValues LineFault
part_of file =
    with_fault (count_fault file) (with_fault (repeated_name file.sections)
    (value_map (λ clusters. record { clusters = flat_map (λ found. found) clusters; type_words = type_words file.sections })
    (all_of (map clusters_of file.sections))))
