-- The clusters of an energetics file (Zacros manual): a block `cluster`, or each of its variants.
use Rattle.std.specs.Prelude.{ℕ, ℤ, pos, true, List, [], map, Option, Result, Ok}
use Rattle.std.specs.Result.{result_ok}
use Rattle.deck_shape.specs.BlockValues.{missing_word, one, value_or}
use Rattle.deck_shape.specs.Blocks.{BlockLines, SectionLines}
use Rattle.deck_shape.specs.Names.{NameWord}
use Rattle.deck_values.specs.Numbers.{scaled_in, whole_in}
use Rattle.deck_values.specs.declared.number.TheConstants.{ENERGY}
use Rattle.deck_words.specs.Faults.{all_of, both, earliest, fault_of, value_map, with_fault}
use Rattle.deck_words.specs.declared.fault.LineFault.{LineFault}
use Rattle.deck_words.specs.declared.keyword.Keyword.TheVariants.{ClusterEng, GraphMultiplicity, LatticeState}
use Rattle.energetics_deck.specs.Shares.{share_of}
use Rattle.energetics_deck.specs.declared.ranges.TheConstants.{MULTIPLICITY}
use Rattle.pattern_rows.specs.Edges.{edges_in}
use Rattle.pattern_rows.specs.Listings.{made_of}
use Rattle.pattern_rows.specs.Sites.{sites_in}
use Rattle.pattern_rows.specs.States.{StateWords, states_in}
use Rattle.pattern_rows.specs.Types.{types_or}
use Rattle.pattern_rows.specs.Variants.{variants_of}

-- what all variants of a cluster have in common: the number of its sites, their edges, and what each row of states wants
pub record PatternValues : Type 0 where
  pub sites : ℕ
  pub edges : List (ℕ × ℕ)
  pub rows : List StateWords

-- the pattern of so many sites, with these edges and these rows
abbrev pub pattern_of : Result ℕ LineFault → Result (List (ℕ × ℕ)) LineFault → Result (List StateWords) LineFault → Result PatternValues LineFault
pattern_of sites edges rows =
    value_map (λ found. record { sites = found.0; edges = found.1.0; rows = found.1.1 }) (both sites (both edges rows))

-- the pattern of a cluster
abbrev pub pattern_in : BlockLines → Result PatternValues LineFault
pattern_in block =
    let sites = sites_in block in
    pattern_of sites (edges_in (result_ok sites) block) (states_in true (result_ok sites) LatticeState block)

-- what each variant has of its own: the type words of its sites, its graph multiplicity, and its energy in neV
pub record VariantValues : Type 0 where
  pub types : List NameWord
  pub multiplicity : ℕ
  pub energy : ℤ

-- the graph multiplicity of a block, or another one where it states none
abbrev pub multiplicity_or : Result ℕ LineFault → BlockLines → Result ℕ LineFault
multiplicity_or absent block = value_or absent (one (whole_in MULTIPLICITY)) GraphMultiplicity block.items

-- the energy in neV of a block, which is written in eV, or another one where it states none
abbrev pub energy_or : Result ℤ LineFault → BlockLines → Result ℤ LineFault
energy_or absent block = value_or absent (one (scaled_in ENERGY)) ClusterEng block.items

-- what a cluster states for its variants, each by its word wherever that stands, or else the default; the energy has none
pub record CommonValues : Type 0 where
  pub types : Result (List NameWord) LineFault
  pub multiplicity : Result ℕ LineFault
  pub energy : Result ℤ LineFault

abbrev pub common_values : Option ℕ → BlockLines → CommonValues
common_values sites cluster = record {
  types = types_or (Ok []) sites cluster;
  multiplicity = multiplicity_or (Ok 1) cluster;
  energy = energy_or (missing_word cluster.end_line) cluster;
}

-- the variant that has these values
abbrev pub variant_of : Result (List NameWord) LineFault → Result ℕ LineFault → Result ℤ LineFault → Result VariantValues LineFault
variant_of types multiplicity energy =
    value_map (λ found. record { types = found.0; multiplicity = found.1.0; energy = found.1.1 }) (both types (both multiplicity energy))

-- the values of a variant: each is that of its own word, or else that which the cluster states
abbrev pub variant_within : CommonValues → Option ℕ → BlockLines → Result VariantValues LineFault
variant_within common sites variant =
    variant_of (types_or common.types sites variant) (multiplicity_or common.multiplicity variant) (energy_or common.energy variant)

-- the values of a variant, by the cluster around it
abbrev pub variant_values : Option ℕ → BlockLines → BlockLines → Result VariantValues LineFault
variant_values sites cluster variant = variant_within (common_values sites cluster) sites variant

-- the earliest fault of the cluster's own words of these kinds, also of those that no variant needs
abbrev pub own_fault : Option ℕ → BlockLines → Option LineFault
own_fault sites cluster =
    earliest (fault_of (types_or (Ok []) sites cluster))
    (earliest (fault_of (multiplicity_or (Ok 1) cluster)) (fault_of (energy_or (Ok (pos 0)) cluster)))

-- a cluster: its pattern, its type words, and its share in neV
pub record ClusterValues : Type 0 where
  pub pattern : PatternValues
  pub types : List NameWord
  pub share : ℤ

-- the cluster of a variant
abbrev pub cluster_with : PatternValues → VariantValues → ClusterValues
cluster_with pattern variant = record { pattern = pattern; types = variant.types; share = share_of variant.energy variant.multiplicity }

-- the clusters of a block and its variants, or the earliest of their faults
abbrev pub clusters_of : SectionLines → Result (List ClusterValues) LineFault
clusters_of section =
    let sites = result_ok (sites_in section.block) in
    with_fault (own_fault sites section.block)
    (made_of cluster_with (pattern_in section.block) (all_of (map (variant_values sites section.block) (variants_of section))))
