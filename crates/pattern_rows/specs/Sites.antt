-- How many sites a pattern has.
use Rattle.std.specs.Prelude.{ℕ, Result}
use Rattle.deck_shape.specs.BlockValues.{required, value_on}
use Rattle.deck_shape.specs.Blocks.{BlockLines}
use Rattle.deck_values.specs.Numbers.{whole_in}
use Rattle.deck_words.specs.declared.fault.LineFault.{LineFault}
use Rattle.deck_words.specs.declared.keyword.Keyword.TheVariants.{Sites}
use Rattle.pattern_rows.specs.declared.ranges.TheConstants.{VERTEX_COUNT}

-- the number of sites of a cluster or a step
abbrev pub sites_in : BlockLines → Result ℕ LineFault
sites_in block = required Sites block (value_on (whole_in VERTEX_COUNT))
