-- The numbers of a step: its pre-exponential factor, the ratio of that of the reverse process, its activation energy and its
-- proximity factor (Zacros manual).
use Rattle.std.specs.Prelude.{ℕ, ℤ, ◌&&◌, Bool, not, List, Option, Some, Result, Ok, Err, if◌then◌else◌, nat_lt}
use Rattle.dec_text.specs.Decimals.{Scientific}
use Rattle.deck_values.specs.Numbers.{amount_in, any_decimal, scaled_in}
use Rattle.deck_values.specs.declared.number.TheConstants.{ENERGY}
use Rattle.deck_words.specs.Faults.{value_map}
use Rattle.deck_words.specs.declared.kind.TheConstants.{OUT_OF_RANGE}
use Rattle.mechanism_deck.specs.declared.ranges.TheConstants.{PROXIMITY}

-- a decimal that was read, if it passes a test
abbrev pub passing : (Scientific → Bool) → Result Scientific ℕ → Result Scientific ℕ
passing test (Err kind) = Err kind
passing test (Ok n) = if test n then Ok n else Err OUT_OF_RANGE

-- a decimal is 0 or more
abbrev pub is_not_negative : Scientific → Bool
is_not_negative n = not n.negative

-- a decimal is above 0
abbrev pub is_positive : Scientific → Bool
is_positive n = not n.negative && nat_lt 0 n.digits

-- a word as a pre-exponential factor
abbrev pub pre_expon : List ℕ → Result Scientific ℕ
pre_expon word = passing is_not_negative (any_decimal word)

-- a word as a ratio of pre-exponential factors
abbrev pub pe_ratio : List ℕ → Result (Option Scientific) ℕ
pe_ratio word = value_map (λ n. Some n) (passing is_positive (any_decimal word))

-- a word as an activation energy in neV, which is written in eV
abbrev pub activation : List ℕ → Result ℤ ℕ
activation word = scaled_in ENERGY word

-- a word as a proximity factor in units of 10^-9
abbrev pub proximity : List ℕ → Result ℕ ℕ
proximity word = amount_in PROXIMITY word
