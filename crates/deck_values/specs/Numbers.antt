-- The numbers of the input files, in their ranges.
use Rattle.std.specs.Prelude.{ℕ, ℤ, pos, negsuc, suc, neg_ℤ, ◌*◌, ◌+◌, ◌^◌, ◌&&◌, ◌≤◌, ◌≤ℤ◌, Bool, not, List, Result, Ok, Err}
use Rattle.std.specs.Prelude.{if◌then◌else◌, nat_le, unsigned_abs}
use Rattle.dec_text.specs.Decimals.{Scientific, decimal_of}
use Rattle.dec_text.specs.Scaled.{scaled_within}
use Rattle.dec_text.specs.Wholes.{whole_number}
use Rattle.dec_text.specs.declared.faults.DecimalFault.{DecimalFault}
use Rattle.dec_text.specs.declared.faults.DecimalFault.TheVariants.{Form, Power}
use Rattle.dec_text.specs.declared.faults.NotWhole.{NotWhole}
use Rattle.dec_text.specs.declared.faults.OutOfRange.{OutOfRange}
use Rattle.deck_words.specs.Faults.{value_map}
use Rattle.deck_words.specs.declared.kind.TheConstants.{NOT_NUMBER, NOT_WHOLE, OUT_OF_RANGE}
use Rattle.deck_values.specs.declared.number.Amount.{Amount}
use Rattle.deck_values.specs.declared.number.ScaledRange.{ScaledRange}
use Rattle.deck_values.specs.declared.number.WholeRange.{WholeRange}

-- digits times ten to a power are at most ten to another power
abbrev pub is_at_most : ℕ → ℤ → ℕ → Bool
is_at_most digits (pos k) power = nat_le (digits * 10 ^ k) (10 ^ power)
is_at_most digits (negsuc k) power = nat_le digits (10 ^ (power + suc k))

-- a decimal is from 0 to ten to a power
abbrev pub is_up_to : ℕ → Scientific → Bool
is_up_to power n = not n.negative && is_at_most n.digits n.power power

-- a whole number is in a range, its bounds included
abbrev pub is_whole_in : WholeRange → ℕ → Bool
is_whole_in range n = nat_le range.least n && nat_le n range.most

-- a whole number that was read, in its range
abbrev pub whole_within : WholeRange → Result ℕ NotWhole → Result ℕ ℕ
whole_within range (Err e) = Err NOT_WHOLE
whole_within range (Ok n) = if is_whole_in range n then Ok n else Err OUT_OF_RANGE

-- a word as a whole number in a range
abbrev pub whole_in : WholeRange → List ℕ → Result ℕ ℕ
whole_in range word = whole_within range (whole_number word)

-- the kind of a decimal's fault
abbrev pub decimal_kind : DecimalFault → ℕ
decimal_kind Form = NOT_NUMBER
decimal_kind Power = OUT_OF_RANGE

-- a scaled decimal, within its bounds
abbrev pub scaled_or_kind : Result ℤ OutOfRange → Result ℤ ℕ
scaled_or_kind (Err e) = Err OUT_OF_RANGE
scaled_or_kind (Ok n) = Ok n

-- a decimal that was read, in the units of a range, rounded half away from zero
abbrev pub scaled_from : ScaledRange → Result Scientific DecimalFault → Result ℤ ℕ
scaled_from range (Err e) = Err (decimal_kind e)
scaled_from range (Ok n) = scaled_or_kind (scaled_within n range.places range.least range.most)

-- a word as a decimal, in the units of a range
abbrev pub scaled_in : ScaledRange → List ℕ → Result ℤ ℕ
scaled_in range word = scaled_from range (decimal_of word)

-- the size of a word's number, in the units of a range
abbrev pub amount_in : ScaledRange → List ℕ → Result ℕ ℕ
amount_in range word = value_map unsigned_abs (scaled_in range word)

-- a decimal that was read, from 0 to ten to a power
abbrev pub up_to_from : ℕ → Result Scientific DecimalFault → Result Scientific ℕ
up_to_from power (Err e) = Err (decimal_kind e)
up_to_from power (Ok n) = if is_up_to power n then Ok n else Err OUT_OF_RANGE

-- a word as a decimal from 0 to ten to a power
abbrev pub up_to : ℕ → List ℕ → Result Scientific ℕ
up_to power word = up_to_from power (decimal_of word)

-- a decimal that was read, whatever it is
abbrev pub decimal_from : Result Scientific DecimalFault → Result Scientific ℕ
decimal_from (Err e) = Err (decimal_kind e)
decimal_from (Ok n) = Ok n

-- a word as any decimal
abbrev pub any_decimal : List ℕ → Result Scientific ℕ
any_decimal word = decimal_from (decimal_of word)

-- the units and the bounds are ones that every decimal can be compared in
pub record IsScaledRange (range : ScaledRange) : Type 0 where
  pub places : range.places ≤ 27
  pub least : neg_ℤ (pos (10 ^ 36)) ≤ℤ range.least
  pub most : range.most ≤ℤ pos (10 ^ 36)

-- the same of a range that has no negative number
pub record IsAmount (amount : Amount) : Type 0 where
  pub range : IsScaledRange amount.range
  pub positive : pos 0 ≤ℤ amount.range.least
