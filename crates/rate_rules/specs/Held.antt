-- Numbers held within a bound of either sign.
use Rattle.std.specs.Prelude.{ℕ, ℤ, pos, neg_ℤ}
use Rattle.std.specs.Int.{int_max, int_min}

-- a number held within -bound and bound
abbrev pub held_within : ℕ → ℤ → ℤ
held_within bound number = int_max (neg_ℤ (pos bound)) (int_min (pos bound) number)
