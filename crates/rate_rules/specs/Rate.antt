-- The rate of an instance (Arrhenius): factor * exp(-barrier / (kB * T)), by its base-2 logarithm.
use Rattle.std.specs.Prelude.{ℕ, ◌*◌, ◌/◌, ◌^◌, ℤ, pos, ◌-ℤ◌, Option}
use Rattle.std.specs.Option.{option_map}
use Rattle.rate_rules.specs.Held.{held_within}

-- what a barrier in neV takes from that logarithm at a temperature in mK: barrier / (kB * T * ln 2), in units of 2^-30,
-- rounded down; 5973080255 is 10^8 times the Boltzmann constant, 86.17333262 neV/mK, times ln 2, rounded
abbrev pub barrier_part : ℕ → ℕ → ℕ
barrier_part barrier temperature = barrier * 10 ^ 8 * 2 ^ 30 / (5973080255 * temperature)

-- a logarithm held within -2^42 and 2^42
abbrev pub held : ℤ → ℤ
held lg = held_within (2 ^ 42) lg

-- The base-2 logarithm of the rate in 1/s, in units of 2^-30, of a process with this factor (None: no rate) over a
-- barrier in neV.
abbrev pub lg_rate : Option ℤ → ℕ → ℕ → Option ℤ
lg_rate factor barrier temperature = option_map (λ lg. held (lg -ℤ pos (barrier_part barrier temperature))) factor
