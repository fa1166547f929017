-- The energy barrier of an instance, in neV: the activation energy moves with the reaction energy (a linear relation of
-- Brønsted, Evans and Polanyi; Nielsen et al. 2013).
use Rattle.std.specs.Prelude.{◌^◌, ℤ, pos, ◌+ℤ◌, ◌-ℤ◌, ◌*ℤ◌, if◌then◌else◌}
use Rattle.std.specs.Int.{int_div_euclid, int_max}
use Rattle.rate_rules.specs.declared.chemistry.Process.{Process}

-- The activation energy, with the proximity factor (in 10^-9) times what the surroundings add to the reaction energy d of
-- the bare entities d0. The quotient is rounded toward minus infinity.
abbrev pub shifted_activation : Process → ℤ → ℤ → ℤ
shifted_activation process d d0 = process.activation +ℤ int_div_euclid (pos process.proximity *ℤ (d -ℤ d0)) (pos (10 ^ 9))

-- the barrier of the forward step: at least 0, and at least the reaction energy
abbrev pub forward_barrier : Process → ℤ → ℤ → ℤ
forward_barrier process d d0 = int_max (pos 0) (int_max d (shifted_activation process d d0))

-- the barrier of a process; that of a reverse process is the forward one less the reaction energy
abbrev pub barrier_of : Process → ℤ → ℤ → ℤ
barrier_of process d d0 = if process.forward then forward_barrier process d d0 else forward_barrier process d d0 -ℤ d
