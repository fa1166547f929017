-- The time at which an instance of a process fires (the first reaction method of Gillespie 1976, on lattices
-- Stamatakis and Vlachos 2011): the present time plus an exponential waiting time, which is the gap of a draw
-- over the rate. Times are in attoseconds (10^-18 s).
use Rattle.std.specs.Prelude.{ℕ, ◌+◌, ◌*◌, ◌/◌, ◌^◌, ◌<◌, ◌≤◌, max, ℤ, pos, negsuc, ◌-ℤ◌, ◌<ℤ◌, ◌⊎◌, int_le, nat_le, ◌&&◌, if◌then◌else◌}
use Rattle.std.specs.Prelude.{Option, Some, None, ⊤}
use Rattle.kmc_base.specs.declared.limits.TheConstants.{END_OF_TIME}
use Rattle.kmc_base.specs.declared.firing_time.When.{When}
use Rattle.kmc_base.specs.declared.firing_time.When.TheVariants.{At, Never}
use Rattle.fixed_math.specs.Exponential.{exp2_of}
use Rattle.fixed_math.specs.Gap.{gap_of}

-- n * 2^e, rounded down
abbrev pub scaled_down : ℕ → ℤ → ℕ
scaled_down n (pos e) = n * 2 ^ e
scaled_down n (negsuc e) = n / 2 ^ (e + 1)

-- the mean waiting time 1 / rate in attoseconds, as a pair (m, q) that stands for m * 2^(q - 30), of a rate in 1/s whose
-- base-2 logarithm in units of 2^-30 is lg; 64204076376 is the logarithm of 10^18, eighteen times that of ten
abbrev pub mean_wait : ℤ → ℕ × ℤ
mean_wait lg = exp2_of (pos 64204076376 -ℤ lg)

-- the waiting time in attoseconds: the gap of the draw w times the mean waiting time, rounded down, and at least 1
abbrev pub wait_of : ℤ → ℕ → ℕ
wait_of lg w = max 1 (scaled_down (gap_of w * (mean_wait lg).0) ((mean_wait lg).1 -ℤ pos 60))

-- when an instance fires whose waiting time was drawn by w at the time `now`: never, if it has no rate, if its
-- mean waiting time is 2^121 attoseconds or more, or if it would fire after the end of time
unfoldable pub time_of : Option ℤ → ℕ → ℕ → When
time_of None w now = Never
time_of (Some lg) w now =
    if int_le (mean_wait lg).1 (pos 120) && nat_le (now + wait_of lg w) END_OF_TIME then At (now + wait_of lg w) else Never

-- that it never fires, said cause by cause
abbrev pub IsNeverDue : Option ℤ → ℕ → ℕ → Type 0
IsNeverDue None w now = ⊤
IsNeverDue (Some lg) w now = (pos 120 <ℤ (mean_wait lg).1) ⊎ (END_OF_TIME < now + wait_of lg w)

-- a moment that comes, if it ever does, after `now` and not after the end of time
abbrev pub IsLater : ℕ → When → Type 0
IsLater now (At t) = (now < t) × (t ≤ END_OF_TIME)
IsLater now Never = ⊤
