-- The numbers of an instance that a state offers are in range. No public contract cites this.
use Rattle.std.specs.Prelude.{◌^◌, ◌<◌, ◌≤◌, unsigned_abs}
use Rattle.std.specs.Option.{ForSome}
use Rattle.trajectory.specs.declared.instance.Instance.{Instance}

-- a code of 65 bits, and the logarithm of a rate within its bounds
pub record IsInRange (instance : Instance) : Type 0 where
  pub code : instance.code < 2 ^ 65
  pub rate : ForSome instance.lg (λ lg. unsigned_abs lg ≤ 2 ^ 42)
