use Rattle.std.proofs.Common.{◌≡◌, length, take}
use Rattle.kmc_base.specs.declared.limits.TheConstants.{MAX_DENTATES}
use Rattle.lattice_core.proofs.given.Given.new.Given as goal

-- the states so far
abbrev pub invariant-loop-i : goal.invariant-loop-i
invariant-loop-i l = (length l.pairs ≡ MAX_DENTATES) × (take l.i l.pairs ≡ take l.i l.states)
