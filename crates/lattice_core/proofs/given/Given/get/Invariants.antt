use Rattle.std.proofs.Common.{◌≡◌, drop}
use Rattle.lattice_core.specs.Shown.{given_at}
use Rattle.lattice_core.proofs.given.Given.get.Given as goal

-- the rest of the pairs has the answer
abbrev pub invariant-loop-pair : goal.invariant-loop-pair
invariant-loop-pair l = given_at (drop l.pair-index l.pair-items) l.s.0 ≡ given_at l.pair-items l.s.0
