-- A front of the piece was appended, and the rest is left.
use Rattle.std.proofs.Common.{◌≡◌, ℕ, List, ◌++◌}
use Rattle.std.specs.Io.KnownBytes.{Appends}
use Rattle.kmc.proofs.transfer.write_whole.Given as goal

abbrev pub invariant-loop : goal.invariant-loop
invariant-loop g l = (done : List ℕ) × (l.initial.left ≡ done ++ l.left) × Appends (g.W.Write.contents l.initial.to) (g.W.Write.contents l.to) done
