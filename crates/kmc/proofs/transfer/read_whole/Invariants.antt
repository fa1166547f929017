-- The bytes and what is left are the whole, and the bytes are not too many.
use Rattle.std.proofs.Common.{◌≤◌, vec_len}
use Rattle.std.specs.Io.KnownBytes.{Keeps, prepend_known}
use Rattle.kmc.proofs.transfer.read_whole.Given as goal

abbrev pub invariant-loop : goal.invariant-loop
invariant-loop g l = Keeps (g.S.Read.remaining l.initial.from) (prepend_known l.bytes.items (g.S.Read.remaining l.from)) × (vec_len l.bytes ≤ l.max)
