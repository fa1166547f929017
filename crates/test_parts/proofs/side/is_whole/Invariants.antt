use Rattle.std.proofs.Common.{slice_index, take}
use Rattle.std.specs.List.{All}
use Rattle.firing.specs.Soundness.{HasItsDentates, IsWholeWant}
use Rattle.test_parts.proofs.side.is_whole.Given as goal

abbrev pub invariant-loop-vertex : goal.invariant-loop-vertex
invariant-loop-vertex l = record {
  whole : All (IsWholeWant l.wanted) (take l.vertex-index l.wanted);
  dentates : All (HasItsDentates (λ s. slice_index l.dentates s) l.wanted) (take l.vertex-index l.wanted);
}
