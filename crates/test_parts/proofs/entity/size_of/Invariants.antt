use Rattle.std.proofs.Common.{◌≡◌, take}
use Rattle.std.specs.List.{count_by}
use Rattle.firing.specs.Entities.{is_of}
use Rattle.test_parts.proofs.entity.size_of.Given as goal

-- the vertices so far that name the entity
abbrev pub invariant-loop-vertex : goal.invariant-loop-vertex
invariant-loop-vertex l = l.size ≡ count_by (is_of l.entity) (take l.vertex-index l.wanted)
