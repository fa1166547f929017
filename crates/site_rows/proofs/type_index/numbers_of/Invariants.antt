use Rattle.std.proofs.Common.{map, take}
use Rattle.site_rows.specs.TypeIndexes.{AreNumbers}
use Rattle.site_rows.proofs.type_index.numbers_of.Given as goal

-- the names so far have their numbers
abbrev pub invariant-loop-place : goal.invariant-loop-place
invariant-loop-place l = AreNumbers (map (λ name. name.items) (take l.place l.names)) l.numbers
