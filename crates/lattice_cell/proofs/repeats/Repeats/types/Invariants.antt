use Rattle.std.proofs.Common.{◌≡◌, ◌%◌, length, map, slice_index}
use Rattle.std.specs.List.{range_with_len}
use Rattle.lattice_cell.proofs.repeats.Repeats.types.Given as goal

-- the types of the sites so far
abbrev pub invariant-loop-site : goal.invariant-loop-site
invariant-loop-site l = l.types.items ≡ map (λ s. slice_index l.fn.cell (s % length l.fn.cell)) (range_with_len 0 l.site)
