use Rattle.std.proofs.Common.{◌≡◌, ℕ, List, drop, map, nat_lt}
use Rattle.deck_shape.specs.Blocks.{section_at}
use Rattle.mechanism_deck.specs.Parts.{process_count}
use Rattle.pattern_types.specs.declared.limits.TheConstants.{MAX_PROCESSES}
use Rattle.mechanism_deck.proofs.parts.are_too_many.Given as goal

-- the blocks that are left are more than the processes that are left, if and only if all blocks are too many
abbrev pub invariant-loop-section : goal.invariant-loop-section
invariant-loop-section l =
    (text : List ℕ) → nat_lt l.left (process_count (map (section_at text) (drop l.section-index l.sections)))
    ≡ nat_lt MAX_PROCESSES (process_count (map (section_at text) l.sections))
