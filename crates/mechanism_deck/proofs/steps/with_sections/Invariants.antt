use Rattle.std.proofs.Common.{◌≡◌, drop, map}
use Rattle.deck_shape.specs.Blocks.{section_at}
use Rattle.deck_words.specs.Faults.{all_of, value_map}
use Rattle.mechanism_deck.specs.Steps.{steps_of}
use Rattle.mechanism_deck.specs.Views.{steps_at}
use Rattle.pattern_rows.specs.Listings.{joined}
use Rattle.pattern_rows.proofs.ListedVariants.{together}
use Rattle.mechanism_deck.proofs.steps.with_sections.Given as goal

-- the steps so far, and those of the blocks that are left, are all of them
abbrev pub invariant-loop-section : goal.invariant-loop-section
invariant-loop-section l =
    joined (value_map (λ list. steps_at l.bytes list.items) l.steps)
    (together (all_of (map steps_of (map (section_at l.bytes) (drop l.section-index l.sections)))))
    ≡ joined (value_map (λ list. steps_at l.bytes list.items) l.initial.steps)
    (together (all_of (map steps_of (map (section_at l.bytes) l.sections))))
