use Rattle.std.proofs.Common.{◌≡◌, drop, map, take}
use Rattle.deck_shape.specs.Blocks.{section_at}
use Rattle.deck_values.proofs.Repeats.{HasSeen}
use Rattle.deck_words.specs.Faults.{earliest}
use Rattle.pattern_rows.proofs.NamesAbove.{name_of}
use Rattle.pattern_rows.specs.SectionNames.{repeated_below, repeated_name}
use Rattle.pattern_rows.proofs.names.repeated_name.Given as goal

-- the names so far are seen, and the fault so far and that of the sections that are left are the fault of all
abbrev pub invariant-loop-section : goal.invariant-loop-section
invariant-loop-section l = record {
  seen : HasSeen (map (name_of l.bytes) (take l.section-index l.sections)) l.above;
  left : earliest l.fault (repeated_below (map (name_of l.bytes) (take l.section-index l.sections))
      (map (section_at l.bytes) (drop l.section-index l.sections)))
      ≡ repeated_name (map (section_at l.bytes) l.sections);
}
