use Rattle.std.proofs.Common.{◌≡◌, false, map, take}
use Rattle.dec_text.specs.Spans.{bytes_at}
use Rattle.deck_values.specs.Names.{names_repeat}
use Rattle.deck_values.proofs.Repeats.{HasSeen}
use Rattle.deck_values.proofs.name.names_repeat.Given as goal

-- the names so far are seen, and none of them repeats
abbrev pub invariant-loop-name : goal.invariant-loop-name
invariant-loop-name l = record {
  seen : HasSeen (map (bytes_at l.bytes) (take l.name-index l.names)) l.seen;
  none : names_repeat (map (bytes_at l.bytes) (take l.name-index l.names)) ≡ false;
}
