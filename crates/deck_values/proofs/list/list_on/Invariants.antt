use Rattle.std.proofs.Common.{◌≡◌, drop, map}
use Rattle.dec_text.specs.Spans.{bytes_at}
use Rattle.deck_words.specs.Faults.{all_of, at_line, value_map}
use Rattle.deck_values.proofs.FaultLists.{joined}
use Rattle.deck_values.proofs.list.list_on.Given as goal

-- the members so far, and those that are left, are all of them
abbrev pub invariant-loop-word : goal.invariant-loop-word
invariant-loop-word g l =
    joined (value_map (λ v. v.items) l.members)
    (all_of (map (λ word. at_line l.line (g.R.ReadWord.value_of l.reading word)) (map (bytes_at l.bytes) (drop l.word-index l.words))))
    ≡ all_of (map (λ word. at_line l.line (g.R.ReadWord.value_of l.reading word)) (map (bytes_at l.bytes) l.words))
