use Rattle.std.proofs.Common.{◌≡◌, ◌++◌, drop, map}
use Rattle.dec_text.specs.Spans.{bytes_at}
use Rattle.lattice_deck.proofs.names.copies_of.Given as goal

-- the words so far, and those that are left, are all of them
abbrev pub invariant-loop-word : goal.invariant-loop-word
invariant-loop-word l = map (λ name. name.items) l.copies.items ++ map (bytes_at l.bytes) (drop l.word-index l.words) ≡ map (bytes_at l.bytes) l.words
