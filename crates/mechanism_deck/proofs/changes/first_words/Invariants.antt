use Rattle.std.proofs.Common.{◌≡◌, ◌++◌, drop, map}
use Rattle.dec_text.specs.declared.lines.Span.{Span}
use Rattle.mechanism_deck.proofs.changes.first_words.Given as goal

-- the words so far, and those of the pairs that are left, are all of them
abbrev pub invariant-loop-pair : goal.invariant-loop-pair
invariant-loop-pair l =
    l.names.items ++ map (λ (pair : Span × Span). pair.0) (drop l.pair-index l.pairs) ≡ map (λ (pair : Span × Span). pair.0) l.pairs
