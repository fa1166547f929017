use Rattle.std.proofs.Common.{◌≡◌, ◌++◌, drop, map}
use Rattle.dec_text.specs.Spans.{bytes_at}
use Rattle.site_rows.specs.TypeWords.{type_of}
use Rattle.lattice_deck.proofs.graphs.types_of.Given as goal

-- the types so far, and those that are left, are all of them
abbrev pub invariant-loop-word : goal.invariant-loop-word
invariant-loop-word l =
    l.types.items ++ map (λ word. type_of l.index (bytes_at l.bytes word.span)) (drop l.word-index l.words)
    ≡ map (λ word. type_of l.index (bytes_at l.bytes word.span)) l.words
