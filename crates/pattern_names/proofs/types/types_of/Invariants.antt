use Rattle.std.proofs.Common.{◌≡◌, ◌++◌, Some, drop, map}
use Rattle.deck_shape.specs.Names.{name_at}
use Rattle.site_rows.specs.TypeWords.{type_of}
use Rattle.pattern_names.proofs.types.types_of.Given as goal

-- the types so far, and those that are left, are all of them
abbrev pub invariant-loop-word : goal.invariant-loop-word
invariant-loop-word l =
    l.types.items ++ map (λ w. Some (type_of l.index w.word.bytes)) (map (name_at l.bytes) (drop l.word-index l.words))
    ≡ map (λ w. Some (type_of l.index w.word.bytes)) (map (name_at l.bytes) l.words)
