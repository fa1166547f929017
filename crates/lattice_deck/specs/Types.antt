-- Type words that are no type.
use Rattle.std.specs.Prelude.{ℕ, ◌==◌, List, Option}
use Rattle.std.specs.List.{find}
use Rattle.std.specs.Option.{option_map}
use Rattle.deck_shape.specs.Names.{NameWord}
use Rattle.deck_words.specs.declared.fault.LineFault.{LineFault}
use Rattle.deck_words.specs.declared.kind.TheConstants.{UNKNOWN_TYPE}
use Rattle.site_rows.specs.TypeWords.{type_of}

-- the first type word that is no type of these names, as a fault of its line
abbrev pub unknown_type : List (List ℕ) → List NameWord → Option LineFault
unknown_type names words = option_map (λ word. record { line = word.line; kind = UNKNOWN_TYPE }) (find (λ word. type_of names word.word.bytes ==
    0) words)
