-- type words that are no type
use Rattle.std.proofs.Common.{◌≡◌, ◌==◌, ◌∙◌, ℕ, List, map, Option, None, Some, ap, refl}
use Rattle.std.specs.List.{find}
use Rattle.std.specs.Option.{option_map}
use Rattle.dec_text.specs.Spans.{bytes_at}
use Rattle.deck_shape.proofs.Maps.{find-map}
use Rattle.deck_shape.specs.Names.{NameWord, name_at}
use Rattle.deck_words.specs.declared.fault.LineFault.{LineFault}
use Rattle.deck_words.specs.declared.kind.TheConstants.{UNKNOWN_TYPE}
use Rattle.deck_shape.specs.declared.name.Name.{Name}
use Rattle.site_rows.specs.TypeWords.{type_of}
use Rattle.lattice_deck.specs.Types.{unknown_type}

option_twice : {X Y Z : Type 0} (f : Y → Z) (h : X → Y) (o : Option X) → option_map (λ x. f (h x)) o ≡ option_map f (option_map h o)
option_twice f h None = refl
option_twice f h (Some x) = refl

-- the first name that is no type gives the first type word that is none
pub unknown_word : (text : List ℕ) (names : List (List ℕ)) (words : List Name) (r : Option Name)
    → r ≡ find (λ word. type_of names (bytes_at text word.span) == 0) words
    → option_map (λ (word : Name). record { line = word.line; kind = UNKNOWN_TYPE }) r ≡ unknown_type names (map (name_at text) words)
unknown_word text names words r is =
    let f : NameWord → LineFault = λ word. record { line = word.line; kind = UNKNOWN_TYPE } in
    let g : Name → LineFault = λ word. record { line = word.line; kind = UNKNOWN_TYPE } in
    ap (option_map g) is ∙ option_twice f (name_at text) _
    ∙ ap (option_map f) (find-map (λ (word : NameWord). type_of names word.word.bytes == 0) (name_at text) words)
