-- pairs of words, as they are read
use Rattle.std.proofs.Common.{◌≡◌, ◌∙◌, ◌+◌, ◌<◌, add-one, ap, drop, get_or, length, refl, sym, ℕ, ℤ, List, [], ◌∷◌}
use Rattle.std.proofs.Common.{None, Option, Some, Result, Ok, Err, map, take}
use Rattle.std.proofs.Math.Seq.{drop-cons}
use Rattle.std.proofs.lemmas.List.{take-map}
use Rattle.std.specs.Result.{result_err}
use Rattle.dec_text.specs.Spans.{bytes_at, run_at}
use Rattle.dec_text.specs.declared.lines.Span.{Span}
use Rattle.deck_shape.specs.declared.name.Name.{Name}
use Rattle.deck_values.specs.Names.{bytes_of}
use Rattle.deck_words.specs.Faults.{value_map, with_fault}
use Rattle.deck_words.specs.declared.fault.LineFault.{LineFault}
use Rattle.mechanism_deck.specs.Changes.{first_names, pairs_of}
use Rattle.mechanism_deck.specs.Views.{change_at, pair_at}

-- the pairs of words in a text
pub pairs_read : (text : List ℕ) (words : List Span) → map (pair_at text) (pairs_of words) ≡ pairs_of (map (run_at text) words)
pairs_read text [] = refl
pairs_read text (word ∷ []) = refl
pairs_read text (word ∷ next ∷ words) = ap (λ pairs. pair_at text (word, next) ∷ pairs) (pairs_read text words)

-- their names
pub first_names_read : (text : List ℕ) (pairs : List (Span × Span))
    → bytes_of (map (run_at text) (map (λ (pair : Span × Span). pair.0) pairs)) ≡ first_names (map (pair_at text) pairs)
first_names_read text [] = refl
first_names_read text (pair ∷ pairs) = ap (λ names. bytes_at text pair.0 ∷ names) (first_names_read text pairs)

-- the first of some changes
pub take_changes : (text : List ℕ) (n : ℕ) (changes : List (Name × ℤ)) → map (change_at text) (take n changes) ≡ take n (map (change_at text) changes)
take_changes text n changes = sym (take-map (change_at text) n changes)

-- the fault that stands beside a value
pub fault_beside : {X : Type 0} (fault : Option LineFault) (x : X) → result_err (with_fault fault (Ok x)) ≡ fault
fault_beside None x = refl
fault_beside (Some f) x = refl

-- a fault is that of what a function makes of a value
pub fault_of_map : {X Y : Type 0} (f : X → Y) (r : Result X LineFault) → result_err r ≡ result_err (value_map f r)
fault_of_map f (Ok x) = refl
fault_of_map f (Err e) = refl

-- what is left of some pairs, and the next of them
pub pair_left : (text : List ℕ) (pairs : List (Span × Span)) (i : ℕ) (none : Span × Span) → i < length pairs
    → map (pair_at text) (drop i pairs) ≡ pair_at text (get_or pairs i none) ∷ map (pair_at text) (drop (i + 1) pairs)
pair_left text pairs i none within =
    ap (map (pair_at text)) (drop-cons pairs i none within)
    ∙ ap (λ j. pair_at text (get_or pairs i none) ∷ map (pair_at text) (drop j pairs)) (sym (add-one i))
