-- Members that are read one after another and seen by a view.
use Rattle.std.proofs.Common.{◌≡◌, ◌∙◌, ap, refl, List, [], ◌∷◌, ◌++◌, Result, Ok, Err, map}
use Rattle.std.proofs.lemmas.List.{map-append}
use Rattle.deck_words.specs.Faults.{both, value_map}
use Rattle.deck_words.specs.declared.fault.LineFault.{LineFault}

seen : {L X Y : Type 0} (items : L → List X) (view : X → Y) (all : Result L LineFault)
    → value_map (λ v. map view (items v)) all ≡ value_map (map view) (value_map items all)
seen items view (Ok v) = refl
seen items view (Err f) = refl

mapped : {L X Y : Type 0} (items : L → List X) (view : X → Y) (before : Result L LineFault) (next : Result X LineFault)
    → value_map (map view) (value_map (λ parts. items parts.0 ++ parts.1 ∷ []) (both before next))
    ≡ value_map (λ parts. map view (items parts.0) ++ parts.1 ∷ []) (both before (value_map view next))
mapped items view (Ok v) (Ok x) = ap (λ ys. Ok ys) (map-append view (items v) (x ∷ []))
mapped items view (Ok v) (Err g) = refl
mapped items view (Err f) (Ok x) = refl
mapped items view (Err f) (Err g) = refl

-- a member more
pub next_view : {L X Y : Type 0} (items : L → List X) (view : X → Y) (all before : Result L LineFault) (next : Result X LineFault)
    → value_map items all ≡ value_map (λ parts. items parts.0 ++ parts.1 ∷ []) (both before next)
    → value_map (λ v. map view (items v)) all ≡ value_map (λ parts. map view (items parts.0) ++ parts.1 ∷ []) (both before (value_map view next))
next_view items view all before next is = seen items view all ∙ ap (value_map (map view)) is ∙ mapped items view before next
