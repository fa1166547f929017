-- lists of readings: the members so far and those that are left, or the earliest of their faults
use Rattle.std.proofs.Common.{◌≡◌, ap, refl, append_assoc, List, [], ◌∷◌, ◌++◌, Result, Ok, Err, arith}
use Rattle.std.proofs.lemmas.Bool.Decides.{nat_tests}
use Rattle.std.proofs.lemmas.List.{append-nil}
use Rattle.deck_words.specs.Faults.{both, earlier, value_map}
use Rattle.deck_words.specs.declared.fault.LineFault.{LineFault}

-- some members and those after them
abbrev pub joined : {X : Type 0} → Result (List X) LineFault → Result (List X) LineFault → Result (List X) LineFault
joined before after = value_map (λ parts. parts.0 ++ parts.1) (both before after)

earlier_groups : (a b c : LineFault) → earlier (earlier a b) c ≡ earlier a (earlier b c)
earlier_groups a b c = grind (arith, nat_tests)

-- no member after some
pub joined_none : {X : Type 0} (before : Result (List X) LineFault) → joined before (Ok []) ≡ before
joined_none (Ok xs) = ap (λ ys. Ok ys) (append-nil xs)
joined_none (Err f) = refl

-- a member after some others is the first of those that are left
pub joined_next : {V X : Type 0} (items : V → List X) (before : Result V LineFault) (next : Result X LineFault) (rest : Result (List X) LineFault)
    → joined (value_map (λ parts. items parts.0 ++ parts.1 ∷ []) (both before next)) rest
    ≡ joined (value_map items before) (value_map (λ found. found.0 ∷ found.1) (both next rest))
joined_next items (Ok v) (Ok x) (Ok xs) = ap (λ ys. Ok ys) (append_assoc (items v) (x ∷ []) xs)
joined_next items (Ok v) (Ok x) (Err c) = refl
joined_next items (Ok v) (Err b) (Ok xs) = refl
joined_next items (Ok v) (Err b) (Err c) = refl
joined_next items (Err a) (Ok x) (Ok xs) = refl
joined_next items (Err a) (Ok x) (Err c) = refl
joined_next items (Err a) (Err b) (Ok xs) = refl
joined_next items (Err a) (Err b) (Err c) = ap (λ f. Err f) (earlier_groups a b c)
