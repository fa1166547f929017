-- a list with members, by its length
use Rattle.std.proofs.Common.{◌≡◌, ◌<◌, true, false, List, [], ◌∷◌, length, refl, arith}
use Rattle.dec_text.specs.Lines.{is_filled}

pub is_filled_full : {X : Type 0} (xs : List X) → 0 < length xs → is_filled xs ≡ true
is_filled_full [] has = absurd (omega arith)
is_filled_full (x ∷ xs) has = refl

pub is_filled_empty : {X : Type 0} (xs : List X) → length xs ≡ 0 → is_filled xs ≡ false
is_filled_empty [] none = refl
is_filled_empty (x ∷ xs) none = absurd (omega arith)
