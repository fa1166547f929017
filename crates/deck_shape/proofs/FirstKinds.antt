-- the first of five kinds whose fault holds
use Rattle.std.proofs.Common.{◌≡◌, ℕ, Bool, true, false, [], ◌∷◌, None, Some, refl}
use Rattle.deck_shape.specs.LineFaults.{first_kind}

pub fourth_kind : (a b c d e : Bool) (i j k m n : ℕ) → a ≡ false → b ≡ false → c ≡ false → d ≡ true
    → first_kind ((a, i) ∷ (b, j) ∷ (c, k) ∷ (d, m) ∷ (e, n) ∷ []) ≡ Some m
fourth_kind a b c d e i j k m n no_a no_b no_c is_d = rw (no_a, no_b, no_c, is_d) refl

pub no_kind : (a b c d e : Bool) (i j k m n : ℕ) → a ≡ false → b ≡ false → c ≡ false → d ≡ false → e ≡ false
    → first_kind ((a, i) ∷ (b, j) ∷ (c, k) ∷ (d, m) ∷ (e, n) ∷ []) ≡ None
no_kind a b c d e i j k m n no_a no_b no_c no_d no_e = rw (no_a, no_b, no_c, no_d, no_e) refl
