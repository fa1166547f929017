-- Masks, bit by bit.
use Rattle.std.proofs.Common.{◌≡◌, ◌≢◌, ℕ, ◌+◌, ◌*◌, ◌^◌, ◌<◌, ◌≤◌, min, sym, ap, subst, ◌∙◌, arith, bit_and, bit_or}
use mathlib.Core.Logic.{dite}
use native.Mathlib.Decide.{ℕ_discrete}
use Rattle.std.specs.Int.{bit_at}
use Rattle.std.proofs.Math.Nat.{zero-mul}
use Rattle.std.proofs.lemmas.Nat.{pow_pos, and_le_r}
use Rattle.std.proofs.lemmas.Nat.Bits.{bit_at_and, bit_at_or, bit_at-lt, bit_at-zero, bit_at-pow_same, bit_at-pow_other, and_pow, same_from_bits}
use Rattle.board_turn.specs.Masks.{Within}

-- a bit of a set that lies in another
pub Within-trans : (a b c : ℕ) → Within a b → Within b c → Within a c
Within-trans a b c h k p = omega (arith, h p, k p)

pub Within-or : (a b c : ℕ) → Within a b → Within a (bit_or b c)
Within-or a b c h p = omega (arith, h p, bit_at_or b c p)

pub or-Within : (a b c : ℕ) → Within a c → Within b c → Within (bit_or a b) c
or-Within a b c h k p = omega (arith, h p, k p, bit_at_or a b p)

pub or-mono : (a b c d : ℕ) → Within a c → Within b d → Within (bit_or a b) (bit_or c d)
or-mono a b c d h k p = omega (arith, h p, k p, bit_at_or a b p, bit_at_or c d p)

pub zero-Within : (a : ℕ) → Within 0 a
zero-Within a p = omega (arith, bit_at-zero p)

-- the mask of one piece
pub pow-Within : (k a : ℕ) → bit_at a k ≡ 1 → Within (2 ^ k) a
pow-Within k a e p = dite (ℕ_discrete p k)
    (λ is. subst (λ q. bit_at (2 ^ k) q ≤ bit_at a q) (sym is) (omega (arith, bit_at-lt (2 ^ k) k)))
    (λ ne. omega (arith, bit_at-pow_other k p ne))

pub unset_bit : (n k : ℕ) → bit_and n (2 ^ k) ≡ 0 → bit_at n k ≡ 0
unset_bit n k e = dite (ℕ_discrete (bit_at n k) 0) (λ z. z) (λ nz.
    let one : bit_at n k ≡ 1 = omega (arith, bit_at-lt n k) in
    let all : bit_and n (2 ^ k) ≡ 1 * 2 ^ k = and_pow n k ∙ ap (λ b. b * 2 ^ k) one in
    absurd (omega (arith, pow_pos k)))

pub set_bit : (n k : ℕ) → bit_and n (2 ^ k) ≢ 0 → bit_at n k ≡ 1
set_bit n k ne = dite (ℕ_discrete (bit_at n k) 0)
    (λ z. absurd (ne (and_pow n k ∙ ap (λ b. b * 2 ^ k) z ∙ zero-mul (2 ^ k)))) (λ nz. omega (arith, bit_at-lt n k))

-- sets with no piece in common
pub apart_bits : (a b p : ℕ) → bit_and a b ≡ 0 → min (bit_at a p) (bit_at b p) ≡ 0
apart_bits a b p e = sym (bit_at_and a b p) ∙ (ap (λ n. bit_at n p) e ∙ bit_at-zero p)

pub bits_apart : (a b : ℕ) → ((p : ℕ) → bit_at a p + bit_at b p ≤ 1) → bit_and a b ≡ 0
bits_apart a b h = same_from_bits (bit_and a b) 0 (λ p. omega (arith, bit_at_and a b p, bit_at-zero p, h p))

-- a set that lies in one of 48 pieces has 48 pieces
pub narrowed : (a b : ℕ) → Within a b → b < 2 ^ 48 → a < 2 ^ 48
narrowed a b h small = subst (λ n. n < 2 ^ 48) (sym same) (omega (arith, and_le_r a b))
  where
    low : (p : ℕ) → bit_at a p ≡ bit_at (bit_and a b) p
    low p = omega (arith, bit_at_and a b p, h p)

    same : a ≡ bit_and a b
    same = same_from_bits a (bit_and a b) low

-- a set in a set that has no piece in common with b
pub apart_less : (a b d : ℕ) → Within a d → bit_and d b ≡ 0 → bit_and a b ≡ 0
apart_less a b d h e = same_from_bits (bit_and a b) 0 (λ p. omega (arith, bit_at_and a b p, bit_at-zero p, h p, apart_bits d b p e))

-- the pieces of a set that lies in another are those of both
pub and_within : (a b : ℕ) → Within b a → bit_and a b ≡ b
and_within a b h = same_from_bits (bit_and a b) b (λ p. omega (arith, bit_at_and a b p, h p))

-- the tests of the code, at the mask of one piece
pub set_at : (n bit k : ℕ) → bit ≡ 2 ^ k → bit_and n bit ≢ 0 → bit_at n k ≡ 1
set_at n bit k is ne = set_bit n k (λ z. ne (ap (bit_and n) is ∙ z))

pub unset_at : (n bit k : ℕ) → bit ≡ 2 ^ k → bit_and n bit ≡ 0 → bit_at n k ≡ 0
unset_at n bit k is z = unset_bit n k (sym (ap (bit_and n) is) ∙ z)

pub or_has : (n bit k : ℕ) → bit ≡ 2 ^ k → bit_at (bit_or n bit) k ≡ 1
or_has n bit k is = omega (arith, bit_at_or n bit k, ap (λ b. bit_at b k) is, bit_at-pow_same k, bit_at-lt n k)
