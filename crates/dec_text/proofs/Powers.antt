-- powers of ten and digits, as numbers
use Rattle.std.proofs.Common.{◌≡◌, ℕ, ◌+◌, ◌*◌, ◌^◌, ◌<◌, ◌≤◌, suc, arith, add-one, IsTrue}
use Rattle.std.proofs.Math.Nat.{pow-suc, pow-le-pow_right}
use Rattle.std.proofs.lemmas.Bool.Decides.{nat_tests}
use Rattle.dec_text.specs.Digits.{is_digit}

pub power_below : (k : ℕ) → k < 18 → 10 ^ k ≤ 10 ^ 17
power_below k small = search (arith, pow-le-pow_right)

pub power_at_most : (k : ℕ) → k ≤ 18 → 10 ^ k ≤ 10 ^ 18
power_at_most k small = search (arith, pow-le-pow_right)

pub power_at_least : (k : ℕ) → 18 ≤ k → 10 ^ 18 ≤ 10 ^ k
power_at_least k large = pow-le-pow_right {n = 10} (omega arith) large

pub power_suc : (k : ℕ) → 10 ^ suc k ≡ 10 * 10 ^ k
power_suc k = rw pow-suc (omega arith)

pub power_more : (k : ℕ) → 10 ^ (k + 1) ≡ 10 * 10 ^ k
power_more k = rw add-one (power_suc k)

pub digit_bounds : (d : ℕ) → IsTrue (is_digit d) → (48 ≤ d) × (d ≤ 57)
digit_bounds d digit = grind (arith, nat_tests)
