-- powers of ten, one step of a product and of a quotient, and the half that goes up
use Rattle.std.proofs.Common.{◌≡◌, ℕ, ◌+◌, ◌*◌, ◌/◌, ◌%◌, ◌^◌, ◌<◌, ◌≤◌, refl, ap, sym, arith}
use Rattle.std.proofs.Math.Nat.{div-div-eq-div-mul, mul-le-mul_left, mul_comm, one-le-pow}
use Rattle.std.proofs.lemmas.Nat.{div-add-mod', div-mul-add, mod_below}
use Rattle.dec_text.proofs.Powers.{power_more}

pub raised_more : (digits k : ℕ) → digits * 10 ^ (k + 1) ≡ 10 * (digits * 10 ^ k)
raised_more digits k = rw (power_more k) (omega arith)

pub lowered_more : (digits k : ℕ) → digits / 10 ^ k / 10 ≡ digits / 10 ^ (k + 1)
lowered_more digits k = rw (power_more k, div-div-eq-div-mul digits (10 ^ k) 10, mul_comm (10 ^ k) 10) refl

pub power_positive : (k : ℕ) → 0 < 10 ^ k
power_positive k = search (arith, one-le-pow)

-- the nearest whole number to m / (10 t), where q and r divide m by t, and s and u divide q + 5 by 10
nearest : (m t q r s u : ℕ) → m ≡ q * t + r → r < t → q + 5 ≡ 10 * s + u → u < 10 → (2 * m + 10 * t) / (2 * (10 * t)) ≡ s
nearest m t q r s u whole rest digit last =
    let product : t * (q + 5) ≡ t * (10 * s + u) = ap (λ x. t * x) digit in
    let split : 2 * m + 10 * t ≡ s * (2 * (10 * t)) + (2 * (t * u) + 2 * r) = omega arith in
    let last_most : t * u ≤ t * 9 = mul-le-mul_left t (omega arith) in
    let small : 2 * (t * u) + 2 * r < 2 * (10 * t) = omega arith in
    rw split (div-mul-add s (2 * (10 * t)) (2 * (t * u) + 2 * r) small)

pub lowered_half : (m k : ℕ) → (m / 10 ^ k + 5) / 10 ≡ (2 * m + 10 ^ (k + 1)) / (2 * 10 ^ (k + 1))
lowered_half m k =
    let t : ℕ = 10 ^ k in
    let q : ℕ = m / t in
    rw (power_more k) (sym (nearest m t q (m % t) ((q + 5) / 10) ((q + 5) % 10)
    (sym (div-add-mod' m t)) (mod_below m t (power_positive k)) (omega arith) (omega arith)))
