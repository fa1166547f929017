-- What the definitions of `specs/Logarithm.antt` give: the whole part is the greatest power, the bits stay
-- below the next one, and powers of two have exact logarithms.
use Rattle.std.proofs.Common.{◌≡◌, ℕ, zero, suc, ◌+◌, ◌-◌, ◌*◌, ◌/◌, ◌%◌, ◌^◌, ◌<◌, ◌≤◌, cond, leb, refl, ap, ◌∙◌, inl, inr, le_refl}
use Rattle.std.proofs.Common.{mul-div_cancel, mul_comm, mod-eq_of_lt, arith, lit<}
use Rattle.std.proofs.Math.Nat.{pow-le-pow_right, pow-succ'}
use Rattle.std.proofs.lemmas.Bool.{leb-true, leb-false, cases_lt, cond_both}
use Rattle.std.proofs.lemmas.Nat.{pow_pos, le-div, div_below, mul-lt, mul-le}
use Rattle.fixed_math.specs.Logarithm.{greatest_power, whole_log, mantissa_of, leading_bit, squared, fraction_bits, log2_of}

-- ---- the whole part

a_step_below : (k n y : ℕ) → 2 ^ k ≤ y → 2 ^ cond (leb (2 ^ suc n) y) (suc n) k ≤ y
a_step_below k n y h = grind arith

a_step_above : (k n y : ℕ) → y < 2 ^ suc (suc n) → (y < 2 ^ suc n → y < 2 ^ suc k) → y < 2 ^ suc (cond (leb (2 ^ suc n) y) (suc n) k)
a_step_above k n y h r = grind arith

pub greatest_power-le : (n y : ℕ) → 1 ≤ y → 2 ^ greatest_power n y ≤ y
unfolding greatest_power
greatest_power-le zero y h = h
greatest_power-le (suc n) y h = a_step_below (greatest_power n y) n y (greatest_power-le n y h)

pub greatest_power-lt : (n y : ℕ) → y < 2 ^ suc n → y < 2 ^ suc (greatest_power n y)
unfolding greatest_power
greatest_power-lt zero y h = h
greatest_power-lt (suc n) y h = a_step_above (greatest_power n y) n y h (greatest_power-lt n y)

-- the greater power is above y
pub below_power : (a b y : ℕ) → 2 ^ a ≤ y → y < 2 ^ suc b → a ≤ b
below_power a b y low high =
    elim (cases_lt b a) [ inl lt ↦ absurd (omega (arith, pow-le-pow_right {n = 2} (lit< tt) {i = suc b} {j = a} (omega arith))) | inr le ↦ le ]

-- ---- the fraction bits

bits_step : (n b f : ℕ) → b ≤ 1 → f < 2 ^ n → b * 2 ^ n + f < 2 ^ suc n
bits_step n b f h k = omega (arith, pow-succ' 2 n, mul-le b (2 ^ n) 1 (2 ^ n) h (omega arith))

pub leading_bit_le : (x : ℕ) → leading_bit x ≤ 1
leading_bit_le x = grind arith

pub fraction_bits-lt : (n x : ℕ) → fraction_bits n x < 2 ^ n
unfolding fraction_bits
fraction_bits-lt zero x = lit< tt
fraction_bits-lt (suc n) x = bits_step n (leading_bit x) (fraction_bits n (squared x)) (leading_bit_le x) (fraction_bits-lt n (squared x))

-- the mantissa 1 has no bits
pub fraction_bits-one : (n : ℕ) → fraction_bits n (2 ^ 31) ≡ 0
unfolding fraction_bits
fraction_bits-one zero = refl
fraction_bits-one (suc n) = omega (arith, fraction_bits-one n)

-- the square of a mantissa is again one
halved_square : (s : ℕ) → 2 ^ 62 ≤ s → s < 2 ^ 64 → let b : ℕ = cond (leb (2 ^ 63) s) 1 0 in (2 ^ 31 ≤ s / 2 ^ (31 + b)) × (s / 2 ^ (31 + b) < 2 ^ 32)
halved_square s low high =
    cond_both (leb (2 ^ 63) s) 1 0 (λ b. (2 ^ 31 ≤ s / 2 ^ (31 + b)) × (s / 2 ^ (31 + b) < 2 ^ 32))
    (λ e. let big : 2 ^ 63 ≤ s = leb-true _ _ e in (omega arith, omega arith))
    (λ e. let less : s < 2 ^ 63 = leb-false _ _ e in (omega arith, omega arith))

pub halved_is_mantissa : (x b : ℕ) → 2 ^ 31 ≤ x → x < 2 ^ 32 → b ≡ leading_bit x → (2 ^ 31 ≤ x * x / 2 ^ (31 + b)) × (x * x / 2 ^ (31 + b) < 2 ^ 32)
halved_is_mantissa x b low high e =
    rw e (halved_square (x * x) (mul-le (2 ^ 31) (2 ^ 31) x x low low) (mul-lt x x (2 ^ 32) (2 ^ 32) high high))

-- one more bit: what is found, and then the bits of the square, are the bits of the whole
one_more : (bits rest n : ℕ) → bits + fraction_bits (suc n) rest ≡ bits + leading_bit rest * 2 ^ n + fraction_bits n (squared rest)
unfolding fraction_bits
one_more bits rest n = omega arith

-- the loop's step, at the place p from the end
module _ (bits rest bit p total : ℕ) (some : 0 < p) (few : p ≤ 30) (is_bit : bit ≡ leading_bit rest)
    (whole : bits + fraction_bits p rest ≡ total) where
  pub placed : bit * 2 ^ (p - 1) % 2 ^ 64 ≡ leading_bit rest * 2 ^ (p - 1)
  placed =
      let small : 2 ^ (p - 1) ≤ 2 ^ 30 = pow-le-pow_right {n = 2} (lit< tt) {i = p - 1} {j = 30} (omega arith) in
      let fits : leading_bit rest * 2 ^ (p - 1) < 2 ^ 64 =
      omega (arith, mul-le (leading_bit rest) (2 ^ (p - 1)) 1 (2 ^ 30) (leading_bit_le rest) small) in
      ap (λ (b : ℕ). b * 2 ^ (p - 1) % 2 ^ 64) is_bit ∙ mod-eq_of_lt fits

  pub one_placed : bits + bit * 2 ^ (p - 1) % 2 ^ 64 + fraction_bits (p - 1) (rest * rest / 2 ^ (31 + bit)) ≡ total
  one_placed =
      let last : p ≡ suc (p - 1) = omega arith in
      let left : fraction_bits (p - 1) (rest * rest / 2 ^ (31 + bit)) ≡ fraction_bits (p - 1) (squared rest) =
      ap (λ (b : ℕ). fraction_bits (p - 1) (rest * rest / 2 ^ (31 + b))) is_bit in
      omega (arith, left, placed, one_more bits rest (p - 1), ap (λ (n : ℕ). fraction_bits n rest) last)

-- after the last bit
pub all_placed : (bits rest p total : ℕ) → p ≡ 0 → bits + fraction_bits p rest ≡ total → bits ≡ total
unfolding fraction_bits
all_placed bits rest p total none whole = omega (arith, ap (λ (n : ℕ). fraction_bits n rest) none)

-- ---- the logarithm

module _ (y : ℕ) (positive : 1 ≤ y) (small : y ≤ 2 ^ 64) where
  pub whole_log_le : 2 ^ whole_log y ≤ y
  whole_log_le = greatest_power-le 64 y positive

  pub whole_log_lt : y < 2 ^ suc (whole_log y)
  whole_log_lt = greatest_power-lt 64 y (omega arith)

  pub whole_log_is : (k : ℕ) → 2 ^ k ≤ y → y < 2 ^ suc k → k ≡ whole_log y
  whole_log_is k low high =
      omega (arith, below_power k (whole_log y) y low whole_log_lt, below_power (whole_log y) k y whole_log_le high)

  pub mantissa_range : (2 ^ 31 ≤ mantissa_of y) × (mantissa_of y < 2 ^ 32)
  mantissa_range = (
    le-div (2 ^ 31) (y * 2 ^ 31) (2 ^ whole_log y) (pow_pos (whole_log y)) (omega (arith, whole_log_le)),
    div_below (y * 2 ^ 31) (2 ^ whole_log y) (2 ^ 32) (pow_pos (whole_log y)) (omega (arith, whole_log_lt, pow-succ' 2 (whole_log y))),
  )

  pub log2_of-low : (k : ℕ) → 2 ^ k ≤ y → k * 2 ^ 30 ≤ log2_of y
  unfolding log2_of
  log2_of-low k low = omega (arith, below_power k (whole_log y) y low whole_log_lt)

  pub log2_of-high : (k : ℕ) → y < 2 ^ suc k → log2_of y < suc k * 2 ^ 30
  unfolding log2_of
  log2_of-high k high = omega (arith, below_power (whole_log y) k y whole_log_le high, fraction_bits-lt 30 (mantissa_of y))

-- a power of two has the mantissa 1, so its logarithm is whole
power_bits : (k : ℕ) → fraction_bits 30 (2 ^ k * 2 ^ 31 / 2 ^ k) ≡ 0
power_bits k =
    ap (fraction_bits 30) (ap (λ n. n / 2 ^ k) (mul_comm (2 ^ k) (2 ^ 31)) ∙ mul-div_cancel (2 ^ 31) (pow_pos k)) ∙ fraction_bits-one 30

-- the sum that the code makes, in 128 bits and then in 64
pub log2_of-sum : (y w v bits : ℕ) → 1 ≤ y → y ≤ 2 ^ 64 → 2 ^ w ≤ y → y < 2 * 2 ^ w → v ≡ w
    → bits ≡ fraction_bits 30 (y * 2 ^ 31 % 2 ^ 128 / 2 ^ w) → v * 2 ^ 30 % 2 ^ 64 + bits ≡ log2_of y
unfolding log2_of
log2_of-sum y w v bits least most low high is_w e =
    let whole : w ≡ whole_log y = whole_log_is y least most w low (omega (arith, pow-succ' 2 w)) in
    let few : w ≤ 64 = below_power w 64 y low (omega arith) in
    let shifted : y * 2 ^ 31 % 2 ^ 128 ≡ y * 2 ^ 31 = mod-eq_of_lt (omega arith) in
    let placed : v * 2 ^ 30 % 2 ^ 64 ≡ v * 2 ^ 30 = mod-eq_of_lt (omega arith) in
    let mantissa : y * 2 ^ 31 % 2 ^ 128 / 2 ^ w ≡ mantissa_of y = ap (λ (n : ℕ). n / 2 ^ w) shifted ∙ ap (λ (n : ℕ). y * 2 ^ 31 / 2 ^ n) whole in
    omega (arith, placed, whole, e, ap (fraction_bits 30) mantissa)

pub log2_of-power : (k : ℕ) → k ≤ 64 → log2_of (2 ^ k) ≡ k * 2 ^ 30
unfolding log2_of
log2_of-power k h =
    let least : 1 ≤ 2 ^ k = pow_pos k in
    let most : 2 ^ k ≤ 2 ^ 64 = pow-le-pow_right {n = 2} (lit< tt) h in
    let whole : k ≡ whole_log (2 ^ k) = whole_log_is (2 ^ k) least most k (le_refl (2 ^ k)) (omega (arith, pow-succ' 2 k, pow_pos k)) in
    rw (← whole) (omega (arith, power_bits k))

pub log2_of-le : (y : ℕ) → 1 ≤ y → y ≤ 2 ^ 64 → log2_of y ≤ 2 ^ 36
log2_of-le y h k =
    elim (cases_lt y (2 ^ 64)) [
      | inl lt ↦ omega (arith, log2_of-high y h k 63 lt)
      | inr le ↦ let same : y ≡ 2 ^ 64 = omega arith in omega (arith, ap log2_of same, log2_of-power 64 (le_refl 64))
    ]

pub log2_of-power_is : (y : ℕ) → 1 ≤ y → y ≤ 2 ^ 64 → (k : ℕ) → y ≡ 2 ^ k → log2_of y ≡ k * 2 ^ 30
log2_of-power_is y least most k e = ap log2_of e ∙ log2_of-power k (below_power k 64 y (omega (arith, e)) (omega arith))
