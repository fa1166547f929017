-- How many samples of a period are below a bound, and which they are.
use Rattle.std.proofs.Common.{◌≡◌, ℕ, zero, suc, ◌+◌, ◌-◌, ◌*◌, ◌/◌, ◌<◌, ◌≤◌, ◌↔◌, [], ◌∷◌, ◌++◌, min, refl, ap, ◌∙◌, arith}
use Rattle.std.proofs.Math.Nat.{le-div_iff_mul-le, add-mul-div_right}
use Rattle.std.proofs.Common.{inl, inr}
use Rattle.std.proofs.lemmas.Bool.{cases_lt}
use Rattle.std.proofs.lemmas.List.Elements.{All-cons, All-nil}
use Rattle.std.specs.List.{All, range_with_len}
use Rattle.kmc_report.specs.Samples.{samples_below, samples_from, samples_within}
use Rattle.kmc_report.specs.declared.stop.TheConstants.{MAX_SAMPLES}

-- the number of multiples of a period below a bound, without the limit
quotient : ℕ → ℕ → ℕ
quotient period bound = (bound + (period - 1)) / period

-- a number is below it if and only if that multiple is below the bound
quotient-above : (period bound number : ℕ) → 1 ≤ period → number * period < bound → number < quotient period bound
unfolding quotient
quotient-above period bound number some below =
    let room : (number + 1) * period ≤ bound + (period - 1) = omega arith in
    let iff : (number + 1 ≤ (bound + (period - 1)) / period) ↔ ((number + 1) * period ≤ bound + (period - 1))
    = le-div_iff_mul-le {k = period} {x = number + 1} {y = bound + (period - 1)} (omega arith) in
    let so : number + 1 ≤ (bound + (period - 1)) / period = iff.1 room in
    omega arith

quotient-below : (period bound number : ℕ) → 1 ≤ period → number < quotient period bound → number * period < bound
unfolding quotient
quotient-below period bound number some within =
    let iff : (number + 1 ≤ (bound + (period - 1)) / period) ↔ ((number + 1) * period ≤ bound + (period - 1))
    = le-div_iff_mul-le {k = period} {x = number + 1} {y = bound + (period - 1)} (omega arith) in
    let room : (number + 1) * period ≤ bound + (period - 1) = iff.0 (omega arith) in
    omega arith

below-quotient : (period bound : ℕ) → samples_below period bound ≡ min MAX_SAMPLES (quotient period bound)
unfolding quotient
below-quotient period bound = refl

-- a number is one of the samples below a bound if and only if its multiple is below it, and it is below the limit
pub is-below : (period bound number : ℕ) → 1 ≤ period → number < MAX_SAMPLES → number * period < bound → number < samples_below period bound
is-below period bound number some within below =
    let q : number < quotient period bound = quotient-above period bound number some below in
    rw below-quotient (omega arith)

pub below-limit : (period bound number : ℕ) → number < samples_below period bound → number < MAX_SAMPLES
below-limit period bound number within =
    let q : number < min MAX_SAMPLES (quotient period bound) = rw below-quotient at within in
    omega arith

pub below-bound : (period bound number : ℕ) → 1 ≤ period → number < samples_below period bound → number * period < bound
below-bound period bound number some within =
    let q : number < min MAX_SAMPLES (quotient period bound) = rw below-quotient at within in
    quotient-below period bound number some (omega arith)

pub below-most : (period bound : ℕ) → samples_below period bound ≤ MAX_SAMPLES
below-most period bound = rw below-quotient (omega arith)

-- a later bound has no fewer samples below it
pub below-grows : (period a b : ℕ) → 1 ≤ period → a ≤ b → samples_below period a ≤ samples_below period b
below-grows period a b some le =
    elim (cases_lt (samples_below period b) (samples_below period a)) [
      | inl more ↦
          let within : samples_below period b < MAX_SAMPLES = below-limit period a (samples_below period b) more in
          let low : samples_below period b * period < a = below-bound period a (samples_below period b) some more in
          let lower : samples_below period b * period < b = omega arith in
          let self : samples_below period b < samples_below period b = is-below period b (samples_below period b) some within lower in
          absurd (omega (arith, self))
      | inr most ↦ most
    ]

-- none is below 0
pub below-zero : (period : ℕ) → 1 ≤ period → samples_below period 0 ≡ 0
below-zero period some =
    elim (cases_lt 0 (samples_below period 0)) [
      | inl more ↦ let no : 0 * period < 0 = below-bound period 0 0 some more in absurd (omega (arith, no))
      | inr none ↦ omega (arith, none)
    ]

-- a bound that is no multiple has the same samples below it as the next one
pub below-same : (period bound : ℕ) → 1 ≤ period → (samples_below period bound < MAX_SAMPLES → samples_below period bound * period ≡ bound → ⊥)
    → samples_below period (bound + 1) ≡ samples_below period bound
below-same period bound some other =
    let grows : samples_below period bound ≤ samples_below period (bound + 1) = below-grows period bound (bound + 1) some (omega arith) in
    elim (cases_lt (samples_below period bound) (samples_below period (bound + 1))) [
      | inl more ↦
          let within : samples_below period bound < MAX_SAMPLES = below-limit period (bound + 1) (samples_below period bound) more in
          let low : samples_below period bound * period < bound + 1 = below-bound period (bound + 1) (samples_below period bound) some more in
          elim (cases_lt (samples_below period bound * period) bound) [
            | inl lower ↦
                let self : samples_below period bound < samples_below period bound
                = is-below period bound (samples_below period bound) some within lower in
                absurd (omega (arith, self))
            | inr high ↦ absurd (other within (omega arith))
          ]
      | inr most ↦ omega (arith, most, grows)
    ]

-- a bound that is a multiple has one sample more below the next bound
pub below-more : (period bound : ℕ) → 1 ≤ period → samples_below period bound < MAX_SAMPLES → samples_below period bound * period ≡ bound
    → samples_below period (bound + 1) ≡ samples_below period bound + 1
below-more period bound some within is =
    let here : samples_below period bound < samples_below period (bound + 1)
    = is-below period (bound + 1) (samples_below period bound) some within (omega arith) in
    elim (cases_lt (samples_below period bound + 1) (samples_below period (bound + 1))) [
      | inl more ↦
          let low : (samples_below period bound + 1) * period < bound + 1
          = below-bound period (bound + 1) (samples_below period bound + 1) some more in
          absurd (omega arith)
      | inr most ↦ omega (arith, most, here)
    ]

-- the samples up to the last event, or up to the last time, that included
pub below-all : (period last : ℕ) → 1 ≤ period → samples_below period (last + 1) ≡ min MAX_SAMPLES (last / period + 1)
below-all period last some =
    let sum : last + 1 + (period - 1) ≡ last + 1 * period = omega arith in
    let is : (last + 1 * period) / period ≡ last / period + 1 = add-mul-div_right last 1 {z = period} (omega arith) in
    ap (λ n. min MAX_SAMPLES (n / period)) sum ∙ ap (λ n. min MAX_SAMPLES n) is

-- two ranges, one behind the other
range-append : (a n m b k : ℕ) → a + n ≡ b → n + m ≡ k → range_with_len a n ++ range_with_len b m ≡ range_with_len a k
range-append a zero m b k at of = let e : b ≡ a = omega arith in let f : m ≡ k = omega arith in rw (e, f) refl
range-append a (suc n) m b k at of =
    let more : k ≡ suc (n + m) = omega arith in
    rw more (ap (λ xs. a ∷ xs) (range-append (a + 1) n m b (n + m) (omega arith) refl))

-- the samples up to a bound, and then those from it on
pub within-append : (period a b c : ℕ) → 1 ≤ period → a ≤ b → b ≤ c
    → samples_within period a b ++ samples_within period b c ≡ samples_within period a c
within-append period a b c some ab bc =
    let low : samples_below period a ≤ samples_below period b = below-grows period a b some ab in
    let high : samples_below period b ≤ samples_below period c = below-grows period b c some bc in
    range-append (samples_below period a) (samples_below period b - samples_below period a) (samples_below period c - samples_below period b)
    (samples_below period b) (samples_below period c - samples_below period a) (omega (arith, low, high)) (omega (arith, low, high))

-- a range that ends where it begins, and one with a first number
pub from-none : (period number bound : ℕ) → samples_below period bound ≤ number → samples_from period number bound ≡ []
from-none period number bound most =
    let none : samples_below period bound - number ≡ 0 = omega (arith, most) in
    ap (λ n. range_with_len number n) none

pub from-some : (period number bound : ℕ) → number < samples_below period bound
    → samples_from period number bound ≡ number ∷ samples_from period (number + 1) bound
from-some period number bound within =
    let more : samples_below period bound - number ≡ suc (samples_below period bound - (number + 1)) = omega (arith, within) in
    ap (λ n. range_with_len number n) more

-- all from the first on
pub from-zero : (period last : ℕ) → 1 ≤ period → samples_within period 0 (last + 1) ≡ range_with_len 0 (min MAX_SAMPLES (last / period + 1))
from-zero period last some =
    ap (λ n. range_with_len n (samples_below period (last + 1) - n)) (below-zero period some)
    ∙ ap (λ n. range_with_len 0 (n - 0)) (below-all period last some) ∙ ap (λ n. range_with_len 0 n) (omega arith)

-- what holds of each number of a range holds of all
range-all : (P : ℕ → Type 0) (a n : ℕ) → ((k : ℕ) → a ≤ k → k < a + n → P k) → All P (range_with_len a n)
range-all P a zero each = All-nil P
range-all P a (suc n) each =
    All-cons P a (range_with_len (a + 1) n) (each a (omega arith) (omega arith))
    (range-all P (a + 1) n (λ k low high. each k (omega arith) (omega arith)))

-- each sample that is due from one bound on and below another is not below the first
pub within-all : (P : ℕ → Type 0) (period a b : ℕ) → 1 ≤ period → a ≤ b
    → ((k : ℕ) → a ≤ k * period → k * period < b → P k) → All P (samples_within period a b)
within-all P period a b some ab each =
    let grows : samples_below period a ≤ samples_below period b = below-grows period a b some ab in
    range-all P (samples_below period a) (samples_below period b - samples_below period a)
    (λ k low high.
    let within : k < samples_below period b = omega (arith, grows) in
    each k (not-below k low (below-limit period b k within)) (below-bound period b k some within))
  where
    not-below : (k : ℕ) → samples_below period a ≤ k → k < MAX_SAMPLES → a ≤ k * period
    not-below k low within =
        elim (cases_lt (k * period) a) [
          | inl lower ↦ let self : k < samples_below period a = is-below period a k some within lower in absurd (omega (arith, low))
          | inr high ↦ high
        ]
