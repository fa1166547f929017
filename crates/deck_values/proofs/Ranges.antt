-- what the readings of numbers give is in their ranges
use Rattle.std.proofs.Common.{◌≡◌, ◌≤◌, ◌≤ℤ◌, ◌||◌, arith, negsuc, pos, unsigned_abs, List, ap, ℕ, ℤ, Bool}
use Rattle.std.proofs.Common.{true, false, IfOk, Err, Ok, Result, T, refl, sym, subst, if◌then◌else◌, not}
use Rattle.std.specs.Int.Signed.{lt_z, lt_z_no}
use Rattle.std.proofs.lemmas.Int.{ints}
use Rattle.std.proofs.lemmas.Result.{IfOk-at_ok, IfOk-weaker}
use Rattle.dec_text.specs.Decimals.{Scientific}
use Rattle.dec_text.specs.Scaled.{scaled_value, scaled_within, within_bounds}
use Rattle.dec_text.specs.Decimals.{decimal_of}
use Rattle.dec_text.specs.Wholes.{whole_number}
use Rattle.dec_text.specs.declared.faults.DecimalFault.{DecimalFault}
use Rattle.dec_text.specs.declared.faults.NotWhole.{NotWhole}
use Rattle.deck_words.specs.declared.kind.TheConstants.{OUT_OF_RANGE}
use Rattle.deck_words.proofs.HeldValues.{value_map-holds}
use Rattle.deck_values.specs.Numbers.{amount_in, is_up_to, is_whole_in, scaled_from, scaled_in}
use Rattle.deck_values.specs.Numbers.{scaled_or_kind, up_to, up_to_from, whole_in, whole_within}
use Rattle.deck_values.specs.declared.number.ScaledRange.{ScaledRange}
use Rattle.deck_values.specs.declared.number.WholeRange.{WholeRange}
use Rattle.std.proofs.lemmas.Bool.{and_parts, leb-true}

bounded : (value low high : ℤ) (below above : Bool) → lt_z value low ≡ below → lt_z high value ≡ above
    → IfOk (scaled_or_kind (if below || above then Err record {} else Ok value)) (λ n. (low ≤ℤ n) × (n ≤ℤ high))
bounded value low high true above e f = tt
bounded value low high false true e f = tt
bounded value low high false false e f = (lt_z_no (subst (λ b. T (not b)) (sym e) tt), lt_z_no (subst (λ b. T (not b)) (sym f) tt))

-- a scaled decimal within its bounds
pub in_bounds : (value low high : ℤ) → IfOk (scaled_or_kind (within_bounds value low high)) (λ n. (low ≤ℤ n) × (n ≤ℤ high))
in_bounds value low high = bounded value low high (lt_z value low) (lt_z high value) refl refl

module _ (n : Scientific) (places : ℕ) (low high units : ℤ) (is : scaled_within n places low high ≡ Ok units) where
  units_within : (low ≤ℤ units) × (units ≤ℤ high)
  units_within =
      IfOk-at_ok (λ u. (low ≤ℤ u) × (u ≤ℤ high)) (ap scaled_or_kind is) (in_bounds (scaled_value n places) low high)

  pub at_least : low ≤ℤ units
  at_least = units_within.0

  pub at_most : units ≤ℤ high
  at_most = units_within.1

-- a whole number in its range
passed : (range : WholeRange) (n : ℕ) → is_whole_in range n ≡ true → (range.least ≤ n) × (n ≤ range.most)
passed range n is = let parts = and_parts _ _ is in (leb-true range.least n parts.0, leb-true n range.most parts.1)

taken : {X : Type 0} (P : X → Type 0) (within : Bool) (x : X) (kind : ℕ) → (within ≡ true → P x) → IfOk (if within then Ok x else Err kind) P
taken P true x kind p = p refl
taken P false x kind p = tt

whole-within : (range : WholeRange) (r : Result ℕ NotWhole) → IfOk (whole_within range r) (λ n. (range.least ≤ n) × (n ≤ range.most))
whole-within range (Err e) = tt
whole-within range (Ok n) = taken (λ n. (range.least ≤ n) × (n ≤ range.most)) (is_whole_in range n) n OUT_OF_RANGE (passed range n)

pub whole-holds : (range : WholeRange) (word : List ℕ) → IfOk (whole_in range word) (λ n. (range.least ≤ n) × (n ≤ range.most))
whole-holds range word = whole-within range (whole_number word)

scaled-from : (range : ScaledRange) (r : Result Scientific DecimalFault)
    → IfOk (scaled_from range r) (λ n. (range.least ≤ℤ n) × (n ≤ℤ range.most))
scaled-from range (Err e) = tt
scaled-from range (Ok n) = in_bounds (scaled_value n range.places) range.least range.most

-- a decimal in its range
pub scaled-holds : (range : ScaledRange) (word : List ℕ) → IfOk (scaled_in range word) (λ n. (range.least ≤ℤ n) × (n ≤ℤ range.most))
scaled-holds range word = scaled-from range (decimal_of word)

up_to-from : (power : ℕ) (r : Result Scientific DecimalFault) → IfOk (up_to_from power r) (λ n. is_up_to power n ≡ true)
up_to-from power (Err e) = tt
up_to-from power (Ok n) = taken (λ n. is_up_to power n ≡ true) (is_up_to power n) n OUT_OF_RANGE (λ is. is)

-- a decimal up to a power of ten
pub up_to-holds : (power : ℕ) (word : List ℕ) → IfOk (up_to power word) (λ n. is_up_to power n ≡ true)
up_to-holds power word = up_to-from power (decimal_of word)

amount-within : (range : ScaledRange) (n : ℤ) → pos 0 ≤ℤ range.least → (range.least ≤ℤ n) × (n ≤ℤ range.most)
    → (range.least ≤ℤ pos (unsigned_abs n)) × (pos (unsigned_abs n) ≤ℤ range.most)
amount-within range (pos k) positive within = within
amount-within range (negsuc k) positive within = absurd (let least = within.0 in omega (arith, ints))

-- a size in its range
pub amount-holds : (range : ScaledRange) (word : List ℕ) → pos 0 ≤ℤ range.least
    → IfOk (amount_in range word) (λ n. (range.least ≤ℤ pos n) × (pos n ≤ℤ range.most))
amount-holds range word positive =
    value_map-holds (λ n. (range.least ≤ℤ pos n) × (pos n ≤ℤ range.most)) unsigned_abs (scaled_in range word)
    (IfOk-weaker (scaled_in range word) _ (λ n. (range.least ≤ℤ pos (unsigned_abs n)) × (pos (unsigned_abs n) ≤ℤ range.most))
    (λ n within. amount-within range n positive within) (scaled-holds range word))
