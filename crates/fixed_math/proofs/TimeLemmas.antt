-- What the definitions of `specs/Gap.antt` and `specs/WaitingTime.antt` give: a product scaled in 128
-- bits, the three answers, and that an instance fires after the present.
use Rattle.std.proofs.Common.{◌≡◌, ℕ, ◌+◌, ◌-◌, ◌*◌, ◌/◌, ◌%◌, ◌^◌, ◌<◌, ◌≤◌, max, ℤ, pos, negsuc, ◌-ℤ◌, ◌≤ℤ◌, ◌<ℤ◌, unsigned_abs, Option}
use Rattle.std.proofs.Common.{Some, None, true, false, ◌&&◌, leb, inl, inr, ◌↔◌, refl, ap, sym, ◌∙◌, mod-eq_of_lt, arith, lit<}
use Rattle.std.proofs.Common.{FitsSigned, w64, to_z, of_z}
use Rattle.std.proofs.Math.Nat.{pow-le-pow_right, div-eq_of_lt}
use Rattle.std.proofs.lemmas.Bool.{cond_both, cond-true, cond-false, and_left, and_right, and_from, and_parts, and_cases, lt-leb, le-leb}
use Rattle.std.proofs.lemmas.Bool.{leb-true, leb-false}
use Rattle.std.proofs.lemmas.Nat.{shl_below}
use Rattle.std.proofs.lemmas.Int.{ints, to_z-of_z}
use Rattle.std.specs.Prelude.{int_le, int_lt}
use Rattle.kmc_base.specs.declared.limits.TheConstants.{END_OF_TIME}
use Rattle.kmc_base.specs.declared.firing_time.When.{When}
use Rattle.kmc_base.specs.declared.firing_time.When.TheVariants.{At, Never}
use Rattle.fixed_math.specs.Logarithm.{log2_of}
use Rattle.fixed_math.specs.Gap.{gap_of}
use Rattle.fixed_math.specs.Exponential.{exp2_of}
use Rattle.fixed_math.specs.WaitingTime.{scaled_down, mean_wait, wait_of, time_of, IsNeverDue, IsLater}

-- ---- the gap

difference : (y : ℕ) (l : ℤ) → y ≤ 2 ^ 36 → l ≡ pos y → unsigned_abs (to_z w64 (of_z w64 (pos (2 ^ 36) -ℤ to_z w64 (of_z w64 l)))) ≡ 2 ^ 36 - y
difference y l le e = omega (arith, ints)

pub gap_of-difference : (w y : ℕ) (l : ℤ) → y ≡ w + 1 → log2_of y ≤ 2 ^ 36 → l ≡ pos (log2_of y)
    → unsigned_abs (to_z w64 (of_z w64 (pos (2 ^ 36) -ℤ to_z w64 (of_z w64 l)))) * 744261118 / 2 ^ 30 ≡ gap_of w
unfolding gap_of
gap_of-difference w y l is_y le e =
    ap (λ (n : ℕ). n * 744261118 / 2 ^ 30) (difference (log2_of y) l le e ∙ ap (λ (n : ℕ). 2 ^ 36 - log2_of n) is_y)

-- ---- a product scaled

up_fits : (n k : ℕ) → n < 2 ^ 67 → k ≤ 60 → n * 2 ^ k < 2 ^ 127
up_fits n k h le = omega (arith, shl_below n 67 k h, pow-le-pow_right {n = 2} (lit< tt) {i = 67 + k} {j = 127} (omega arith))

pub scaled_up : (n p : ℕ) (e : ℤ) → n < 2 ^ 67 → p ≡ unsigned_abs e → int_le (pos 0) e ≡ true → e ≤ℤ pos 60
    → (n * 2 ^ p % 2 ^ 128 ≡ scaled_down n e) × (n * 2 ^ p % 2 ^ 128 < 2 ^ 127)
scaled_up n p (pos k) h same low high =
    let fits : n * 2 ^ k < 2 ^ 127 = up_fits n k h (omega (arith, ints)) in
    let whole : n * 2 ^ p % 2 ^ 128 ≡ n * 2 ^ k = ap (λ (i : ℕ). n * 2 ^ i % 2 ^ 128) same ∙ mod-eq_of_lt (omega arith) in
    (whole, omega arith)
scaled_up n p (negsuc k) h same low high = cc

pub scaled_away : (n p : ℕ) (e : ℤ) → n < 2 ^ 67 → p ≡ unsigned_abs e → int_le (pos 0) e ≡ false → 128 ≤ p → 0 ≡ scaled_down n e
scaled_away n p (pos k) h same low far = absurd (omega (arith, leb-false 0 k low))
scaled_away n p (negsuc k) h same low far =
    sym (div-eq_of_lt {n = n} (omega (arith, pow-le-pow_right {n = 2} (lit< tt) {i = 67} {j = k + 1} (omega arith))))

-- ---- the mean wait

module _ (lg : ℤ) (small : unsigned_abs lg ≤ 2 ^ 42) where
  pub seconds_fit : FitsSigned w64 (pos 64204076376 -ℤ to_z w64 (of_z w64 lg))
  seconds_fit = omega (arith, ints)

  pub seconds_in_range : unsigned_abs (to_z w64 (of_z w64 (pos 64204076376 -ℤ to_z w64 (of_z w64 lg)))) ≤ 2 ^ 44
  seconds_in_range = omega (arith, ints)

  pub is_mean_wait : (p : ℕ × ℤ) → p ≡ exp2_of (to_z w64 (of_z w64 (pos 64204076376 -ℤ to_z w64 (of_z w64 lg)))) → p ≡ mean_wait lg
  is_mean_wait p e =
      let fits : FitsSigned w64 lg = omega (arith, ints) in
      let difference_fits : FitsSigned w64 (pos 64204076376 -ℤ lg) = omega (arith, ints) in
      simp to_z-of_z at e

-- ---- the time

late_test : (q : ℤ) → unsigned_abs q ≤ 2 ^ 14 → int_lt (pos 120) (to_z w64 (of_z w64 q)) ≡ true → int_le q (pos 120) ≡ false
late_test q small t = grind (arith, ints)

soon_test : (q : ℤ) → unsigned_abs q ≤ 2 ^ 14 → int_lt (pos 120) (to_z w64 (of_z w64 q)) ≡ false → int_le q (pos 120) ≡ true
soon_test q small t = grind (arith, ints)

pub time_of-none : (lg : Option ℤ) (w now : ℕ) → lg ≡ None → Never ≡ time_of lg w now
unfolding time_of
time_of-none None w now e = refl
time_of-none (Some lg) w now e = cc

-- the answers at a rate, of which p is the mean wait
module _ (rate : Option ℤ) (lg : ℤ) (w now : ℕ) (p : ℕ × ℤ) (is_rate : rate ≡ Some lg) (is_mean : p ≡ mean_wait lg)
    (small : unsigned_abs p.1 ≤ 2 ^ 14) where
  pub time_of-late : int_lt (pos 120) (to_z w64 (of_z w64 p.1)) ≡ true → Never ≡ time_of rate w now
  unfolding time_of
  time_of-late t =
      let late : int_le (mean_wait lg).1 (pos 120) ≡ false = sym (ap (λ (m : ℕ × ℤ). int_le m.1 (pos 120)) is_mean) ∙ late_test p.1 small t in
      rw is_rate (sym (cond-false _ _ _ (and_left _ _ late)))

  pub time_of-past : END_OF_TIME < now + wait_of lg w → Never ≡ time_of rate w now
  unfolding time_of
  time_of-past past = rw is_rate (sym (cond-false _ _ _ (and_right _ _ (lt-leb (now + wait_of lg w) END_OF_TIME past))))

  pub time_of-due : int_lt (pos 120) (to_z w64 (of_z w64 p.1)) ≡ false → now + wait_of lg w ≤ END_OF_TIME
      → At (now + wait_of lg w) ≡ time_of rate w now
  unfolding time_of
  time_of-due t due =
      let soon : int_le (mean_wait lg).1 (pos 120) ≡ true = sym (ap (λ (m : ℕ × ℤ). int_le m.1 (pos 120)) is_mean) ∙ soon_test p.1 small t in
      rw is_rate (sym (cond-true _ _ _ (and_from _ _ soon (le-leb _ _ due))))

  pub wait_of-product : (g m s : ℕ) → g ≡ gap_of w → m ≡ p.0
      → s ≡ scaled_down (g * m) (to_z w64 (of_z w64 (to_z w64 (of_z w64 p.1) -ℤ pos 60))) → max s 1 ≡ wait_of lg w
  wait_of-product g m s is_gap is_m is_scaled =
      let fits : FitsSigned w64 p.1 = omega (arith, ints) in
      let difference_fits : FitsSigned w64 (p.1 -ℤ pos 60) = omega (arith, ints) in
      let scaled = simp to_z-of_z at is_scaled in
      let factors : g * m ≡ gap_of w * p.0 = ap (λ (n : ℕ). n * m) is_gap ∙ ap (λ (n : ℕ). gap_of w * n) is_m in
      let product = scaled ∙ ap (λ (n : ℕ). scaled_down n (p.1 -ℤ pos 60)) factors
      ∙ ap (λ (m : ℕ × ℤ). scaled_down (gap_of w * m.0) (m.1 -ℤ pos 60)) is_mean in
      omega (arith, product)

-- ---- never, exactly by one of its causes

is_late : (q : ℤ) → int_le q (pos 120) ≡ false → pos 120 <ℤ q
is_late q e = omega (arith, ints)

late_fails : (q : ℤ) → pos 120 <ℤ q → int_le q (pos 120) ≡ false
late_fails q late = grind (arith, ints)

never_from_test : (lg : ℤ) (w now : ℕ) → (int_le (mean_wait lg).1 (pos 120) && leb (now + wait_of lg w) END_OF_TIME)
    ≡ false → IsNeverDue (Some lg) w now
never_from_test lg w now e =
    elim (and_cases (int_le (mean_wait lg).1 (pos 120)) (leb (now + wait_of lg w) END_OF_TIME) e) [
      | inl late ↦ inl (is_late (mean_wait lg).1 late)
      | inr past ↦ inr (leb-false (now + wait_of lg w) END_OF_TIME past)
    ]

test_from_never : (lg : ℤ) (w now : ℕ) → IsNeverDue (Some lg) w now
    → (int_le (mean_wait lg).1 (pos 120) && leb (now + wait_of lg w) END_OF_TIME) ≡ false
test_from_never lg w now never =
    elim never [
      | inl late ↦ and_left (int_le (mean_wait lg).1 (pos 120)) _ (late_fails (mean_wait lg).1 late)
      | inr past ↦ and_right _ (leb (now + wait_of lg w) END_OF_TIME) (lt-leb (now + wait_of lg w) END_OF_TIME past)
    ]

pub time_of-never : (rate : Option ℤ) (w now : ℕ) → (time_of rate w now ≡ Never) ↔ IsNeverDue rate w now
unfolding time_of
time_of-never None w now = ((λ _. tt), (λ _. refl))
time_of-never (Some lg) w now = (
  cond_both (int_le (mean_wait lg).1 (pos 120) && leb (now + wait_of lg w) END_OF_TIME) (At (now + wait_of lg w))
      Never (λ t. t ≡ Never → IsNeverDue (Some lg) w now)
      (λ _ e. cc) (λ e _. never_from_test lg w now e),
  (λ h. cond-false _ _ _ (test_from_never lg w now h)),
)

pub never_at : (rate : Option ℤ) (w now : ℕ) (t : When) → t ≡ time_of rate w now → (t ≡ Never) ↔ IsNeverDue rate w now
never_at rate w now t e = rw e (time_of-never rate w now)

-- the law: whatever the rate and the draw, an instance fires after the present, and not past the end of time
pub time_of-later : (rate : Option ℤ) (w now : ℕ) → IsLater now (time_of rate w now)
unfolding time_of
time_of-later None w now = tt
time_of-later (Some lg) w now =
    cond_both (int_le (mean_wait lg).1 (pos 120) && leb (now + wait_of lg w) END_OF_TIME) (At (now + wait_of lg w)) Never (IsLater now)
    (λ e. (omega arith, leb-true _ _ (and_parts _ _ e).1))
    (λ _. tt)
