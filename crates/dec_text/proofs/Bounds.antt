-- sizes that are past every bound need not be told apart
use Rattle.std.proofs.Common.{◌≡◌, ◌⊎◌, ℕ, ◌^◌, ◌<◌, ◌≤◌, ℤ, pos, neg_ℤ, ◌≤ℤ◌, ◌<ℤ◌, Bool, true, false, Err, min, refl, sym, ◌∙◌, arith}
use Rattle.std.proofs.Common.{inl, inr, ⊎_elim}
use Rattle.std.specs.Int.Signed.{lt_z}
use Rattle.std.proofs.lemmas.Bool.{cases_Bool, cases_lt}
use Rattle.std.proofs.lemmas.Int.{ints}
use Rattle.dec_text.specs.Decimals.{signed}
use Rattle.dec_text.specs.Scaled.{within_bounds}
use Rattle.dec_text.specs.declared.scaled.TheConstants.{PAST}

outside : (value low high : ℤ) → (value <ℤ low) ⊎ (high <ℤ value) → within_bounds value low high ≡ Err record {}
outside value low high far = ⊎_elim
    (λ (below : value <ℤ low). let test : lt_z value low ≡ true = grind (arith, ints) in rw test refl)
    (λ (above : high <ℤ value).
    let test : lt_z high value ≡ true = grind (arith, ints) in
    rw test (⊎_elim
    (λ (low_too : lt_z value low ≡ true). rw low_too refl)
    (λ (in_low : lt_z value low ≡ false). rw in_low refl)
    (cases_Bool (lt_z value low))))
    far

past_bounds : (negative : Bool) (size : ℕ) (low high : ℤ) → PAST ≤ size → neg_ℤ (pos (10 ^ 36)) ≤ℤ low → high ≤ℤ pos (10 ^ 36)
    → (signed negative size <ℤ low) ⊎ (high <ℤ signed negative size)
past_bounds true size low high past is_low is_high = inl (omega (arith, ints))
past_bounds false size low high past is_low is_high = inr (omega (arith, ints))

pub bounds_capped : (negative : Bool) (size small : ℕ) (low high : ℤ) → small ≡ min PAST size → neg_ℤ (pos (10 ^ 36)) ≤ℤ low → high ≤ℤ pos (10 ^ 36)
    → within_bounds (signed negative small) low high ≡ within_bounds (signed negative size) low high
bounds_capped negative size small low high capped is_low is_high = ⊎_elim
    (λ (over : PAST < size).
    outside _ low high (past_bounds negative small low high (omega arith) is_low is_high)
    ∙ sym (outside _ low high (past_bounds negative size low high (omega arith) is_low is_high)))
    (λ (under : size ≤ PAST). let same : small ≡ size = omega arith in rw same refl)
    (cases_lt PAST size)
