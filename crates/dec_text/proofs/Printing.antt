-- one more digit at the end of what is printed
use Rattle.std.proofs.Common.{◌≡◌, ℕ, ◌+◌, ◌-◌, ◌/◌, ◌%◌, ◌^◌, ◌<◌, ◌≤◌, suc, List, [], ◌∷◌, ◌++◌, refl, sym, subst, append_assoc}
use Rattle.std.proofs.Common.{add-one, arith, ℤ, pos, negsuc, false, if◌then◌else◌}
use Rattle.std.specs.Fmt.{decimal}
use Rattle.std.specs.Int.RustNames.{unsigned_abs as nat_abs}
use Rattle.std.specs.Int.Signed.{lt_z}
use Rattle.std.proofs.lemmas.Bool.Decides.{nat_tests}
use Rattle.std.proofs.lemmas.Fmt.{decimal_digit, decimal_step_wide}
use Rattle.dec_text.specs.Fixed.{fixed_size, fixed_text, last_digits}

last_more : (k n : ℕ) → 0 < k → last_digits k n ≡ last_digits (k - 1) (n / 10) ++ (48 + n % 10) ∷ []
last_more k n some = let e : k ≡ suc (k - 1) = omega arith in
    subst (λ (j : ℕ). last_digits j n ≡ last_digits (k - 1) (n / 10) ++ (48 + n % 10) ∷ []) (sym e) refl

pub last_pushed : (old mid new : List ℕ) (k n : ℕ) → 0 < k → mid ≡ old ++ last_digits (k - 1) (n / 10)
    → new ≡ mid ++ (48 + n % 10) ∷ [] → new ≡ old ++ last_digits k n
last_pushed old mid new k n some is_mid is_new = rw (is_new, is_mid, append_assoc, last_more k n some) refl

wide : (n : ℕ) → n < 2 ^ 128 → n < 10 ^ 64
wide n fits = omega arith

pub whole_pushed : (old mid new : List ℕ) (n : ℕ) → 10 ≤ n → n < 2 ^ 128 → mid ≡ old ++ decimal (n / 10)
    → new ≡ mid ++ (48 + n % 10) ∷ [] → new ≡ old ++ decimal n
whole_pushed old mid new n long fits is_mid is_new = rw (is_new, is_mid, append_assoc, decimal_step_wide n long (wide n fits)) refl

pub whole_digit : (old new : List ℕ) (n : ℕ) → n < 10 → new ≡ old ++ (48 + n % 10) ∷ [] → new ≡ old ++ decimal n
whole_digit old new n small is_new = let same : n % 10 ≡ n = omega arith in rw (is_new, same, decimal_digit n small) refl

not_negative : (n : ℕ) → lt_z (pos n) (pos 0) ≡ false
not_negative n = grind (arith, nat_tests)

-- a sign, and then the size
signed_text : (v : ℤ) (decimals : ℕ) → fixed_text v decimals ≡ (if lt_z v (pos 0) then 45 ∷ [] else []) ++ fixed_size (nat_abs v) decimals
signed_text (pos n) decimals = rw (not_negative n) refl
signed_text (negsuc n) decimals = rw add-one refl

-- the parts of a printed number
pub fixed_pushed : (old signed whole pointed new : List ℕ) (v : ℤ) (decimals size unit : ℕ)
    → signed ≡ old ++ (if lt_z v (pos 0) then 45 ∷ [] else []) → size ≡ nat_abs v → unit ≡ 10 ^ decimals
    → whole ≡ signed ++ decimal (size / unit) → pointed ≡ whole ++ 46 ∷ [] → new ≡ pointed ++ last_digits decimals size
    → new ≡ old ++ fixed_text v decimals
fixed_pushed old signed whole pointed new v decimals size unit is_signed is_size is_unit is_whole is_pointed is_new =
    rw (is_new, is_pointed, is_whole, is_signed, is_unit, is_size, signed_text v decimals) (simp append_assoc)
