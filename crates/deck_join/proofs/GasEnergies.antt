-- The energy of gas molecules as a sum over the changes that were looked at.
use Rattle.std.proofs.Common.{◌≡◌, ◌∙◌, ℕ, ◌+◌, ◌*◌, ◌^◌, ◌<◌, ◌≤◌, ℤ, pos, ◌+ℤ◌, ◌*ℤ◌, unsigned_abs}
use Rattle.std.proofs.Common.{List, [], ◌∷◌, length, take, get_or, refl, sym, ap, arith, to_z, of_z, w64, w8, FitsSigned}
use Rattle.std.specs.Prelude.{slice_index_or}
use native.Mathlib.Nat.{mul-le-mul}
use Rattle.std.proofs.lemmas.Int.{fits_signed_from_abs, to_z-of_z, unsigned_abs-mul}
use Rattle.std.specs.List.{All, AllByRecursion, fold}
use Rattle.std.proofs.lemmas.List.Sums.{fold_more}
use Rattle.deck_join.specs.Gas.{GasChange}
use Rattle.deck_join.specs.SoundValues.{AreSoundChanges}
use Rattle.kmc_base.specs.declared.limits.TheConstants.{MAX_ENERGY}
use Rattle.rate_rules.proofs.Logarithms.{sum-within}

-- what one gas species adds
pub term-small : (change energy : ℤ) → unsigned_abs change ≤ 8 → unsigned_abs energy ≤ 10 ^ 12 → unsigned_abs (change *ℤ energy) ≤ 8 * 10 ^ 12
term-small change energy p q = omega (arith, unsigned_abs-mul change energy, mul-le-mul p q)

-- the sum over some changes, after so much energy
abbrev pub sum_from : List ℤ → ℤ → List GasChange → ℤ
sum_from energies energy changes = fold (λ e change. e +ℤ change.1 *ℤ slice_index_or energies change.0 (pos 0)) energy changes

-- the energies of the species are in their range
abbrev pub AreSmall : List ℤ → GasChange → Type 0
AreSmall energies change = (unsigned_abs change.1 ≤ 8) × (unsigned_abs (slice_index_or energies change.0 (pos 0)) ≤ 10 ^ 12)

-- the sum is as small as its terms make it
pub sum-small : (energies : List ℤ) (energy : ℤ) (n : ℕ) (changes : List GasChange) → unsigned_abs energy ≤ n * (8 * 10 ^ 12)
    → AllByRecursion (AreSmall energies) changes → unsigned_abs (sum_from energies energy changes) ≤ (n + length changes) * (8 * 10 ^ 12)
sum-small energies energy n [] small all = omega (arith, small)
sum-small energies energy n (change ∷ changes) small all =
    let e = slice_index_or energies change.0 (pos 0) in
    let term = term-small change.1 e all.0.0 all.0.1 in
    let sum = sum-within energy (change.1 *ℤ e) (n * (8 * 10 ^ 12)) (8 * 10 ^ 12) small term in
    let rest = sum-small energies (energy +ℤ change.1 *ℤ e) (n + 1) changes (omega (arith, sum)) all.1 in
    omega (arith, rest)

-- one more change in the sum, as the code computes it
pub record IsStep (total change energy from : ℤ) (index : ℕ) : Type 0 where
  pub product : FitsSigned w64 (to_z w64 (of_z w64 from) *ℤ to_z w64 (of_z w64 energy))
  pub fits : FitsSigned w64 (total +ℤ to_z w64 (of_z w64 (to_z w64 (of_z w64 from) *ℤ to_z w64 (of_z w64 energy))))
  pub value : to_z w64 (of_z w64 (total +ℤ to_z w64 (of_z w64 (to_z w64 (of_z w64 from) *ℤ to_z w64 (of_z w64 energy)))))
      ≡ total +ℤ change *ℤ energy
  pub small : unsigned_abs (total +ℤ change *ℤ energy) ≤ (index + 1) * (8 * 10 ^ 12)

pub step : (total change energy from : ℤ) (index : ℕ) → unsigned_abs total ≤ index * (8 * 10 ^ 12) → index < 64 → unsigned_abs change ≤ 8
    → unsigned_abs energy ≤ 10 ^ 12 → from ≡ change → IsStep total change energy from index
step total change energy from index so_far few p q e =
    let term = change *ℤ energy in
    let small : unsigned_abs term ≤ 8 * 10 ^ 12 = term-small change energy p q in
    let first : to_z w64 (of_z w64 change) ≡ change = to_z-of_z w64 change (fits_signed_from_abs w64 change (omega arith)) in
    let second : to_z w64 (of_z w64 energy) ≡ energy = to_z-of_z w64 energy (fits_signed_from_abs w64 energy (omega arith)) in
    let whole : FitsSigned w64 term = fits_signed_from_abs w64 term (omega arith) in
    let factors : to_z w64 (of_z w64 from) *ℤ to_z w64 (of_z w64 energy) ≡ term = rw (e, first, second) refl in
    let is : to_z w64 (of_z w64 (to_z w64 (of_z w64 from) *ℤ to_z w64 (of_z w64 energy))) ≡ term =
    ap (λ z. to_z w64 (of_z w64 z)) factors ∙ to_z-of_z w64 term whole in
    let sum : unsigned_abs (total +ℤ term) ≤ index * (8 * 10 ^ 12) + 8 * 10 ^ 12 =
    sum-within total term (index * (8 * 10 ^ 12)) (8 * 10 ^ 12) so_far small in
    let fits : FitsSigned w64 (total +ℤ term) = fits_signed_from_abs w64 (total +ℤ term) (omega arith) in
    record {
      product = rw factors whole;
      fits = rw is fits;
      value = ap (λ z. to_z w64 (of_z w64 (total +ℤ z))) is ∙ to_z-of_z w64 (total +ℤ term) fits;
      small = omega arith;
    }

-- the same for a change of a list, whose place and size the code has converted
pub step_at : (energies : List ℤ) (changes : List GasChange) (i place : ℕ) (total from : ℤ)
    → All (λ e. unsigned_abs e ≤ unsigned_abs MAX_ENERGY) energies → AreSoundChanges (length energies) changes → i < length changes
    → unsigned_abs total ≤ i * (8 * 10 ^ 12) → from ≡ to_z w8 (of_z w8 (get_or changes i (0, pos 0)).1) → place ≡ (get_or changes i (0, pos 0)).0
    → IsStep total (get_or changes i (0, pos 0)).1 (slice_index_or energies place (pos 0)) from i
step_at energies changes i place total from small are inside so_far converted is =
    let change : GasChange = get_or changes i (0, pos 0) in
    let few = are.molecules i (0, pos 0) inside in
    let energy = small place (pos 0) (omega (arith, are.species i (0, pos 0) inside, is)) in
    let kept : to_z w8 (of_z w8 change.1) ≡ change.1 = to_z-of_z w8 change.1 (fits_signed_from_abs w8 change.1 (omega (arith, few))) in
    step total change.1 (slice_index_or energies place (pos 0)) from i so_far (omega (arith, are.few, inside)) few energy (converted ∙ kept)

-- with one change more
pub sum-more : (energies : List ℤ) (changes : List GasChange) (i : ℕ) (change d : GasChange) (total : ℤ) → i < length changes
    → change ≡ get_or changes i d → total ≡ sum_from energies (pos 0) (take i changes)
    → total +ℤ change.1 *ℤ slice_index_or energies change.0 (pos 0) ≡ sum_from energies (pos 0) (take (i + 1) changes)
sum-more energies changes i change d total inside is so_far =
    ap (λ t. t +ℤ change.1 *ℤ slice_index_or energies change.0 (pos 0)) so_far
    ∙ ap (λ (x : GasChange). sum_from energies (pos 0) (take i changes) +ℤ x.1 *ℤ slice_index_or energies x.0 (pos 0)) is
    ∙ sym (fold_more (λ t x. t +ℤ x.1 *ℤ slice_index_or energies x.0 (pos 0)) (pos 0) changes i d inside)
