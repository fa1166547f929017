-- energies and graph multiplicities that are read are in their ranges
use Rattle.std.proofs.Common.{◌≡◌, ◌≤ℤ◌, ◌≤◌, ◌<◌, ◌+◌, ◌*◌, ◌/◌, arith, neg_ℤ, negsuc, pos, zero, suc, ℕ, ℤ, Bool, true, false, IfOk, List, Option, Result}
use Rattle.std.proofs.Common.{Ok, Err, refl, subst, sym, unsigned_abs}
use Rattle.std.proofs.Math.Nat.{div-lt_iff_lt-mul, mul-le-mul_left}
use Rattle.std.specs.Int.Signed.{lt_z}
use Rattle.dec_text.specs.Decimals.{signed}
use Rattle.std.proofs.lemmas.Int.{ints}
use Rattle.std.proofs.lemmas.Result.{IfOk-weaker}
use Rattle.deck_shape.proofs.BlockValues.{word-holds}
use Rattle.deck_shape.specs.Blocks.{BlockLines}
use Rattle.deck_shape.specs.Names.{NameWord}
use Rattle.deck_values.proofs.Ranges.{scaled-holds, whole-holds}
use Rattle.deck_values.specs.Numbers.{scaled_in, whole_in}
use Rattle.deck_values.specs.declared.number.TheConstants.{ENERGY}
use Rattle.deck_words.proofs.HeldValues.{both-holds, value_map-holds}
use Rattle.deck_words.specs.Faults.{both}
use Rattle.deck_words.specs.declared.fault.LineFault.{LineFault}
use Rattle.deck_words.specs.declared.keyword.Keyword.TheVariants.{ClusterEng, GraphMultiplicity}
use Rattle.energetics_deck.specs.Clusters.{CommonValues, VariantValues, common_values, energy_or, multiplicity_or, variant_within}
use Rattle.energetics_deck.specs.Shares.{AreInRange, IsEnergy, IsMultiplicity, share_of}
use Rattle.energetics_deck.specs.declared.ranges.TheConstants.{MULTIPLICITY}
use Rattle.kmc_base.specs.declared.limits.TheConstants.{MAX_ENERGY}
use Rattle.pattern_rows.specs.Types.{types_or}

small : (e : ℤ) → (neg_ℤ MAX_ENERGY ≤ℤ e) × (e ≤ℤ MAX_ENERGY) → IsEnergy e
small (pos k) within = let most = within.1 in omega (arith, ints)
small (negsuc k) within = let least = within.0 in omega (arith, ints)

energy-holds : (absent : Result ℤ LineFault) (block : BlockLines) → IfOk absent IsEnergy → IfOk (energy_or absent block) IsEnergy
energy-holds absent block holds =
    word-holds IsEnergy absent (scaled_in ENERGY) ClusterEng block.items holds
    (λ word. IfOk-weaker (scaled_in ENERGY word) _ IsEnergy (λ e within. small e within) (scaled-holds ENERGY word))

multiplicity-holds : (absent : Result ℕ LineFault) (block : BlockLines) → IfOk absent IsMultiplicity → IfOk (multiplicity_or absent block) IsMultiplicity
multiplicity-holds absent block holds =
    word-holds IsMultiplicity absent (whole_in MULTIPLICITY) GraphMultiplicity block.items holds (whole-holds MULTIPLICITY)

-- what a cluster states
pub common_energy : (sites : Option ℕ) (cluster : BlockLines) → IfOk (common_values sites cluster).energy IsEnergy
common_energy sites cluster = energy-holds _ cluster tt

pub common_multiplicity : (sites : Option ℕ) (cluster : BlockLines) → IfOk (common_values sites cluster).multiplicity IsMultiplicity
common_multiplicity sites cluster = multiplicity-holds (Ok 1) cluster (omega arith, omega arith)

module _ (P : List NameWord → Type 0) (common : CommonValues) (sites : Option ℕ) (variant : BlockLines)
    (multiplicity : IfOk common.multiplicity IsMultiplicity) (energy : IfOk common.energy IsEnergy)
    (types : IfOk (types_or common.types sites variant) P) where
  -- what each variant has
  pub within-holds : IfOk (variant_within common sites variant) (λ v. P v.types × AreInRange v.energy v.multiplicity)
  within-holds =
      let numbers = both (multiplicity_or common.multiplicity variant) (energy_or common.energy variant) in
      let all = both (types_or common.types sites variant) numbers in
      value_map-holds (λ (v : VariantValues). P v.types × AreInRange v.energy v.multiplicity) _ all
      (IfOk-weaker all (λ found. P found.0 × (IsMultiplicity found.1.0 × IsEnergy found.1.1)) _
      (λ found holds. (holds.0, record { size = holds.1.1; share = holds.1.0 }))
      (both-holds P (λ found. IsMultiplicity found.0 × IsEnergy found.1) (types_or common.types sites variant) numbers types
      (both-holds IsMultiplicity IsEnergy (multiplicity_or common.multiplicity variant) (energy_or common.energy variant)
      (multiplicity-holds common.multiplicity variant multiplicity) (energy-holds common.energy variant energy))))

size : (negative : Bool) (n : ℕ) → unsigned_abs (signed negative n) ≡ n
size false n = refl
size true zero = refl
size true (suc n) = refl

least_product : (most multiplicity : ℕ) → 1 ≤ multiplicity → most ≤ most * multiplicity
least_product most multiplicity some = let a : most * 1 ≤ most * multiplicity = mul-le-mul_left most some in omega arith

quotient : (size most multiplicity : ℕ) → size ≤ most → 1 ≤ multiplicity → (2 * size + multiplicity) / (2 * multiplicity) < most + 1
quotient size most multiplicity few some =
    let product = least_product most multiplicity some in
    let expanded : (most + 1) * (2 * multiplicity) ≡ 2 * (most * multiplicity) + 2 * multiplicity = grind arith in
    let above : 0 < 2 * multiplicity = omega arith in
    (div-lt_iff_lt-mul above).1 (omega (arith, product, expanded))

-- a share is an energy
pub share-holds : (energy : ℤ) (multiplicity : ℕ) → AreInRange energy multiplicity → IsEnergy (share_of energy multiplicity)
share-holds energy multiplicity are =
    let top = unsigned_abs MAX_ENERGY in
    let below = quotient (unsigned_abs energy) top multiplicity are.size are.share.0 in
    let same = size (lt_z energy (pos 0)) ((2 * unsigned_abs energy + multiplicity) / (2 * multiplicity)) in
    subst (λ n. n ≤ top) (sym same) (omega (arith, below))
