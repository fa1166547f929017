-- the numbers of variants that are read are in their ranges
use Rattle.std.proofs.Common.{◌≡◌, ◌≤◌, ◌≤ℤ◌, arith, inl, neg_ℤ, negsuc, pos, refl, unsigned_abs, ℕ, ℤ}
use Rattle.std.proofs.Common.{Bool, true, false, not, IfOk, IfSome, IsSome, IsTrue, List, Option, None, Some, Result, Ok, Err, if◌then◌else◌}
use Rattle.std.proofs.lemmas.Int.{ints}
use Rattle.std.proofs.lemmas.Result.{IfOk-weaker}
use Rattle.dec_text.specs.Decimals.{Scientific}
use Rattle.deck_shape.proofs.BlockValues.{word-holds}
use Rattle.deck_shape.specs.BlockValues.{missing_word}
use Rattle.deck_shape.specs.Blocks.{BlockLines}
use Rattle.deck_values.proofs.Ranges.{amount-holds, scaled-holds}
use Rattle.deck_values.specs.Numbers.{any_decimal}
use Rattle.deck_values.specs.declared.number.TheConstants.{ENERGY}
use Rattle.deck_words.proofs.HeldValues.{both-holds, value_map-holds}
use Rattle.deck_words.specs.Faults.{both}
use Rattle.deck_words.specs.declared.keyword.Keyword.TheVariants.{ActivEng, PeRatio, PreExpon, ProxFactor}
use Rattle.deck_words.specs.declared.kind.TheConstants.{OUT_OF_RANGE}
use Rattle.kmc_base.specs.declared.limits.TheConstants.{MAX_ENERGY}
use Rattle.mechanism_deck.specs.Numbers.{activation, is_not_negative, is_positive, passing, pe_ratio, pre_expon, proximity}
use Rattle.mechanism_deck.specs.Steps.{VariantValues, absent_ratio, activation_or, common_values, is_reversible, pe_ratio_or, pre_expon_or}
use Rattle.mechanism_deck.specs.Steps.{proximity_or, variant_values}
use Rattle.mechanism_deck.specs.declared.ranges.TheConstants.{PROXIMITY}
use Rattle.pattern_rows.proofs.HeldParts.{AreTypes, types-hold}
use Rattle.pattern_rows.specs.Types.{types_or}

if_passing : (test : Scientific → Bool) (n : Scientific) (passed : Bool) → test n ≡ passed
    → IfOk (if passed then Ok n else Err OUT_OF_RANGE) (λ m. test m ≡ true)
if_passing test n true is = is
if_passing test n false is = tt

passing-holds : (test : Scientific → Bool) (r : Result Scientific ℕ) → IfOk (passing test r) (λ n. test n ≡ true)
passing-holds test (Err kind) = tt
passing-holds test (Ok n) = if_passing test n (test n) refl

-- a pre-exponential factor
abbrev pub IsFactor : Scientific → Type 0
IsFactor n = n.negative ≡ false

not_true : (b : Bool) → not b ≡ true → b ≡ false
not_true true is = absurd (cc)
not_true false is = refl

factor-holds : (word : List ℕ) → IfOk (pre_expon word) IsFactor
factor-holds word =
    IfOk-weaker (pre_expon word) (λ n. is_not_negative n ≡ true) IsFactor (λ n is. not_true n.negative is)
    (passing-holds is_not_negative (any_decimal word))

-- a ratio, which a reversible step has
abbrev pub IsRatio : Bool → Option Scientific → Type 0
IsRatio reversible ratio = IfSome ratio (λ n. is_positive n ≡ true) × (IsTrue reversible → IsSome ratio)

ratio-holds : (reversible : Bool) (word : List ℕ) → IfOk (pe_ratio word) (IsRatio reversible)
ratio-holds reversible word =
    value_map-holds (IsRatio reversible) (λ n. Some n) (passing is_positive (any_decimal word))
    (IfOk-weaker (passing is_positive (any_decimal word)) (λ n. is_positive n ≡ true) (λ n. IsRatio reversible (Some n))
    (λ n is. (is, λ needed. refl)) (passing-holds is_positive (any_decimal word)))

absent-holds : (reversible : Bool) (line : ℕ) → IfOk (if reversible then missing_word line else Ok None) (IsRatio reversible)
absent-holds true line = tt
absent-holds false line = (tt, λ needed. absurd (cc))

-- an activation energy, in neV
abbrev pub IsEnergy : ℤ → Type 0
IsEnergy energy = unsigned_abs energy ≤ unsigned_abs MAX_ENERGY

small : (e : ℤ) → (neg_ℤ MAX_ENERGY ≤ℤ e) × (e ≤ℤ MAX_ENERGY) → IsEnergy e
small (pos k) within = let most = within.1 in omega (arith, ints)
small (negsuc k) within = let least = within.0 in omega (arith, ints)

energy-holds : (word : List ℕ) → IfOk (activation word) IsEnergy
energy-holds word = IfOk-weaker (activation word) _ IsEnergy (λ e within. small e within) (scaled-holds ENERGY word)

-- a proximity factor, in units of 10^-9
abbrev pub IsNear : ℕ → Type 0
IsNear n = n ≤ unsigned_abs PROXIMITY.most

near : (n : ℕ) → pos n ≤ℤ PROXIMITY.most → IsNear n
near n most = omega (arith, ints)

near-holds : (word : List ℕ) → IfOk (proximity word) IsNear
near-holds word =
    IfOk-weaker (proximity word) _ IsNear (λ n within. near n within.1) (amount-holds PROXIMITY word (omega (arith, ints)))

-- a variant of a step of so many sites, reversible or not
abbrev pub IsVariant : ℕ → Bool → VariantValues → Type 0
IsVariant sites reversible v =
    AreTypes sites v.types × (IsFactor v.pre_expon × (IsRatio reversible v.pe_ratio × (IsEnergy v.activation × IsNear v.proximity)))

pub variant-holds : (named : Bool) (sites : ℕ) (step variant : BlockLines)
    → IfOk (variant_values named (Some sites) step variant) (IsVariant sites (is_reversible step.form))
variant-holds named sites step variant =
    let reversible = is_reversible step.form in
    let common = common_values (Some sites) step in
    let types = types_or common.types (Some sites) variant in
    let factor = pre_expon_or common.pre_expon variant in
    let ratio = pe_ratio_or common.pe_ratio variant in
    let energy = activation_or common.activation variant in
    let nearness = proximity_or common.proximity variant in
    let numbers = both factor (both ratio (both energy nearness)) in
    value_map-holds (IsVariant sites reversible) _ (both types numbers)
    (both-holds (AreTypes sites) (λ found. IsFactor found.0 × (IsRatio reversible found.1.0 × (IsEnergy found.1.1.0 × IsNear found.1.1.1)))
    types numbers (types-hold common.types sites variant (types-hold (Ok _) sites step (inl refl)))
    (both-holds IsFactor (λ found. IsRatio reversible found.0 × (IsEnergy found.1.0 × IsNear found.1.1)) factor (both ratio (both energy nearness))
    (word-holds IsFactor common.pre_expon pre_expon PreExpon variant.items
    (word-holds IsFactor (missing_word step.end_line) pre_expon PreExpon step.items tt factor-holds) factor-holds)
    (both-holds (IsRatio reversible) (λ found. IsEnergy found.0 × IsNear found.1) ratio (both energy nearness)
    (word-holds (IsRatio reversible) common.pe_ratio pe_ratio PeRatio variant.items
    (word-holds (IsRatio reversible) (absent_ratio step) pe_ratio PeRatio step.items (absent-holds reversible step.end_line)
    (ratio-holds reversible)) (ratio-holds reversible))
    (both-holds IsEnergy IsNear energy nearness
    (word-holds IsEnergy common.activation activation ActivEng variant.items
    (word-holds IsEnergy (missing_word step.end_line) activation ActivEng step.items tt energy-holds) energy-holds)
    (word-holds IsNear common.proximity proximity ProxFactor variant.items
    (word-holds IsNear _ proximity ProxFactor step.items (omega arith) near-holds) near-holds)))))
