-- the values of a file that is read are sound
use Rattle.std.proofs.Common.{◌≡◌, ◌∙◌, ◌≤◌, arith, length, map, subst, sym, true, ℕ, ℤ}
use Rattle.std.proofs.Common.{pos, negsuc, unsigned_abs, ◌≤ℤ◌, neg_ℤ, List, IfOk, Some, Result, Ok, refl}
use Rattle.std.specs.Result.{result_err}
use Rattle.std.proofs.lemmas.List.{length-map}
use Rattle.std.proofs.lemmas.List.Elements.{All-from_recursion}
use Rattle.std.proofs.lemmas.Int.{ints}
use Rattle.std.proofs.lemmas.Result.{IfOk-weaker}
use Rattle.std.proofs.lemmas.Simd.{map-map}
use Rattle.dec_text.specs.Decimals.{Scientific}
use Rattle.deck_shape.specs.Blocks.{BlockLines, ItemLines}
use Rattle.deck_shape.specs.LineWords.{arguments_of}
use Rattle.deck_shape.specs.Names.{NameWord, on_line}
use Rattle.deck_shape.specs.WordLines.{words_of}
use Rattle.deck_values.proofs.Ranges.{scaled-holds, up_to-holds, whole-holds}
use Rattle.deck_values.proofs.Values.{AreSo, AreSpecies, absent_list-holds, list_on-holds, species_on-holds, stated-holds}
use Rattle.deck_words.proofs.HeldValues.{both-holds, value_map-holds, with_fault-holds}
use Rattle.deck_values.specs.Lists.{absent_list, list_on}
use Rattle.deck_values.specs.Names.{species_on}
use Rattle.deck_values.specs.Numbers.{is_up_to, scaled_in, up_to, whole_in}
use Rattle.deck_values.specs.declared.number.TheConstants.{ANY_WHOLE, ENERGY}
use Rattle.deck_words.specs.Faults.{both, with_fault}
use Rattle.deck_words.specs.declared.keyword.Keyword.{Keyword}
use Rattle.deck_words.specs.declared.keyword.Keyword.TheVariants.{GasEnergies, GasMolarFracs, GasSpecsNames, NGasSpecies}
use Rattle.deck_words.specs.declared.keyword.Keyword.TheVariants.{NSurfSpecies, SurfSpecsDent, SurfSpecsNames, WallTime}
use Rattle.kmc_base.specs.declared.limits.TheConstants.{MAX_DENTATES, MAX_ENERGY, MAX_SPECIES}
use Rattle.deck_shape.proofs.BlockValues.{line_value_or-holds, word-holds}
use Rattle.sim_deck.proofs.SoundPlans.{AreConditions, conditions-hold}
use Rattle.sim_deck.specs.Soundness.{AreNames, IsSoundPart}
use Rattle.sim_deck.specs.Species.{GasValues, SurfaceValues, count_in, gas_in, gas_lists, names_in, names_on, numbers_in, surface_in}
use Rattle.sim_deck.specs.Species.{surface_lists, weights_in}
use Rattle.sim_deck.specs.Values.{conditions_in, limit_in, part_of}
use Rattle.sim_deck.specs.declared.ranges.TheConstants.{DENTATES, FRACTION, SPECIES_COUNT}

abbrev bytes_in : List NameWord → List (List ℕ)
bytes_in names = map (λ name. name.word.bytes) names

count-holds : (keyword : Keyword) (block : BlockLines) → IfOk (count_in keyword block) (λ n. n ≤ MAX_SPECIES)
count-holds keyword block =
    word-holds (λ n. n ≤ MAX_SPECIES) (Ok 0) (whole_in SPECIES_COUNT) keyword block.items (omega arith)
    (λ word. IfOk-weaker (whole_in SPECIES_COUNT word) _ _ (λ n within. within.1) (whole-holds SPECIES_COUNT word))

names_on-hold : (count : ℕ) (item : ItemLines) → IfOk (names_on (Some count) item) (λ names. AreSpecies count (bytes_in names))
names_on-hold count item =
    let line = item.line.number in
    let words = species_on (Some count) line (arguments_of item.line) in
    value_map-holds (λ names. AreSpecies count (bytes_in names)) (map (on_line line)) words
    (IfOk-weaker words _ _ (λ runs are. subst (AreSpecies count) (sym (map-map (λ name. name.word.bytes) (on_line line) runs)) are)
    (species_on-holds count line (arguments_of item.line)))

names-hold : (count : ℕ) (keyword : Keyword) (block : BlockLines)
    → IfOk (names_in (Some count) keyword block) (λ names. AreSpecies count (bytes_in names))
names-hold count keyword block =
    let Are = λ (names : List NameWord). AreSpecies count (bytes_in names) in
    line_value_or-holds Are (absent_list (Some count) block.end_line) (names_on (Some count)) keyword block.items
    (absent_list-holds Are count block.end_line (λ none. record { length_is = none; differ = refl; no_sign = refl }))
    (names_on-hold count)

numbers-hold : {X : Type 0} (P : X → Type 0) (read : List ℕ → Result X ℕ) (count : ℕ) (keyword : Keyword) (block : BlockLines)
    → ((word : List ℕ) → IfOk (read word) P) → IfOk (numbers_in read (Some count) keyword block) (AreSo P count)
numbers-hold P read count keyword block p =
    line_value_or-holds (AreSo P count) (absent_list (Some count) block.end_line)
    (λ item. list_on read (Some count) item.line.number (words_of item)) keyword block.items
    (absent_list-holds (AreSo P count) count block.end_line (λ none. (none, tt)))
    (λ item. list_on-holds P read count item.line.number (words_of item) p)

abbrev IsEnergy : ℤ → Type 0
IsEnergy e = unsigned_abs e ≤ unsigned_abs MAX_ENERGY

small : (e : ℤ) → (neg_ℤ MAX_ENERGY ≤ℤ e) × (e ≤ℤ MAX_ENERGY) → IsEnergy e
small (pos k) within = let most = within.1 in omega (arith, ints)
small (negsuc k) within = let least = within.0 in omega (arith, ints)

abbrev IsFraction : Scientific → Type 0
IsFraction n = is_up_to 0 n ≡ true

abbrev AreDentates : ℕ → Type 0
AreDentates d = (1 ≤ d) × (d ≤ MAX_DENTATES)

-- so many gas species, at most 64
record AreGas (gas : GasValues) : Type 0 where
  count : ℕ
  few : count ≤ MAX_SPECIES
  names : AreSpecies count (bytes_in gas.names)
  energies : AreSo IsEnergy count gas.energies
  fractions : AreSo IsFraction count gas.fractions

gas_lists-hold : (block : BlockLines) (count : ℕ) → count ≤ MAX_SPECIES → IfOk (gas_lists (Some count) block) AreGas
gas_lists-hold block count few =
    let Are = λ (names : List NameWord). AreSpecies count (bytes_in names) in
    let lists = both-holds (λ found. Are found.0 × AreSo IsEnergy count found.1) (AreSo IsFraction count) _ _
    (both-holds Are (AreSo IsEnergy count) _ _ (names-hold count GasSpecsNames block)
    (numbers-hold IsEnergy (scaled_in ENERGY) count GasEnergies block
    (λ word. IfOk-weaker (scaled_in ENERGY word) _ IsEnergy (λ e within. small e within) (scaled-holds ENERGY word))))
    (numbers-hold IsFraction (up_to FRACTION.power) count GasMolarFracs block (up_to-holds FRACTION.power)) in
    value_map-holds AreGas _ _
    (IfOk-weaker _ _
    (λ (found : (List NameWord × List ℤ) × List Scientific). AreGas (record { names = found.0.0; energies = found.0.1; fractions = found.1 }))
    (λ found all. record { count = count; few = few; names = all.0.0; energies = all.0.1; fractions = all.1 }) lists)

gas-holds : (block : BlockLines) → IfOk (gas_in block) AreGas
gas-holds block =
    stated-holds (λ n. n ≤ MAX_SPECIES) AreGas (count_in NGasSpecies block)
    (λ count. with_fault (result_err (weights_in count block)) (gas_lists count block))
    (count-holds NGasSpecies block)
    (λ count few. with_fault-holds AreGas (result_err (weights_in (Some count) block)) _ (gas_lists-hold block count few))

-- so many surface species, at most 64
record AreSurface (surface : SurfaceValues) : Type 0 where
  count : ℕ
  few : count ≤ MAX_SPECIES
  names : AreSpecies count (bytes_in surface.names)
  dentates : AreSo AreDentates count surface.dentates

surface_lists-hold : (block : BlockLines) (count : ℕ) → count ≤ MAX_SPECIES → IfOk (surface_lists (Some count) block) AreSurface
surface_lists-hold block count few =
    let lists = both-holds (λ names. AreSpecies count (bytes_in names)) (AreSo AreDentates count) _ _ (names-hold count SurfSpecsNames block)
    (numbers-hold AreDentates (whole_in DENTATES) count SurfSpecsDent block (whole-holds DENTATES)) in
    value_map-holds AreSurface _ _
    (IfOk-weaker _ _ (λ (found : List NameWord × List ℕ). AreSurface (record { names = found.0; dentates = found.1 }))
    (λ found all. record { count = count; few = few; names = all.0; dentates = all.1 }) lists)

surface-holds : (block : BlockLines) → IfOk (surface_in block) AreSurface
surface-holds block =
    stated-holds (λ n. n ≤ MAX_SPECIES) AreSurface (count_in NSurfSpecies block) (λ count. surface_lists count block)
    (count-holds NSurfSpecies block) (surface_lists-hold block)

are_names : (count : ℕ) (names : List (List ℕ)) → count ≤ MAX_SPECIES → AreSpecies count names → AreNames names
are_names count names few are = record { differ = are.differ; no_sign = are.no_sign; few = omega (arith, are.length_is) }

one_each : {Y : Type 0} (count : ℕ) (members : List Y) (names : List NameWord) → length members ≡ count → AreSpecies count (bytes_in names)
    → length members ≡ length names
one_each count members names so are = so ∙ sym are.length_is ∙ length-map names (λ name. name.word.bytes)

-- the values of a block without a fault
pub sound_part : (block : BlockLines) → IfOk (part_of block) IsSoundPart
sound_part block =
    let parts = both (conditions_in block) (both (gas_in block) (surface_in block)) in
    let all = both-holds AreConditions (λ found. AreGas found.0 × AreSurface found.1) (conditions_in block) _ (conditions-hold block)
    (both-holds AreGas AreSurface (gas_in block) (surface_in block) (gas-holds block) (surface-holds block)) in
    with_fault-holds IsSoundPart (result_err (limit_in (whole_in ANY_WHOLE) WallTime block)) _
    (value_map-holds IsSoundPart _ parts
    (IfOk-weaker parts _ _
    (λ found are.
    let gas = are.1.0 in
    let surface = are.1.1 in
    record {
      plan = are.0.0;
      some_temperature = are.0.1.0;
      temperature = are.0.1.1;
      pressure = are.0.2;
      gas = are_names gas.count _ gas.few gas.names;
      one_energy_each = one_each gas.count _ _ gas.energies.0 gas.names;
      energies = All-from_recursion IsEnergy _ gas.energies.1;
      one_fraction_each = one_each gas.count _ _ gas.fractions.0 gas.names;
      fractions = All-from_recursion IsFraction _ gas.fractions.1;
      surface = are_names surface.count _ surface.few surface.names;
      one_number_each = one_each surface.count _ _ surface.dentates.0 surface.names;
      dentates = All-from_recursion AreDentates _ surface.dentates.1;
    })
    all))
