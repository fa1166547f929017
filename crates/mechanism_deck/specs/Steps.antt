-- The elementary steps of a mechanism file (Zacros manual): a block `step` or `reversible_step`, or each of its variants.
use Rattle.std.specs.Prelude.{ℕ, ℤ, Bool, true, false, List, [], length, map, nat_lt, Option, None, Some, Result, Ok, if◌then◌else◌}
use Rattle.std.specs.Result.{result_ok}
use Rattle.dec_text.specs.Decimals.{Scientific}
use Rattle.deck_shape.specs.BlockValues.{fault_in, missing_word, one, value_on, value_or}
use Rattle.deck_shape.specs.Blocks.{BlockLines, SectionLines}
use Rattle.deck_shape.specs.Names.{NameWord, on_line}
use Rattle.deck_words.specs.Faults.{all_of, both, earliest, fault_of, value_map, with_fault}
use Rattle.deck_words.specs.declared.fault.LineFault.{LineFault}
use Rattle.deck_words.specs.declared.keyword.Keyword.{Keyword}
use Rattle.deck_words.specs.declared.keyword.Keyword.TheVariants.{ActivEng, Final, Initial, PeRatio, PreExpon, ProxFactor}
use Rattle.deck_words.specs.declared.table.BlockForm.{BlockForm}
use Rattle.deck_words.specs.declared.table.BlockForm.TheVariants.{ReversibleStep}
use Rattle.mechanism_deck.specs.Changes.{GasWords, gas_in}
use Rattle.mechanism_deck.specs.Numbers.{activation, pe_ratio, pre_expon, proximity}
use Rattle.mechanism_deck.specs.declared.ranges.TheConstants.{DEFAULT_PROXIMITY}
use Rattle.pattern_rows.specs.Edges.{edges_in}
use Rattle.pattern_rows.specs.Listings.{made_of}
use Rattle.pattern_rows.specs.Sites.{sites_in}
use Rattle.pattern_rows.specs.States.{StateWords, states_in}
use Rattle.pattern_rows.specs.Types.{types_or}
use Rattle.pattern_rows.specs.Variants.{variants_of}
use Rattle.pattern_rows.specs.WordLine.{word_line}

-- blocks of a form are steps in both directions
abbrev pub is_reversible : BlockForm → Bool
is_reversible ReversibleStep = true
is_reversible _ = false

-- What all variants of a step have in common: its name, whether it is reversible, the changes of gas species, the number of its
-- sites, their edges, what each site holds before and after the step, and the lines of the words that say so.
pub record BodyValues : Type 0 where
  pub name : NameWord
  pub reversible : Bool
  pub gas : List GasWords
  pub sites : ℕ
  pub edges : List (ℕ × ℕ)
  pub before : List StateWords
  pub after : List StateWords
  pub initial_line : ℕ
  pub final_line : ℕ

-- the body of a block that has these values
abbrev pub body_of : BlockLines → Result (List GasWords) LineFault → Result ℕ LineFault → Result (List (ℕ × ℕ)) LineFault
    → Result (List StateWords) LineFault → Result (List StateWords) LineFault → Result BodyValues LineFault
body_of block gas sites edges before after =
    value_map (λ found. record {
      name = on_line block.line block.name;
      reversible = is_reversible block.form;
      gas = found.0;
      sites = found.1.0;
      edges = found.1.1.0;
      before = found.1.1.1.0;
      after = found.1.1.1.1;
      initial_line = word_line Initial block;
      final_line = word_line Final block;
    }) (both gas (both sites (both edges (both before after))))

-- the body of a step
abbrev pub body_in : BlockLines → Result BodyValues LineFault
body_in block =
    let sites = sites_in block in
    body_of block (gas_in block) sites (edges_in (result_ok sites) block) (states_in false (result_ok sites) Initial block)
    (states_in false (result_ok sites) Final block)

-- What each variant has of its own: its name, where it is not the step itself, the type words of its sites, and its numbers. The
-- activation energy is in neV, the proximity factor in units of 10^-9.
pub record VariantValues : Type 0 where
  pub name : Option NameWord
  pub types : List NameWord
  pub pre_expon : Scientific
  pub pe_ratio : Option Scientific
  pub activation : ℤ
  pub proximity : ℕ

-- each number of a block, or another one where it states none
abbrev pub pre_expon_or : Result Scientific LineFault → BlockLines → Result Scientific LineFault
pre_expon_or absent block = value_or absent (one pre_expon) PreExpon block.items

abbrev pub pe_ratio_or : Result (Option Scientific) LineFault → BlockLines → Result (Option Scientific) LineFault
pe_ratio_or absent block = value_or absent (one pe_ratio) PeRatio block.items

abbrev pub activation_or : Result ℤ LineFault → BlockLines → Result ℤ LineFault
activation_or absent block = value_or absent (one activation) ActivEng block.items

abbrev pub proximity_or : Result ℕ LineFault → BlockLines → Result ℕ LineFault
proximity_or absent block = value_or absent (one proximity) ProxFactor block.items

-- the ratio of a step that states none: a reversible step must have one
abbrev pub absent_ratio : BlockLines → Result (Option Scientific) LineFault
absent_ratio step = if is_reversible step.form then missing_word step.end_line else Ok None

-- What a step states for its variants, each by its word wherever that stands, or else the default. The pre-exponential factor
-- and the activation energy have none.
pub record CommonValues : Type 0 where
  pub types : Result (List NameWord) LineFault
  pub pre_expon : Result Scientific LineFault
  pub pe_ratio : Result (Option Scientific) LineFault
  pub activation : Result ℤ LineFault
  pub proximity : Result ℕ LineFault

abbrev pub common_values : Option ℕ → BlockLines → CommonValues
common_values sites step = record {
  types = types_or (Ok []) sites step;
  pre_expon = pre_expon_or (missing_word step.end_line) step;
  pe_ratio = pe_ratio_or (absent_ratio step) step;
  activation = activation_or (missing_word step.end_line) step;
  proximity = proximity_or (Ok DEFAULT_PROXIMITY) step;
}

-- the name of a variant, where there is one
abbrev pub variant_name : Bool → BlockLines → Option NameWord
variant_name named variant = if named then Some (on_line variant.line variant.name) else None

-- the variant that has these values
abbrev pub variant_of : Option NameWord → Result (List NameWord) LineFault → Result Scientific LineFault → Result (Option Scientific) LineFault
    → Result ℤ LineFault → Result ℕ LineFault → Result VariantValues LineFault
variant_of name types factor ratio energy nearness =
    value_map (λ found. record {
      name = name;
      types = found.0;
      pre_expon = found.1.0;
      pe_ratio = found.1.1.0;
      activation = found.1.1.1.0;
      proximity = found.1.1.1.1;
    }) (both types (both factor (both ratio (both energy nearness))))

-- the values of a variant: each is that of its own word, or else that which the step states
abbrev pub variant_within : CommonValues → Bool → Option ℕ → BlockLines → Result VariantValues LineFault
variant_within common named sites variant =
    variant_of (variant_name named variant) (types_or common.types sites variant) (pre_expon_or common.pre_expon variant)
    (pe_ratio_or common.pe_ratio variant) (activation_or common.activation variant) (proximity_or common.proximity variant)

-- the values of a variant, by the step around it
abbrev pub variant_values : Bool → Option ℕ → BlockLines → BlockLines → Result VariantValues LineFault
variant_values named sites step variant = variant_within (common_values sites step) named sites variant

-- the fault of a number of a block itself
abbrev pub number_fault : {X : Type 0} → (List ℕ → Result X ℕ) → Keyword → BlockLines → Option LineFault
number_fault read keyword block = fault_in keyword block (λ item. fault_of (value_on read item))

-- the earliest fault of the step's own words of these kinds, also of those that no variant needs
abbrev pub own_fault : Option ℕ → BlockLines → Option LineFault
own_fault sites step =
    earliest (fault_of (types_or (Ok []) sites step))
    (earliest (earliest (number_fault pre_expon PreExpon step) (number_fault pe_ratio PeRatio step))
    (earliest (number_fault activation ActivEng step) (number_fault proximity ProxFactor step)))

-- a step: what all variants have in common, and what it has of its own
pub record StepValues : Type 0 where
  pub body : BodyValues
  pub variant : VariantValues

-- the step of a variant
abbrev pub step_with : BodyValues → VariantValues → StepValues
step_with body variant = record { body = body; variant = variant }

-- the block has variants
abbrev pub has_variants : SectionLines → Bool
has_variants section = nat_lt 0 (length section.variants)

-- the steps of a block and its variants, or the earliest of their faults
abbrev pub steps_of : SectionLines → Result (List StepValues) LineFault
steps_of section =
    let sites = result_ok (sites_in section.block) in
    with_fault (own_fault sites section.block)
    (made_of step_with (body_in section.block)
    (all_of (map (variant_values (has_variants section) sites section.block) (variants_of section))))
