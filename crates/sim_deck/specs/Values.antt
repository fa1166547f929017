-- The values of a simulation file: each is that of the one line that has its keyword, or the default where it has none.
use Rattle.std.specs.Prelude.{ℕ, ℤ, List, map, Option, None, Some, Result, Ok, if◌then◌else◌, codes, unwrap_or}
use Rattle.std.specs.Result.{result_err}
use Rattle.dec_text.specs.Decimals.{Scientific}
use Rattle.deck_shape.specs.BlockValues.{one, required, value_on, value_or}
use Rattle.deck_shape.specs.Blocks.{BlockLines}
use Rattle.deck_shape.specs.Names.{NameWord, name_at}
use Rattle.deck_values.specs.Numbers.{amount_in, up_to, whole_in}
use Rattle.deck_values.specs.declared.number.TheConstants.{ANY_WHOLE}
use Rattle.deck_words.specs.Faults.{both, value_map, with_fault}
use Rattle.deck_words.specs.Tables.{same_word}
use Rattle.deck_words.specs.declared.fault.LineFault.{LineFault}
use Rattle.deck_words.specs.declared.keyword.Keyword.{Keyword}
use Rattle.deck_words.specs.declared.keyword.Keyword.TheVariants.{MaxSteps, MaxTime, Pressure, ProcessStatistics, RandomSeed}
use Rattle.deck_words.specs.declared.keyword.Keyword.TheVariants.{Snapshots, SpeciesNumbers, Temperature, WallTime}
use Rattle.kmc_base.specs.declared.limits.TheConstants.{MAX_EVENTS}
use Rattle.sim_deck.specs.Samplings.{sampling_of}
use Rattle.sim_deck.specs.Species.{GasValues, SurfaceValues, gas_in, surface_in}
use Rattle.run_plan.specs.declared.plan.Plan.{Plan}
use Rattle.run_plan.specs.declared.plan.Sampling.{Sampling}
use Rattle.run_plan.specs.declared.plan.Sampling.TheVariants.{Off}
use Rattle.sim_deck.specs.declared.part.SimPart.{SimPart}
use Rattle.sim_deck.specs.declared.ranges.TheConstants.{EVENT_LIMIT, PRESSURE, TEMPERATURE, TIME_LIMIT}

-- the values, with the names as words on lines
pub record SimValues : Type 0 where
  pub plan : Plan
  pub temperature : ℕ
  pub pressure : Scientific
  pub gas : List NameWord
  pub gas_energies : List ℤ
  pub gas_fractions : List Scientific
  pub surface : List NameWord
  pub dentates : List ℕ

-- what a part of a deck says in its text
abbrev pub values_at : List ℕ → SimPart → SimValues
values_at text part = record {
  plan = part.plan;
  temperature = part.temperature;
  pressure = part.pressure;
  gas = map (name_at text) part.gas;
  gas_energies = part.gas_energies;
  gas_fractions = part.gas_fractions;
  surface = map (name_at text) part.surface;
  dentates = part.dentates;
}

-- the random seed
abbrev pub seed_in : BlockLines → Result ℕ LineFault
seed_in block = value_or (Ok 0) (one (whole_in ANY_WHOLE)) RandomSeed block.items

-- the temperature in mK, which is written in K
abbrev pub temperature_in : BlockLines → Result ℕ LineFault
temperature_in block = required Temperature block (value_on (amount_in TEMPERATURE))

-- the pressure in bar
abbrev pub pressure_in : BlockLines → Result Scientific LineFault
pressure_in block = required Pressure block (value_on (up_to PRESSURE.power))

-- a number, or the word `infinity`, which is None
abbrev pub or_infinity : {X : Type 0} → (List ℕ → Result X ℕ) → List ℕ → Result (Option X) ℕ
or_infinity read word = if same_word (codes "infinity") word then Ok None else value_map (λ number. Some number) (read word)

-- a limit; None where the file states none, or `infinity`
abbrev pub limit_in : {X : Type 0} → (List ℕ → Result X ℕ) → Keyword → BlockLines → Result (Option X) LineFault
limit_in read keyword block = value_or (Ok None) (one (or_infinity read)) keyword block.items

-- when an output is sampled; never, where nothing is said
abbrev pub sampling_in : Keyword → BlockLines → Result Sampling LineFault
sampling_in keyword block = value_or (Ok Off) sampling_of keyword block.items

-- the seed of a run, the greatest number of its events, and its greatest time in attoseconds, which is written in s
abbrev pub limits_in : BlockLines → Result ((ℕ × Option ℕ) × Option ℕ) LineFault
limits_in block = both (both (seed_in block) (limit_in (whole_in EVENT_LIMIT) MaxSteps block)) (limit_in (amount_in TIME_LIMIT) MaxTime block)

-- when the three outputs are sampled
abbrev pub samplings_in : BlockLines → Result ((Sampling × Sampling) × Sampling) LineFault
samplings_in block = both (both (sampling_in Snapshots block) (sampling_in ProcessStatistics block)) (sampling_in SpeciesNumbers block)

-- the plan of a run; infinitely many events are 2^40 - 1
abbrev pub plan_in : BlockLines → Result Plan LineFault
plan_in block =
    value_map
    (λ parts. record {
      seed = parts.0.0.0;
      max_steps = unwrap_or parts.0.0.1 MAX_EVENTS;
      max_time = parts.0.1;
      history = parts.1.0.0;
      procstat = parts.1.0.1;
      specnum = parts.1.1;
    })
    (both (limits_in block) (samplings_in block))

-- the plan of a run, and the temperature and the pressure
abbrev pub conditions_in : BlockLines → Result (Plan × (ℕ × Scientific)) LineFault
conditions_in block = both (plan_in block) (both (temperature_in block) (pressure_in block))

-- the values of a file of these conditions and species
abbrev pub part_with : Result (Plan × (ℕ × Scientific)) LineFault → Result GasValues LineFault → Result SurfaceValues LineFault
    → Result SimValues LineFault
part_with conditions gas surface =
    value_map
    (λ parts. record {
      plan = parts.0.0;
      temperature = parts.0.1.0;
      pressure = parts.0.1.1;
      gas = parts.1.0.names;
      gas_energies = parts.1.0.energies;
      gas_fractions = parts.1.0.fractions;
      surface = parts.1.1.names;
      dentates = parts.1.1.dentates;
    })
    (both conditions (both gas surface))

-- the values of the block of a simulation file, or its first fault; the wall time is used for nothing
abbrev pub part_of : BlockLines → Result SimValues LineFault
part_of block =
    with_fault (result_err (limit_in (whole_in ANY_WHOLE) WallTime block)) (part_with (conditions_in block) (gas_in block) (surface_in block))
