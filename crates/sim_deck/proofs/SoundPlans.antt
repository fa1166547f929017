-- the plan of a run that is read, and its conditions, are in their ranges
use Rattle.std.proofs.Common.{◌≡◌, ◌≤◌, ◌<◌, ◌^◌, arith, ℕ, true, Bool, false, List, [], ◌∷◌, IfOk, IfSome, Option, None, Some, Result, Ok}
use Rattle.std.proofs.Common.{codes, unwrap_or, if◌then◌else◌}
use Rattle.std.proofs.lemmas.Int.{ints}
use Rattle.std.proofs.lemmas.Result.{IfOk-weaker}
use Rattle.dec_text.specs.Decimals.{Scientific}
use Rattle.deck_shape.proofs.BlockValues.{value_or-holds, word-holds}
use Rattle.deck_shape.specs.BlockValues.{missing_word}
use Rattle.deck_shape.specs.Blocks.{BlockLines}
use Rattle.deck_values.proofs.Ranges.{amount-holds, up_to-holds, whole-holds}
use Rattle.deck_words.proofs.HeldValues.{both-holds, value_map-holds}
use Rattle.deck_values.specs.Numbers.{amount_in, is_up_to, up_to, whole_in}
use Rattle.deck_values.specs.declared.number.TheConstants.{ANY_WHOLE}
use Rattle.deck_words.specs.Faults.{both}
use Rattle.deck_words.specs.Tables.{same_word}
use Rattle.deck_words.specs.declared.keyword.Keyword.{Keyword}
use Rattle.deck_words.specs.declared.keyword.Keyword.TheVariants.{MaxSteps, MaxTime, Pressure, ProcessStatistics, RandomSeed}
use Rattle.deck_words.specs.declared.keyword.Keyword.TheVariants.{Snapshots, SpeciesNumbers, Temperature}
use Rattle.kmc_base.specs.declared.limits.TheConstants.{END_OF_TIME, MAX_EVENTS, MAX_TEMPERATURE}
use Rattle.sim_deck.specs.Samplings.{is_on, sampling_of}
use Rattle.run_plan.specs.Soundness.{IsPeriod, IsSoundPlan}
use Rattle.sim_deck.specs.Values.{conditions_in, limit_in, limits_in, or_infinity, plan_in, pressure_in, sampling_in, samplings_in}
use Rattle.sim_deck.specs.Values.{seed_in, temperature_in}
use Rattle.run_plan.specs.declared.plan.Plan.{Plan}
use Rattle.run_plan.specs.declared.plan.Sampling.TheVariants.{Off, Event, Time}
use Rattle.sim_deck.specs.declared.ranges.TheConstants.{EVENT_LIMIT, EVENT_PERIOD, PRESSURE, TEMPERATURE, TIME_LIMIT, TIME_PERIOD}

if-holds : {X : Type 0} (P : X → Type 0) (b : Bool) (r s : Result X ℕ) → IfOk r P → IfOk s P → IfOk (if b then r else s) P
if-holds P true r s p q = p
if-holds P false r s p q = q

-- a limit, if there is one, is as each number that may be read
limit-holds : (P : ℕ → Type 0) (read : List ℕ → Result ℕ ℕ) (keyword : Keyword) (block : BlockLines)
    → ((word : List ℕ) → IfOk (read word) P) → IfOk (limit_in read keyword block) (λ limit. IfSome limit P)
limit-holds P read keyword block p =
    word-holds (λ limit. IfSome limit P) (Ok None) (or_infinity read) keyword block.items tt
    (λ word. if-holds (λ limit. IfSome limit P) (same_word (codes "infinity") word) (Ok None) _ tt
    (value_map-holds (λ limit. IfSome limit P) (λ number. Some number) (read word) (p word)))

period-holds : (word : List ℕ) → IfOk (amount_in TIME_PERIOD word) (λ d. (1 ≤ d) × (d ≤ END_OF_TIME))
period-holds word =
    IfOk-weaker (amount_in TIME_PERIOD word) _ _
    (λ d within. let a = within.0 in let b = within.1 in (omega (arith, ints), omega (arith, ints)))
    (amount-holds TIME_PERIOD word (omega (arith, ints)))

sampling-holds : (words : List (List ℕ)) → IfOk (sampling_of words) IsPeriod
sampling-holds [] = tt
sampling-holds (a ∷ []) = if-holds IsPeriod (same_word (codes "off") a) (Ok Off) _ tt tt
sampling-holds (a ∷ b ∷ []) = if-holds IsPeriod (is_on (codes "event") a b) (Ok (Event 1)) _ (omega arith, omega arith) tt
sampling-holds (a ∷ b ∷ c ∷ []) =
    if-holds IsPeriod (is_on (codes "event") a b) _ _
    (value_map-holds IsPeriod (λ n. Event n) (whole_in EVENT_PERIOD c) (whole-holds EVENT_PERIOD c))
    (if-holds IsPeriod (is_on (codes "time") a b) _ _ (value_map-holds IsPeriod (λ d. Time d) (amount_in TIME_PERIOD c) (period-holds c)) tt)
sampling-holds (a ∷ b ∷ c ∷ d ∷ words) = tt

sampling_in-holds : (keyword : Keyword) (block : BlockLines) → IfOk (sampling_in keyword block) IsPeriod
sampling_in-holds keyword block = value_or-holds IsPeriod (Ok Off) sampling_of keyword block.items tt sampling-holds

seed-holds : (block : BlockLines) → IfOk (seed_in block) (λ n. n < 2 ^ 64)
seed-holds block =
    word-holds (λ n. n < 2 ^ 64) (Ok 0) (whole_in ANY_WHOLE) RandomSeed block.items (omega arith)
    (λ word. IfOk-weaker (whole_in ANY_WHOLE word) _ _ (λ n within. let most = within.1 in omega arith) (whole-holds ANY_WHOLE word))

abbrev IsEventLimit : ℕ → Type 0
IsEventLimit n = n ≤ MAX_EVENTS

event_limit-holds : (word : List ℕ) → IfOk (whole_in EVENT_LIMIT word) IsEventLimit
event_limit-holds word = IfOk-weaker (whole_in EVENT_LIMIT word) _ IsEventLimit (λ n within. within.1) (whole-holds EVENT_LIMIT word)

abbrev IsTimeLimit : ℕ → Type 0
IsTimeLimit t = t ≤ END_OF_TIME

time_limit-holds : (word : List ℕ) → IfOk (amount_in TIME_LIMIT word) IsTimeLimit
time_limit-holds word =
    IfOk-weaker (amount_in TIME_LIMIT word) _ IsTimeLimit (λ t within. let most = within.1 in omega (arith, ints))
    (amount-holds TIME_LIMIT word (omega (arith, ints)))

events-hold : (limit : Option ℕ) → IfSome limit IsEventLimit → unwrap_or limit MAX_EVENTS ≤ MAX_EVENTS
events-hold None holds = omega arith
events-hold (Some n) holds = holds

plan-holds : (block : BlockLines) → IfOk (plan_in block) IsSoundPlan
plan-holds block =
    let limits = both-holds (λ found. (found.0 < 2 ^ 64) × IfSome found.1 IsEventLimit) (λ limit. IfSome limit IsTimeLimit) _ _
    (both-holds (λ n. n < 2 ^ 64) (λ limit. IfSome limit IsEventLimit) (seed_in block) (limit_in (whole_in EVENT_LIMIT) MaxSteps block)
    (seed-holds block) (limit-holds IsEventLimit (whole_in EVENT_LIMIT) MaxSteps block event_limit-holds))
    (limit-holds IsTimeLimit (amount_in TIME_LIMIT) MaxTime block time_limit-holds) in
    let samplings = both-holds (λ found. IsPeriod found.0 × IsPeriod found.1) IsPeriod _ _
    (both-holds IsPeriod IsPeriod (sampling_in Snapshots block) (sampling_in ProcessStatistics block)
    (sampling_in-holds Snapshots block) (sampling_in-holds ProcessStatistics block))
    (sampling_in-holds SpeciesNumbers block) in
    value_map-holds IsSoundPlan _ (both (limits_in block) (samplings_in block))
    (IfOk-weaker (both (limits_in block) (samplings_in block)) _ _
    (λ parts all. record {
      seed = all.0.0.0;
      max_steps = events-hold parts.0.0.1 all.0.0.1;
      max_time = all.0.1;
      history = all.1.0.0;
      procstat = all.1.0.1;
      specnum = all.1.1;
    })
    (both-holds _ _ (limits_in block) (samplings_in block) limits samplings))

-- a temperature and a pressure in their ranges
abbrev pub AreConditions : Plan × (ℕ × Scientific) → Type 0
AreConditions found =
    IsSoundPlan found.0 × ((1 ≤ found.1.0) × (found.1.0 ≤ MAX_TEMPERATURE)) × (is_up_to 9 found.1.1 ≡ true)

temperature-holds : (block : BlockLines) → IfOk (temperature_in block) (λ t. (1 ≤ t) × (t ≤ MAX_TEMPERATURE))
temperature-holds block =
    word-holds (λ t. (1 ≤ t) × (t ≤ MAX_TEMPERATURE)) (missing_word block.end_line) (amount_in TEMPERATURE) Temperature block.items tt
    (λ word. IfOk-weaker (amount_in TEMPERATURE word) _ _
    (λ t within. let a = within.0 in let b = within.1 in (omega (arith, ints), omega (arith, ints)))
    (amount-holds TEMPERATURE word (omega (arith, ints))))

pressure-holds : (block : BlockLines) → IfOk (pressure_in block) (λ n. is_up_to 9 n ≡ true)
pressure-holds block =
    word-holds (λ n. is_up_to 9 n ≡ true) (missing_word block.end_line) (up_to PRESSURE.power) Pressure block.items tt (up_to-holds PRESSURE.power)

pub conditions-hold : (block : BlockLines) → IfOk (conditions_in block) AreConditions
conditions-hold block =
    IfOk-weaker (conditions_in block) _ AreConditions (λ found all. (all.0, all.1.0, all.1.1))
    (both-holds IsSoundPlan (λ found. ((1 ≤ found.0) × (found.0 ≤ MAX_TEMPERATURE)) × (is_up_to 9 found.1 ≡ true)) (plan_in block) _ (plan-holds block)
    (both-holds (λ t. (1 ≤ t) × (t ≤ MAX_TEMPERATURE)) (λ n. is_up_to 9 n ≡ true) (temperature_in block) (pressure_in block)
    (temperature-holds block) (pressure-holds block)))
