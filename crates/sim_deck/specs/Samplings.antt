-- When an output is sampled: `off`, `on event`, `on event N` or `on time D`.
use Rattle.std.specs.Prelude.{ℕ, ◌&&◌, Bool, List, [], ◌∷◌, Result, Ok, Err, if◌then◌else◌, codes}
use Rattle.deck_values.specs.Numbers.{amount_in, whole_in}
use Rattle.deck_words.specs.Faults.{value_map}
use Rattle.deck_words.specs.Tables.{same_word}
use Rattle.deck_words.specs.declared.kind.TheConstants.{BAD_CHOICE}
use Rattle.run_plan.specs.declared.plan.Sampling.{Sampling}
use Rattle.run_plan.specs.declared.plan.Sampling.TheVariants.{Off, Event, Time}
use Rattle.sim_deck.specs.declared.ranges.TheConstants.{EVENT_PERIOD, TIME_PERIOD}

-- two words are `on` and this one
abbrev pub is_on : List ℕ → List ℕ → List ℕ → Bool
is_on what first second = same_word (codes "on") first && same_word what second

-- the sampling that some words state: N is a number of events, and D is in s, kept in attoseconds
abbrev pub sampling_of : List (List ℕ) → Result Sampling ℕ
sampling_of [] = Err BAD_CHOICE
sampling_of (a ∷ []) = if same_word (codes "off") a then Ok Off else Err BAD_CHOICE
sampling_of (a ∷ b ∷ []) = if is_on (codes "event") a b then Ok (Event 1) else Err BAD_CHOICE
sampling_of (a ∷ b ∷ c ∷ []) =
    if is_on (codes "event") a b
    then value_map (λ n. Event n) (whole_in EVENT_PERIOD c)
    else (if is_on (codes "time") a b then value_map (λ d. Time d) (amount_in TIME_PERIOD c) else Err BAD_CHOICE)
sampling_of (a ∷ b ∷ c ∷ d ∷ words) = Err BAD_CHOICE
