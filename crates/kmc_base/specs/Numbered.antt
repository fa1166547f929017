-- Calls of one kind, numbered from 1, of which some are to fail.
use Rattle.std.specs.Prelude.{ℕ, Bool, List, ◌==◌}
use Rattle.std.specs.List.{list_any}
use Rattle.kmc_base.specs.Faults.{one_more}

-- the numbers of the calls that fail, and how many calls were made
pub record Numbered : Type 0 where
  pub failing : List ℕ
  pub made : ℕ

-- no call was made yet; those of these numbers will fail
abbrev pub first_of : List ℕ → Numbered
first_of failing = record { failing = failing; made = 0 }

-- the next call is one that fails
abbrev pub next_fails : Numbered → Bool
next_fails calls = list_any (λ number. number == one_more calls.made) calls.failing

-- the calls once the next is made
abbrev pub one_call_more : Numbered → Numbered
one_call_more calls = record calls { made = one_more calls.made }
