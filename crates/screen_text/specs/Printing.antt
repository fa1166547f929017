-- What printing leaves on a screen.
use Rattle.std.specs.Prelude.{◌≡◌, ℕ, List, ◌++◌, Option, Result, Ok, Err, take}
use Rattle.kmc_base.specs.Faults.{Rose}
use Rattle.kmc_base.specs.Told.{Tells}

-- all that a screen reports: how often it has failed, and what it has taken, if it tells that
pub record ScreenState : Type 0 where
  pub faults : ℕ
  pub taken : Option (List ℕ)

-- the same of a screen, by what its kind reports
abbrev pub screen_by : {S : Type 0} → (S → ℕ) → (S → Option (List ℕ)) → S → ScreenState
screen_by faults taken screen = record { faults = faults screen; taken = taken screen }

-- the screen took all of a text and did not fail
pub record TookAll (text : List ℕ) (before after : ScreenState) : Type 0 where
  pub no_fault : after.faults ≡ before.faults
  pub taken : Tells before.taken after.taken (λ then now. now ≡ then ++ text)

-- the screen failed, and took a front of a text
pub record TookFront (text : List ℕ) (before after : ScreenState) : Type 0 where
  pub fault : Rose before.faults after.faults
  pub taken : Tells before.taken after.taken (λ then now. (n : ℕ) × (now ≡ then ++ take n text))

-- what a call leaves that prints a text
abbrev pub Printed : {X Y : Type 0} → List ℕ → Result X Y → ScreenState → ScreenState → Type 0
Printed text (Ok x) before after = TookAll text before after
Printed text (Err e) before after = TookFront text before after
