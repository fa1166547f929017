-- What the values of every simulation file without faults keep.
use Rattle.std.specs.Prelude.{◌≡◌, ℕ, ◌≤◌, true, false, List, map, length, unsigned_abs}
use Rattle.std.specs.List.{All, list_any}
use Rattle.deck_values.specs.Names.{is_bad_name, names_repeat}
use Rattle.deck_values.specs.Numbers.{is_up_to}
use Rattle.kmc_base.specs.declared.limits.TheConstants.{MAX_DENTATES, MAX_ENERGY, MAX_SPECIES, MAX_TEMPERATURE}
use Rattle.run_plan.specs.Soundness.{IsSoundPlan}
use Rattle.sim_deck.specs.Values.{SimValues}

-- the names of a list differ, none is `*` or `&`, and there are at most 64
pub record AreNames (names : List (List ℕ)) : Type 0 where
  pub differ : names_repeat names ≡ false
  pub no_sign : list_any is_bad_name names ≡ false
  pub few : length names ≤ MAX_SPECIES

-- all numbers are in their ranges, and each list has a member for each species
pub record IsSoundPart (values : SimValues) : Type 0 where
  pub plan : IsSoundPlan values.plan
  pub some_temperature : 1 ≤ values.temperature
  pub temperature : values.temperature ≤ MAX_TEMPERATURE
  pub pressure : is_up_to 9 values.pressure ≡ true
  pub gas : AreNames (map (λ name. name.word.bytes) values.gas)
  pub one_energy_each : length values.gas_energies ≡ length values.gas
  pub energies : All (λ e. unsigned_abs e ≤ unsigned_abs MAX_ENERGY) values.gas_energies
  pub one_fraction_each : length values.gas_fractions ≡ length values.gas
  pub fractions : All (λ n. is_up_to 0 n ≡ true) values.gas_fractions
  pub surface : AreNames (map (λ name. name.word.bytes) values.surface)
  pub one_number_each : length values.dentates ≡ length values.surface
  pub dentates : All (λ d. (1 ≤ d) × (d ≤ MAX_DENTATES)) values.dentates
