-- What a sample shows.
use Rattle.std.specs.Prelude.{ℕ, ℤ, List}
use Rattle.lattice_core.specs.declared.state.State.{State}
use Rattle.zacros_output.specs.declared.view.View.{View}

-- What a sample shows beside its number: the event and the time in attoseconds, the energy in neV, the states of the
-- sites, of each gas species the molecules produced since the start less those consumed, and how often each process has
-- fired.
pub record Shown : Type 0 where
  pub event : ℕ
  pub time : ℕ
  pub energy : ℤ
  pub states : List State
  pub gas : List ℤ
  pub counts : List ℕ

-- what a view shows at a time
abbrev pub shown : View → ℕ → Shown
shown view time = record {
  event = view.event;
  time = time;
  energy = view.energy;
  states = view.config.now;
  gas = view.gas.now;
  counts = view.counts.now;
}
