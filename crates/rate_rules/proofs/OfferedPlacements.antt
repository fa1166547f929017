-- An instance that is offered, as the code finds it by its code: its process, and its sites.
use Rattle.std.proofs.Common.{◌≡◌, ℕ, ◌<◌, List, Some, length, refl, sym, subst}
use Rattle.std.proofs.lemmas.Option.{slice_get_within}
use Rattle.std.specs.List.{Contains}
use Rattle.std.specs.Prelude.{slice_get}
use Rattle.firing.specs.Sides.{states_for, with_states}
use Rattle.lattice_core.specs.Config.{IsWellFormed}
use Rattle.lattice_core.specs.Lattice.{site_count}
use Rattle.lattice_core.specs.declared.state.State.{State}
use Rattle.pattern_list.specs.Code.{IsCode}
use Rattle.rate_rules.proofs.Instances.{offers-well}
use Rattle.rate_rules.proofs.OfferedInstances.{IsOffered, codes_offered, instance-listed}
use Rattle.rate_rules.specs.Soundness.{IsInstance, IsSoundChemistry, IsSoundProcess}
use Rattle.rate_rules.specs.System.{fires, process_of}
use Rattle.rate_rules.specs.declared.chemistry.Chemistry.{Chemistry}
use Rattle.rate_rules.specs.declared.chemistry.Process.{Process}

-- what firing asks of a process and the sites of its instance, and what it makes of the states
pub record IsPlaced (dentates : ℕ → ℕ) (chemistry : Chemistry) (states : List State) (code : ℕ) (process : Process) (sites : List ℕ)
    : Type 0 where
  pub sound : IsSoundProcess dentates process
  pub instance : IsInstance chemistry process states sites
  pub fires : fires chemistry states code ≡ with_states (states_for process.after sites) states

-- the sites have the code, too
pub record IsNamed (dentates : ℕ → ℕ) (chemistry : Chemistry) (states : List State) (code : ℕ) (process : Process) (sites : List ℕ)
    : Type 0 where
  pub is_code : IsCode chemistry.graph process.before code (process_of code) sites
  pub placed : IsPlaced dentates chemistry states code process sites

module _ (dentates : ℕ → ℕ) (chemistry : Chemistry) (sound : IsSoundChemistry dentates chemistry) (states : List State)
    (long : length states ≡ site_count chemistry.graph) (formed : IsWellFormed dentates states) (code : ℕ)
    (offered : Contains (codes_offered chemistry states) code) where
  placed : (o : IsOffered dentates chemistry states code) → IsPlaced dentates chemistry states code o.process o.sites
  placed o = record {
    sound = o.sound;
    instance = instance-listed dentates chemistry sound o.process o.sound states long formed o.sites o.listed;
    fires = rw (o.at, o.found) refl;
  }

  -- the process of a code that is offered is there
  pub process_is_there : process_of code < length chemistry.processes
  process_is_there = slice_get_within chemistry.processes _ _ ((offers-well dentates chemistry sound states).offered code offered).at

  -- the process that is found is that of the instance, and its code is the instance's
  pub named : (process : Process) → slice_get chemistry.processes (process_of code) ≡ Some process
      → (sites : List ℕ) × IsNamed dentates chemistry states code process sites
  named process at =
      let o = (offers-well dentates chemistry sound states).offered code offered in
      let same : o.process ≡ process = cc (o.at, at) in (
        o.sites,
        subst (λ (p : Process). IsNamed dentates chemistry states code p o.sites) same (record { is_code = o.is_code; placed = placed o }),
      )

  -- the sites that the code is decoded to are those of the instance
  pub decoded : (process : Process) → slice_get chemistry.processes (process_of code) ≡ Some process → (sites : List ℕ)
      → ((number : ℕ) (others : List ℕ) → IsCode chemistry.graph process.before code number others → sites ≡ others)
      → IsPlaced dentates chemistry states code process sites
  decoded process at sites same =
      let n = named process at in
      subst (λ (ss : List ℕ). IsPlaced dentates chemistry states code process ss) (sym (same (process_of code) n.0 n.1.is_code)) n.1.placed
