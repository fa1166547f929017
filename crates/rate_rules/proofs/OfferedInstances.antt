-- What holds of the instances that a sound chemistry offers on a configuration.
use Rattle.std.proofs.Common.{◌≡◌, ◌&&◌, ℕ, true, List, Some, length, map, refl, subst, sym}
use Rattle.std.specs.List.{AllByRecursion, Contains}
use Rattle.std.specs.Prelude.{slice_get}
use Rattle.kmc_base.specs.Entries.{IsRising}
use Rattle.lattice_core.specs.Config.{IsWellFormed, state_at}
use Rattle.lattice_core.specs.Lattice.{site_count}
use Rattle.lattice_core.specs.declared.state.State.{State}
use Rattle.pattern_list.proofs.Conditions.{has-code}
use Rattle.pattern_list.specs.Code.{HasCode, IsCode}
use Rattle.pattern_list.specs.Listing.{is_listed_placement}
use Rattle.pattern_list.specs.Match.{is_match}
use Rattle.pattern_list.specs.Placement.{is_placement}
use Rattle.std.proofs.lemmas.Bool.{and_parts}
use Rattle.rate_rules.specs.InstanceRange.{IsInRange}
use Rattle.rate_rules.specs.Soundness.{IsInstance, IsSoundChemistry, IsSoundProcess}
use Rattle.rate_rules.specs.System.{offers, process_of, sites_of}
use Rattle.rate_rules.specs.declared.chemistry.Chemistry.{Chemistry}
use Rattle.rate_rules.specs.declared.chemistry.Process.{Process}
use Rattle.trajectory.specs.declared.instance.Instance.{Instance}

-- the codes of what a chemistry offers
abbrev pub codes_offered : Chemistry → List State → List ℕ
codes_offered chemistry states = map (λ (offer : Instance). offer.code) (offers chemistry states)

-- a code is that of an instance of a process of the chemistry
pub record IsOffered (dentates : ℕ → ℕ) (chemistry : Chemistry) (states : List State) (code : ℕ) : Type 0 where
  pub process : Process
  pub at : slice_get chemistry.processes (process_of code) ≡ Some process
  pub sound : IsSoundProcess dentates process
  pub sites : List ℕ
  pub found : sites_of chemistry states process code ≡ Some sites
  pub listed : is_listed_placement chemistry.graph (state_at states) process.before sites ≡ true
  pub is_code : IsCode chemistry.graph process.before code (process_of code) sites

-- the codes rise, all is in range, and each code is that of an instance
pub record OffersWell (dentates : ℕ → ℕ) (chemistry : Chemistry) (states : List State) : Type 0 where
  pub rising : IsRising (codes_offered chemistry states)
  pub in_range : AllByRecursion IsInRange (offers chemistry states)
  pub offered : (code : ℕ) → Contains (codes_offered chemistry states) code → IsOffered dentates chemistry states code

-- a placement that is listed is that of an instance
pub instance-listed : (dentates : ℕ → ℕ) (chemistry : Chemistry) → IsSoundChemistry dentates chemistry
    → (process : Process) → IsSoundProcess dentates process → (states : List State) → length states ≡ site_count chemistry.graph
    → IsWellFormed dentates states → (sites : List ℕ)
    → is_listed_placement chemistry.graph (state_at states) process.before sites ≡ true
    → IsInstance chemistry process states sites
instance-listed dentates chemistry sound process fine states long formed sites listed =
    let parts = and_parts (is_placement chemistry.graph process.before sites) (is_match (state_at states) process.before sites) listed in
    record {
      placed = record { dentates = dentates; chemistry_sound = sound; process_sound = fine; placed = parts.0 };
      long = long;
      well_formed = formed;
      matches = parts.1;
    }

-- and it has a code
pub has-its-code : (chemistry : Chemistry) (process : Process) (states : List State) (sites : List ℕ)
    → IsInstance chemistry process states sites → HasCode chemistry.graph process.before sites
has-its-code chemistry process states sites is =
    has-code chemistry.graph process.before sites true (subst (λ b. (b && true) ≡ true) (sym is.placed.placed) refl)
