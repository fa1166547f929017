-- Firing clears the initial entities and then sets the final ones, and keeps a configuration well formed.
use Rattle.std.proofs.Common.{◌≡◌, ℕ, List, subst, sym, ◌∙◌, arith}
use Rattle.firing.specs.Firing.{CanFire, CanSet, cleared_side, set_side}
use Rattle.firing.specs.Sides.{states_for, with_states}
use Rattle.firing.specs.Soundness.{HasDentates}
use Rattle.firing.proofs.EachEntity.{cleared_count, cleared_elsewhere, cleared_vacant, cleared_well_formed, set_states, set_well_formed}
use Rattle.firing.proofs.Placed.{same_elsewhere}
use Rattle.lattice_core.specs.Config.{IsWellFormed}
use Rattle.lattice_core.specs.declared.state.State.{State}
use Rattle.pattern_types.specs.Parts.{PatternParts}

module _ (before after : PatternParts) (sites : List ℕ) (states : List State) (can : CanFire before after sites states) where
  -- once the initial entities are off, the final ones can be put on
  pub can_set : CanSet after sites (cleared_side before sites states)
  can_set =
      let placed = can.can_clear.placed in
      let count = cleared_count before sites states can.can_clear in
      record {
        sound = can.sound_after;
        placed = record {
          vertices = placed.vertices ∙ sym can.same_vertices;
          inside = λ i d within. let low = placed.inside i d within in omega arith;
          different = placed.different;
        };
        vacant = cleared_vacant before sites states can.can_clear;
      }

  pub clears_then_sets : with_states (states_for after sites) states ≡ set_side after sites (cleared_side before sites states)
  clears_then_sets =
      let placed = can.can_clear.placed in
      sym
      (set_states after sites (cleared_side before sites states) can_set
      ∙ same_elsewhere after sites (placed.vertices ∙ sym can.same_vertices) states (cleared_side before sites states)
      placed.different placed.inside (cleared_count before sites states can.can_clear)
      (cleared_elsewhere before sites states can.can_clear))

  pub keeps_well_formed : (dentates : ℕ → ℕ) → HasDentates dentates after → IsWellFormed dentates states
      → IsWellFormed dentates (with_states (states_for after sites) states)
  keeps_well_formed dentates has well_formed =
      subst (IsWellFormed dentates) (sym clears_then_sets)
      (set_well_formed after sites (cleared_side before sites states) can_set dentates has
      (cleared_well_formed before sites states can.can_clear dentates well_formed))
