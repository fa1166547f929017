use Rattle.std.proofs.Common.{◌≡◌, ℕ, ◌+◌, ◌-◌, ap, arith, refl, sym, subst}
use Rattle.kmc_core.proofs.Runs.{came_first, closed-well, fires_first}
use Rattle.kmc_core.specs.DeckSystem.{DeckState}
use Rattle.kmc_core.specs.Run.{IsClosedAt}
use Rattle.trajectory.specs.Trajectory.{Snapshot}
use Rattle.kmc_core.proofs.unclosed.Unclosed.after.Goals as goal

pub fire_code-requires-clause-sites : goal.fire_code-requires-clause-sites
fire_code-requires-clause-sites c = (closed-well _ _ _ _ c.closed.invariant).sites

pub fire_code-requires-clause-offered : goal.fire_code-requires-clause-offered
fire_code-requires-clause-offered c = (fires_first _ _ _ _ c.args.first c.args.closed c.closed.view_is c.closed.invariant c.requires.first).offered

pub fire_code-requires-clause-within : goal.fire_code-requires-clause-within
fire_code-requires-clause-within c =
    let run = c.closed.invariant in
    let allowed = run.allowed in
    let steps = run.sound.plan.max_steps in
    (c.closed.inside.event, omega arith, run.within)

pub invariant_of-result : goal.invariant_of-result
invariant_of-result c =
    let before : (c.closed.inside.event + 1) - 1 ≡ c.closed.inside.event = omega arith in
    let old : Snapshot DeckState =
    record {
      state = c.closed.inside.state;
      time = c.closed.inside.time;
      entries = c.closed.inside.lists.current;
    } in
    record {
      old = old;
      old_total = c.closed.inside.energy;
      closed = subst (λ (n : ℕ). IsClosedAt c.closed.inside.deck n old c.closed.inside.energy) (sym before) c.closed.invariant;
      some = omega arith;
      allowed = omega (arith, ap (λ r. r.event) c.closed.view_is, ap (λ r. r.deck.plan.max_steps) c.closed.view_is, c.requires.goes_on);
      old_entries = refl;
      came_first = came_first _ _ _ _ c.args.first c.args.closed c.closed.view_is c.closed.invariant c.requires.first;
      fired_state = c.fire_code.ensures.value;
      within = c.fire_code.ensures.within c.closed.inside.event c.closed.invariant.within;
      listed = tt;
    }
