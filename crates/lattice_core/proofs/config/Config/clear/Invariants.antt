use Rattle.std.proofs.Common.{◌≡◌, ℕ, cond, length, take}
use Rattle.lattice_core.specs.declared.state.State.TheVariants.{Vacant}
use Rattle.lattice_core.specs.Config.{state_at}
use Rattle.lattice_core.specs.SiteList.{site_numbers, is_listed}
use Rattle.lattice_core.proofs.config.Config.clear.Given as goal

-- the sites so far are vacant
abbrev pub invariant-loop-site : goal.invariant-loop-site
invariant-loop-site l = record {
  same_length : length l.self ≡ length l.fn.self;
  states : (s : ℕ) → state_at l.self s ≡ cond (is_listed (take l.site-index (site_numbers l.sites)) s) Vacant (state_at l.fn.self s);
}
