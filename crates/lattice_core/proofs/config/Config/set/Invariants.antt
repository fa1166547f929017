use Rattle.std.proofs.Common.{◌≡◌, ◌+◌, ℕ, length, drop, slice_index}
use Rattle.lattice_core.specs.Config.{state_at, state_among}
use Rattle.lattice_core.specs.SiteList.{site_numbers}
use Rattle.lattice_core.proofs.config.Config.set.Given as goal

-- the sites that are left complete the adsorbate
abbrev pub invariant-loop-place : goal.invariant-loop-place
invariant-loop-place l = record {
  same_length : length l.self ≡ length l.fn.self;
  states : (s : ℕ) → state_among l.species.0 (slice_index (site_numbers l.sites) 0) (l.place + 1)
      (drop l.place (site_numbers l.sites)) s (state_at l.self s)
      ≡ state_among l.species.0 (slice_index (site_numbers l.sites) 0) 1 (site_numbers l.sites) s (state_at l.fn.self s);
}
