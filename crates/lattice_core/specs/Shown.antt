-- What shows the states of some sites: a window over a configuration, and states given in place of others.
use Rattle.std.specs.Prelude.{ℕ, ◌≡◌, ◌==◌, true, List, [], ◌∷◌, Option, Some, None, slice_index_or, unwrap_or, if◌then◌else◌}
use Rattle.std.specs.List.{position_or_len}
use Rattle.kmc_base.specs.declared.ids.SiteId.{SiteId}
use Rattle.lattice_core.specs.declared.state.State.{State}
use Rattle.lattice_core.specs.declared.state.State.TheVariants.{Vacant}
use Rattle.lattice_core.specs.SiteList.{is_listed}

-- the sites that a window covers, and the state of each
pub record Seen : Type 0 where
  pub sites : List ℕ
  pub states : List State

-- a site is one of the window's
abbrev pub InWindow : Seen → ℕ → Type 0
InWindow window s = is_listed window.sites s ≡ true

-- the state that the window has for a site
abbrev pub state_in_window : Seen → ℕ → State
state_in_window window s = slice_index_or window.states (position_or_len (λ t. t == s) window.sites) Vacant

-- the state that is given for a site, if one is
abbrev pub given_at : List (SiteId × State) → ℕ → Option State
given_at [] s = None
given_at (pair ∷ given) s = if pair.0.0 == s then Some pair.1 else given_at given s

-- the state of a site of a lattice that is vacant but for what is given
abbrev pub state_or_vacant : List (SiteId × State) → ℕ → State
state_or_vacant given s = unwrap_or (given_at given s) Vacant
