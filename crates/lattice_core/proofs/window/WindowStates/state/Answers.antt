use Rattle.std.proofs.Common.{◌≡◌, ◌==◌, ◌<◌, ◌∙◌, is_some, length, get_or, position, Some, sym, ap, arith}
use Rattle.std.proofs.lemmas.List.{get_or_default, length-map}
use Rattle.kmc_base.specs.declared.ids.SiteId.{SiteId}
use Rattle.lattice_core.specs.declared.state.State.TheVariants.{Vacant}
use Rattle.std.specs.List.{position_or_len}
use Rattle.lattice_core.specs.Shown.{Seen, state_in_window}
use Rattle.lattice_core.specs.SiteList.{site_numbers, is_listed}
use Rattle.lattice_core.proofs.Places.{is_some-position, position_or_len-found, position-within}
use Rattle.lattice_core.proofs.window.WindowStates.state.Goals as goal
use Rattle.lattice_core.proofs.window.WindowStates.state.Goals.{After-find_site, After-unwrap-place}

-- the sites are the window's
is_sites : (c : After-find_site) → site_numbers c.deref.result.now ≡ c.args.self.now.sites
is_sites c = ap site_numbers c.deref.ensures.value ∙ ap (λ (w : Seen). w.sites) c.self.view_is

pub unwrap-place-requires : goal.unwrap-place-requires
unwrap-place-requires c =
    let at = (goal.at.unwrap-place-requires c).After-find_site in
    ap is_some c.find_site.ensures ∙ is_some-position (λ t. t == c.args.s.0) (site_numbers c.deref.result.now)
    ∙ ap (λ l. is_listed l c.args.s.0) (is_sites at) ∙ c.requires

-- the place that was found is within the states
found : (c : After-unwrap-place) → position (λ t. t == c.args.s.0) (site_numbers c.deref.result.now) ≡ Some c.unwrap-place.result
found c = sym c.find_site.ensures ∙ c.unwrap-place.ensures

within : (c : After-unwrap-place) → c.unwrap-place.result < length c.self.inside.states.items
within c =
    let low : c.unwrap-place.result < length (site_numbers c.deref.result.now) =
    position-within (site_numbers c.deref.result.now) c.args.s.0 c.unwrap-place.result (found c) in
    omega (arith, low, length-map c.deref.result.now (λ (s : SiteId). s.0), ap length c.deref.ensures.value, c.self.invariant.1)

pub returns : goal.returns
returns c =
    let at = goal.at.returns c in
    let place : position_or_len (λ t. t == c.args.s.0) (site_numbers c.deref.result.now) ≡ c.unwrap-place.result =
    position_or_len-found (site_numbers c.deref.result.now) c.args.s.0 c.unwrap-place.result
    (found at.After-unwrap-place) in
    let states = c.self.inside.states.items in
    c.index.ensures
    ∙ get_or_default states c.unwrap-place.result c.index.result.now Vacant (within at.After-unwrap-place)
    ∙ ap (λ i. get_or states i Vacant) (sym place)
    ∙ ap (λ l. get_or states (position_or_len (λ t. t == c.args.s.0) (site_numbers l)) Vacant) c.deref.ensures.value
    ∙ ap (λ (w : Seen). state_in_window w c.args.s.0) c.self.view_is
