use Rattle.std.proofs.Common.{ℕ, List, subst, sym}
use Rattle.lattice_core.specs.declared.state.State.{State}
use Rattle.zacros_output.specs.History.{IsNamed}
use Rattle.zacros_output.proofs.SiteNames.{named-at}
use Rattle.zacros_output.proofs.history.push_sites.Goals as goal

pub push_site-requires : goal.push_site-requires
push_site-requires g c =
    let book = c.args.deck.now.book in
    let names = c.surface_names-names.ensures in
    let named = named-at book c.args.config.now c.requires.well_formed names.dentates_match c.loop-site.site in
    subst (λ (all : List (List ℕ)). IsNamed all c.at-state.result) (sym names.names)
    (subst (λ (state : State). IsNamed book.surface state) (sym c.at-state.ensures.state) named)
