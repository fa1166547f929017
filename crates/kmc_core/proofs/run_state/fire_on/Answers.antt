use Rattle.std.proofs.Common.{◌∙◌, ap, sym}
use Rattle.deck.specs.Soundness.{dentates_in}
use Rattle.lattice_core.specs.SiteList.{site_numbers}
use Rattle.rate_rules.proofs.OfferedPlacements.{decoded, named}
use Rattle.rate_rules.proofs.SideStates.{can-fire}
use Rattle.rate_rules.specs.System.{process_of}
use Rattle.kmc_core.proofs.run_state.fire_on.Goals as goal

pub decode-placement-requires : goal.decode-placement-requires
decode-placement-requires c =
    let n = named (dentates_in c.args.deck.now.book) c.args.deck.now.chem c.requires.deck.chemistry c.args.config.now
    c.requires.configuration c.requires.well_formed c.args.code c.requires.offered c.args.process.now c.requires.process in
    (process_of c.args.code, n.0, n.1.is_code)

pub fire-requires : goal.fire-requires
fire-requires c =
    let p = decoded (dentates_in c.args.deck.now.book) c.args.deck.now.chem c.requires.deck.chemistry c.args.config.now
    c.requires.configuration c.requires.well_formed c.args.code c.requires.offered c.args.process.now c.requires.process
    (site_numbers c.sites.result.now)
    (λ number others is. ap site_numbers c.sites.ensures.value ∙ c.decode-placement.ensures number others is) in
    can-fire c.args.deck.now.chem c.args.process.now c.args.config.now (site_numbers c.sites.result.now) p.instance

pub returns-clause-states : goal.returns-clause-states
returns-clause-states c =
    let p = decoded (dentates_in c.args.deck.now.book) c.args.deck.now.chem c.requires.deck.chemistry c.args.config.now
    c.requires.configuration c.requires.well_formed c.args.code c.requires.offered c.args.process.now c.requires.process
    (site_numbers c.sites.result.now)
    (λ number others is. ap site_numbers c.sites.ensures.value ∙ c.decode-placement.ensures number others is) in
    c.fire.ensures.states ∙ sym p.fires

pub returns-clause-well_formed : goal.returns-clause-well_formed
returns-clause-well_formed c =
    let p = decoded (dentates_in c.args.deck.now.book) c.args.deck.now.chem c.requires.deck.chemistry c.args.config.now
    c.requires.configuration c.requires.well_formed c.args.code c.requires.offered c.args.process.now c.requires.process
    (site_numbers c.sites.result.now)
    (λ number others is. ap site_numbers c.sites.ensures.value ∙ c.decode-placement.ensures number others is) in
    c.fire.ensures.well_formed (dentates_in c.args.deck.now.book) p.sound.dentates_after c.requires.well_formed
