use Rattle.std.proofs.Common.{subst, sym}
use Rattle.deck.specs.Soundness.{dentates_in}
use Rattle.deck.specs.declared.deck.Deck.{Deck}
use Rattle.lattice_core.specs.Config.{IsWellFormed}
use Rattle.zacros_output.specs.Shown.{shown}
use Rattle.kmc_run.proofs.SampleLemmas.{piece_is}
use Rattle.kmc_run.proofs.samples.piece_of.Goals as goal

pub add_piece-requires-clause-well_formed : goal.add_piece-requires-clause-well_formed
add_piece-requires-clause-well_formed c =
    subst (λ (d : Deck). IsWellFormed (dentates_in d.book) c.view_of-view.result.config.now) (sym c.deck.ensures.value)
    c.view_of-view.ensures.well_formed

pub returns : goal.returns
returns c =
    piece_is c.args.closed.now.deck c.deck.result.now c.args.closed.now.event c.args.number c.args.time c.args.out (shown c.view_of-view.result) _ _
    c.deck.ensures.value c.view_of-view.ensures.shown (rw c.new-text.ensures.items at c.in_ok-add_piece.ensures)
