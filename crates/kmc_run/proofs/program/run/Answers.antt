use Rattle.std.proofs.Common.{◌∙◌, Option, subst, sym}
use Rattle.std.proofs.lemmas.Result.{err_from_is_err_and}
use Rattle.command_line.specs.declared.line.Mode.TheVariants.{Run}
use Rattle.kmc_base.specs.Outs.{Outs}
use Rattle.kmc_run.proofs.EndLemmas.{is_done_text, leaves_all, run_text_is}
use Rattle.kmc_run.specs.Samples.{run_writes}
use Rattle.kmc_run.specs.Writes.{Done}
use Rattle.kmc_run.proofs.program.run.Goals as goal

pub returns-in_err-run_line-clause-outs : goal.returns-in_err-run_line-clause-outs
returns-in_err-run_line-clause-outs g c =
    let p = err_from_is_err_and c.from_residual-in_err-run_line.result c.from_residual-in_err-run_line.ensures.1 in
    let outs = g.F.Folder.outs in
    rw (p.1, p.2) (leaves_all (g.F.Folder.files c.args.folder.now) c.in_ok-deck.deck _ _ c.in_ok-deck.ensures.deck
    (subst (λ (o : Option Outs). Done (run_writes c.in_ok-deck.deck) o (outs c.drive.new.folder)) c.in_ok-deck.ensures.outs
    c.in_ok-summary.ensures.ok))

pub returns-clause-text : goal.returns-clause-text
returns-clause-text g c =
    is_done_text Run (g.F.Folder.files c.args.folder.now) c.in_ok-deck.deck c.in_ok-run_line.field-0.items c.in_ok-deck.ensures.deck
    (c.in_ok-run_line.ensures ∙ sym (run_text_is c.in_ok-deck.deck c.in_ok-summary.summary c.in_ok-summary.ensures.summary))
