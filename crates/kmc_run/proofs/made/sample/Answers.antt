use Rattle.std.proofs.Common.{◌≡◌, ◌∙◌, Ok, None, ap, sym}
use Rattle.std.proofs.lemmas.Result.{err_from_is_err_and}
use Rattle.command_line.specs.declared.line.Mode.TheVariants.{Sample}
use Rattle.deck_join.specs.Decks.{deck_of_files}
use Rattle.kmc_run.proofs.EndLemmas.{is_done_text, may_run_out, sample_text_is}
use Rattle.kmc_run.specs.MadeFiles.{made_folder}
use Rattle.kmc_run.proofs.made.sample.Goals as goal

pub returns-in_err-summary_of-clause-failure : goal.returns-in_err-summary_of-clause-failure
returns-in_err-summary_of-clause-failure c =
    let p = err_from_is_err_and c.from_residual-in_err-summary_of.result c.from_residual-in_err-summary_of.ensures.1 in
    rw (p.1, p.2) tt

pub returns-in_err-summary_of-clause-answer : goal.returns-in_err-summary_of-clause-answer
returns-in_err-summary_of-clause-answer c =
    let p = err_from_is_err_and c.from_residual-in_err-summary_of.result c.from_residual-in_err-summary_of.ensures.1 in
    rw (p.1, p.2) (may_run_out (Sample c.args.number) (deck_of_files (made_folder c.args.number)))

pub returns-clause-text : goal.returns-clause-text
returns-clause-text c =
    let given : deck_of_files (made_folder c.args.number) ≡ Ok c.in-Ok.deck = ap deck_of_files (sym c.in_ok-folder.ensures) ∙ c.in-Ok.ensures.deck in
    let end = c.in-Ok-run_to_end.end in
    is_done_text (Sample c.args.number) None c.in-Ok.deck c.in_ok-summary_of.field-0.items given
    (sample_text_is c.args.number c.in-Ok.deck end.0.deck end.0.event end.1 c.in_ok-summary_of.field-0.items c.in-Ok-run_to_end.ensures.deck
    c.in-Ok-run_to_end.ensures.last c.in-Ok-run_to_end.ensures.stop c.in_ok-summary_of.ensures)
