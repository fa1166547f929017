use Rattle.std.proofs.Common.{◌≡◌, rules}
use Rattle.kmc_core.specs.DeckSystem.{trajectory_of}
use Rattle.kmc_run.proofs.EndLemmas.{summary_is}
use Rattle.kmc_run.specs.Ends.{sample_line}
use Rattle.zacros_output.specs.Shown.{shown}
use Rattle.kmc_run.proofs.made.summary_of.Goals as goal

pub returns : goal.returns
returns c =
    let first : c.into_bytes-text.result.items ≡ sample_line c.args.number = search rules in
    let last = c.args.last.now in
    summary_is c.args.number c.deck.result.now last.deck last.event c.time.result c.args.stop (shown c.view_of.result) c.into_bytes-text.result.items _
    (trajectory_of last.deck last.event) c.deck.ensures.value c.time.ensures.value c.view_of.ensures.shown first c.in_ok-summary_text.ensures.ok
