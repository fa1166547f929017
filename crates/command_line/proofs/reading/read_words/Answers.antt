use Rattle.std.proofs.Common.{arith, ◌≡◌, ◌∙◌, sym, ap, subst, map, [], codes, string_bytes}
use Rattle.std.proofs.lemmas.Result.{IfOk-weaker}
use Rattle.clap.specs.Faults.{fault_of, is_simple_and_free}
use Rattle.clap.specs.Matches.{found_of}
use Rattle.clap.specs.Simple.{App, app_of, is_simple, matches_of}
use Rattle.clap.specs.Kinds.{HasKind}
use Rattle.clap.specs.Values.{kind_of}
use Rattle.clap.specs.Walk.{rows_of}
use Rattle.command_line.proofs.Modes.{mode_within}
use Rattle.command_line.proofs.Numbers.{deck_read, line_is_free, line_is_simple, no_line, number_within, refused_line, some_line, spread_read, taken_line, workers_read}
use Rattle.command_line.specs.Grammar.{kmc_line}
use Rattle.command_line.specs.declared.line.TheConstants.{MAX_SPREAD, MAX_WORKERS}
use Rattle.command_line.proofs.reading.read_words.Goals as goal

pub returns-in-Err-clause-value : goal.returns-in-Err-clause-value
returns-in-Err-clause-value c =
    let app_is : app_of c.in_ok-command.command ≡ kmc_line = c.in_ok-command.ensures in
    let words = map string_bytes c.args.words.now in
    let kinds : HasKind (fault_of kmc_line words) c.in-Err.error = subst (λ (a : App). HasKind (fault_of a words) c.in-Err.error) app_is
    (c.in-Err.ensures.kinds (ap is_simple_and_free app_is ∙ line_is_free)) in
    IfOk-weaker c.refusal.result _ _ (λ line h. h.0 ∙ refused_line words (kind_of c.in-Err.error) kinds (λ memory. h.1 (c.kind.ensures ∙ memory)))
    c.refusal.ensures

pub returns-in_default-clause-value : goal.returns-in_default-clause-value
returns-in_default-clause-value c =
    let app_is : app_of c.in_ok-command.command ≡ kmc_line = c.in_ok-command.ensures in
    let words = map string_bytes c.args.words.now in
    let rows = rows_of (found_of c.in-Ok.matches) in
    let taken : fault_of kmc_line words ≡ [] = subst (λ (a : App). fault_of a words ≡ []) app_is (c.in-Ok.ensures.kinds (ap is_simple_and_free app_is ∙ line_is_free)) in
    let are : rows ≡ matches_of kmc_line words = (c.in-Ok.ensures.matches (ap is_simple app_is ∙ line_is_simple)).0 ∙ ap (λ (a : App). matches_of a words) app_is in
    sym (taken_line words rows taken are ∙ no_line rows (sym c.mode_in.ensures ∙ c.in_default.is))

pub mode_in-requires : goal.mode_in-requires
mode_in-requires c = record {
  number = λ t is.
      let read = deck_read c.in_ok-command.command c.in-Ok.matches c.in_ok-command.ensures c.in-Ok.ensures.parsed t is in
      (read.0, read.1, read.2, omega (arith, read.3));
}

pub option_number-workers-requires : goal.option_number-workers-requires
option_number-workers-requires c =
    let read = workers_read c.in_ok-command.command c.in-Ok.matches c.in_ok-command.ensures c.in-Ok.ensures.parsed in
    record { number = (read.0, read.1, (read.2.0, read.2.1, omega arith, omega (arith, read.2.3))) }

pub option_number-spread-requires : goal.option_number-spread-requires
option_number-spread-requires c =
    let read = spread_read c.in_ok-command.command c.in-Ok.matches c.in_ok-command.ensures c.in-Ok.ensures.parsed in
    record { number = (read.0, read.1, (read.2.0, read.2.1, omega arith, omega (arith, read.2.3))) }

pub returns-clause-value : goal.returns-clause-value
returns-clause-value c =
    let app_is : app_of c.in_ok-command.command ≡ kmc_line = c.in_ok-command.ensures in
    let words = map string_bytes c.args.words.now in
    let rows = rows_of (found_of c.in-Ok.matches) in
    let taken : fault_of kmc_line words ≡ [] = subst (λ (a : App). fault_of a words ≡ []) app_is (c.in-Ok.ensures.kinds (ap is_simple_and_free app_is ∙ line_is_free)) in
    let are : rows ≡ matches_of kmc_line words = (c.in-Ok.ensures.matches (ap is_simple app_is ∙ line_is_simple)).0 ∙ ap (λ (a : App). matches_of a words) app_is in
    some_line rows c.in-Some.mode c.option_number-workers.result c.option_number-spread.result (sym c.mode_in.ensures ∙ c.in-Some.is)
    c.option_number-workers.ensures c.option_number-spread.ensures ∙ sym (taken_line words rows taken are)

pub returns-clause-workers : goal.returns-clause-workers
returns-clause-workers c =
    let m = c.in-Ok.matches in
    let read = workers_read c.in_ok-command.command m c.in_ok-command.ensures c.in-Ok.ensures.parsed in
    rw c.option_number-workers.ensures (number_within (found_of m) (codes "workers") MAX_WORKERS read.0 read.1 read.2)

pub returns-clause-spread : goal.returns-clause-spread
returns-clause-spread c =
    let m = c.in-Ok.matches in
    let read = spread_read c.in_ok-command.command m c.in_ok-command.ensures c.in-Ok.ensures.parsed in
    rw c.option_number-spread.ensures (number_within (found_of m) (codes "spread") MAX_SPREAD read.0 read.1 read.2)

pub returns-clause-number : goal.returns-clause-number
returns-clause-number c =
    let m = c.in-Ok.matches in
    mode_within (found_of m) c.in-Some.mode (deck_read c.in_ok-command.command m c.in_ok-command.ensures c.in-Ok.ensures.parsed)
    (sym c.mode_in.ensures ∙ c.in-Some.is)
