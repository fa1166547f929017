use Rattle.std.proofs.Common.{◌≡◌, ◌∙◌, ap, ap₂, codes, rules, true}
use Rattle.std.proofs.lemmas.Result.{IfOk-weaker}
use Rattle.clap.specs.Simple.{App, app_of, app_of_fields, new_app, on_top, with_rule}
use Rattle.clap.specs.Walk.{rule_of}
use Rattle.command_line.specs.Grammar.{deck_rule, kmc_line, mode_rule, number_rule}
use Rattle.command_line.specs.declared.line.TheConstants.{MAX_SPREAD, MAX_WORKERS}
use Rattle.command_line.proofs.reading.kmc_command.Goals as goal

abbrev start : App
start = on_top (λ s. record s { no_binary_name = true; disable_help_flag = true }) (new_app (codes "kmc"))

pub returns : goal.returns
unfolding kmc_line
returns c =
    let mode_is : rule_of c.required-mode.result ≡ mode_rule = search rules in
    let named : app_of c.no_binary_name.result ≡ on_top (λ s. record s { no_binary_name = true }) (new_app (codes "kmc")) =
    ap app_of_fields c.no_binary_name.ensures ∙ ap (on_top (λ s. record s { no_binary_name = true })) c.new-3.ensures.app in
    let start_is : app_of c.disable_help_flag.result ≡ start =
    ap app_of_fields c.disable_help_flag.ensures ∙ ap (on_top (λ s. record s { disable_help_flag = true })) named in
    let one : app_of c.in_ok-arg.field-0 ≡ with_rule start mode_rule =
    c.in_ok-arg.ensures.shape (search rules) ∙ ap₂ with_rule start_is mode_is in
    let deck_is : rule_of c.value_parser-number.result ≡ deck_rule = search rules in
    let two : app_of c.in_ok-arg-2.field-0 ≡ with_rule (with_rule start mode_rule) deck_rule =
    c.in_ok-arg-2.ensures.shape (search rules) ∙ ap₂ with_rule one deck_is in
    let three : app_of c.in_ok-arg-3.field-0 ≡ with_rule (with_rule (with_rule start mode_rule) deck_rule) (number_rule (codes "workers") MAX_WORKERS (codes "1")) =
    c.in_ok-arg-3.ensures.shape (search rules) ∙ ap₂ with_rule two (search rules) in
    let spread_is : rule_of c.number_option-spread.result ≡ number_rule (codes "spread") MAX_SPREAD (codes "64") = search rules in
    IfOk-weaker c.arg-4.result _ _ (λ command added. added.shape (search rules) ∙ ap₂ with_rule three spread_is) c.arg-4.ensures
