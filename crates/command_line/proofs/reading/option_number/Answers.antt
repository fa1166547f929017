use Rattle.std.proofs.Common.{◌≡◌, ◌∙◌, sym, ap, Some, None}
use Rattle.std.specs.Prelude.{unwrap_or}
use Rattle.clap.specs.Matches.{found_of}
use Rattle.command_line.proofs.Numbers.{number_of_text}
use Rattle.command_line.specs.Grammar.{number_of}
use Rattle.command_line.proofs.reading.option_number.Goals as goal

pub returns : goal.returns
returns c = ap (λ o. unwrap_or o 0) (sym c.in-Some.is ∙ c.number_in.ensures)

pub unreachable-requires : goal.unreachable-requires
unreachable-requires c =
    let given = c.requires.number in
    let bad : None ≡ Some (number_of given.0) =
    sym c.in-None.is ∙ (c.number_in.ensures ∙ number_of_text (found_of c.args.matches.now) c.args.name.now given.0 given.1) in
    cc
