use Rattle.std.proofs.Common.{◌≡◌, ◌∙◌, refl, sym, ap, codes, Some, None, option_map}
use Rattle.clap.proofs.WalkLemmas.{first_value-rows}
use Rattle.clap.specs.Matches.{found_of}
use Rattle.clap.specs.Walk.{first_of, rows_of}
use Rattle.command_line.proofs.reading.mode_in.Goals as goal

pub returns-in-Some : goal.returns-in-Some
returns-in-Some c =
    let first : first_of (codes "mode") (rows_of (found_of c.args.matches.now)) ≡ Some c.in-Some.word.now =
    sym (first_value-rows (found_of c.args.matches.now) (codes "mode")) ∙ (sym c.get_str.ensures ∙ ap (option_map (λ s. s.now)) c.in-Some.is) in
    rw (first, ← c.number_in-number.ensures) c.mode_of.ensures

pub returns-in-None : goal.returns-in-None
returns-in-None c =
    let first : first_of (codes "mode") (rows_of (found_of c.args.matches.now)) ≡ None =
    sym (first_value-rows (found_of c.args.matches.now) (codes "mode")) ∙ (sym c.get_str.ensures ∙ ap (option_map (λ s. s.now)) c.in-None.is) in
    rw first refl
