use Rattle.dec_text.proofs.Places.{end_of_part}
use Rattle.dec_text.specs.Places.{is_cut}
use Rattle.dec_text.proofs.lines.first_cut.Goals as goal

pub returns-in-None-clause-place : goal.returns-in-None-clause-place
returns-in-None-clause-place c =
    end_of_part (is_cut c.args.cut) c.args.bytes.now c.args.start c.args.end c.requires.ordered c.requires.inside c.in-None.ensures
