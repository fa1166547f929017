use Rattle.pattern_list.proofs.Coding.{one-code}
use Rattle.pattern_list.proofs.code.one_code_one_instance.Goals as goal

pub returns : goal.returns
returns c process other sites others one two =
    one-code c.args.graph.now c.args.pattern.now c.args.code process other sites others c.len.ensures.lattice c.len-2.ensures.sound one two
