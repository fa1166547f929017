use Rattle.pattern_rows.proofs.Patterns.{makes_pattern}
use Rattle.pattern_rows.proofs.laws.what_is_read_is_a_pattern.Goals as goal

pub returns : goal.returns
returns c = makes_pattern
