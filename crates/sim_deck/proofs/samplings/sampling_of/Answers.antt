use Rattle.std.proofs.Common.{arith, sym}
use Rattle.dec_text.specs.Spans.{bytes_at}
use Rattle.sim_deck.proofs.LongWords.{long_sampling}
use Rattle.sim_deck.proofs.samplings.sampling_of.Goals as goal

pub returns-in-empty-2 : goal.returns-in-empty-2
returns-in-empty-2 c = sym (long_sampling (bytes_at c.args.bytes.now) c.args.words.now (omega arith))
