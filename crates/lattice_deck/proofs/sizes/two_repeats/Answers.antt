use Rattle.std.proofs.Common.{arith, sym}
use Rattle.dec_text.specs.Spans.{bytes_at}
use Rattle.lattice_deck.proofs.SizesSound.{too_few}
use Rattle.lattice_deck.proofs.sizes.two_repeats.Goals as goal

pub returns-in-empty : goal.returns-in-empty
returns-in-empty c = sym (too_few c.args.line (bytes_at c.args.bytes.now) c.args.words.now (omega arith))
