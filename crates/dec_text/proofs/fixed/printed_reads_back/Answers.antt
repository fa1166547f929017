use Rattle.dec_text.proofs.ReadingBack.{reads_back}
use Rattle.dec_text.proofs.fixed.printed_reads_back.Goals as goal

pub returns : goal.returns
returns c v decimals few small = reads_back v decimals few small
