use Rattle.std.proofs.Common.{ap, sym}
use Rattle.std.proofs.lemmas.Result.{IfOk-weaker}
use Rattle.deck_shape.specs.Blocks.{file_at}
use Rattle.deck_shape.specs.LineFaults.{file_of_text}
use Rattle.deck_shape.specs.Reading.{first_block}
use Rattle.deck_shape.proofs.FileForms.{form_of_file}
use Rattle.deck_shape.proofs.RisingBlocks.{rising_file}
use Rattle.deck_shape.proofs.WholeBlocks.{whole_file}
use Rattle.deck_shape.proofs.reader.read_shape.Goals as goal

pub returns-clause-shape : goal.returns-clause-shape
returns-clause-shape c =
    let text = c.args.bytes.now in
    let form = first_block c.args.file in
    IfOk-weaker c.read_file.result _ _
    (λ shape read. record {
      read = read;
      whole = whole_file form text (file_at text shape) read;
      rising = rising_file form text (file_at text shape) read;
      form_of_file = form_of_file c.args.file text (file_at text shape) read;
    })
    (rw c.first_block.ensures at c.read_file.ensures.shape)
