use Rattle.std.proofs.Common.{◌∙◌, ap, map}
use Rattle.dec_text.proofs.Spans.{map-bytes_at}
use Rattle.dec_text.specs.Spans.{bytes_at}
use Rattle.deck_values.proofs.row.row_words.Goals as goal

pub returns : goal.returns
returns c text = ap (map (bytes_at text)) c.as_slice.ensures ∙ map-bytes_at text c.args.row.now.words
