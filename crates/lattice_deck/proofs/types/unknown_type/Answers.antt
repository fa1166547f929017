use Rattle.std.proofs.Common.{None, Some, map}
use Rattle.lattice_deck.proofs.TypeWords.{unknown_word}
use Rattle.lattice_deck.proofs.types.unknown_type.Goals as goal

pub returns-in-Some : goal.returns-in-Some
returns-in-Some c =
    unknown_word c.args.bytes.now (map (λ name. name.items) c.args.type_names.now) c.args.words.now (Some c.in-Some.word.now)
    (rw c.in_ok-index.ensures at c.in-Some.ensures)

pub returns : goal.returns
returns c =
    unknown_word c.args.bytes.now (map (λ name. name.items) c.args.type_names.now) c.args.words.now None
    (rw c.in_ok-index.ensures at c.in-None.ensures)
