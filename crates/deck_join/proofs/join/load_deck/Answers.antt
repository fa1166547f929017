use Rattle.std.proofs.Common.{ap, arith, length}
use Rattle.std.proofs.lemmas.List.{length-map}
use Rattle.std.proofs.lemmas.Result.{err_from_is_err_and}
use Rattle.deck_join.proofs.Chains.{ends}
use Rattle.deck_join.proofs.ShortTexts.{short_at}
use Rattle.deck_join.specs.Decks.{deck_of}
use Rattle.deck_join.proofs.join.load_deck.Goals as goal

pub text_at-requires : goal.text_at-requires
text_at-requires c = omega (arith, ap length c.requires.files, length-map c.args.texts.now (λ text. text.0))

pub text_at-requires-2 : goal.text_at-requires-2
text_at-requires-2 c = omega (arith, ap length c.requires.files, length-map c.args.texts.now (λ text. text.0))

pub text_at-requires-3 : goal.text_at-requires-3
text_at-requires-3 c = omega (arith, ap length c.requires.files, length-map c.args.texts.now (λ text. text.0))

pub text_at-requires-4 : goal.text_at-requires-4
text_at-requires-4 c = omega (arith, ap length c.requires.files, length-map c.args.texts.now (λ text. text.0))

pub files_in-requires-clause-simulation : goal.files_in-requires-clause-simulation
files_in-requires-clause-simulation c = rw c.text_at.ensures (short_at c.args.texts.now 0 c.requires.short)

pub files_in-requires-clause-lattice : goal.files_in-requires-clause-lattice
files_in-requires-clause-lattice c = rw c.text_at-2.ensures (short_at c.args.texts.now 1 c.requires.short)

pub files_in-requires-clause-energetics : goal.files_in-requires-clause-energetics
files_in-requires-clause-energetics c = rw c.text_at-3.ensures (short_at c.args.texts.now 2 c.requires.short)

pub files_in-requires-clause-mechanism : goal.files_in-requires-clause-mechanism
files_in-requires-clause-mechanism c = rw c.text_at-4.ensures (short_at c.args.texts.now 3 c.requires.short)

pub returns-in_err-files-clause-value : goal.returns-in_err-files-clause-value
unfolding deck_of
returns-in_err-files-clause-value c =
    let p = err_from_is_err_and c.from_residual.result c.from_residual.ensures.1 in
    rw (p.1, p.2, ← c.text_at.ensures, ← c.text_at-2.ensures, ← c.text_at-3.ensures, ← c.text_at-4.ensures)
    (ends c.in_err-files.field-0.0 _ _ c.in_err-files.ensures.bytes)
