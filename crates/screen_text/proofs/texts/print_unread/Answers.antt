use Rattle.screen_text.proofs.texts.print_unread.Goals as goal

pub returns : goal.returns
returns g c = rw c.name.ensures at c.print_pieces.ensures
