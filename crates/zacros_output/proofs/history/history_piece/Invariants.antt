use Rattle.zacros_output.proofs.history.history_piece.Given as goal

abbrev pub ghosts-push_sites : goal.ghosts-push_sites
ghosts-push_sites a = record { name = a.blank.name; parts = a.blank.parts }
