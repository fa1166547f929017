use Rattle.rate_rules.proofs.reaction.zero_change.Given as goal

abbrev pub ghosts-bare_change : goal.ghosts-bare_change
ghosts-bare_change a = record { name = a.blank.name; parts = a.blank.parts }
