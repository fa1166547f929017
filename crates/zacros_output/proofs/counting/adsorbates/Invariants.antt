use Rattle.zacros_output.proofs.counting.adsorbates.Given as goal

abbrev pub ghosts-adsorbates_on : goal.ghosts-adsorbates_on
ghosts-adsorbates_on a = record { name = a.blank.name; parts = a.blank.parts }
