-- Words, and what they ask for, as the definition computes it.
use Rattle.std.proofs.Common.{◌≡◌, refl, codes, [], ◌∷◌, None, Some}
use Rattle.clap.proofs.OnLiterals.{clap_on_literals}
use Rattle.command_line.specs.Grammar.{command_line, kmc_line}
use Rattle.command_line.specs.declared.line.Mode.TheVariants.{Check, Run, Sample}

pub run_alone : command_line (codes "run" ∷ []) ≡ Some (record { mode = Run; workers = 1; spread = 64 })
unfolding clap_on_literals kmc_line command_line
run_alone = refl

pub check_with_workers : command_line (codes "--workers=3" ∷ codes "check" ∷ codes "--spread" ∷ codes "2" ∷ []) ≡ Some (record { mode = Check; workers = 3; spread = 2 })
unfolding clap_on_literals kmc_line command_line
check_with_workers = refl

pub made_deck : command_line (codes "sample" ∷ codes "7" ∷ []) ≡ Some (record { mode = Sample 7; workers = 1; spread = 64 })
unfolding clap_on_literals kmc_line command_line
made_deck = refl

pub no_number : command_line (codes "sample" ∷ []) ≡ None
unfolding clap_on_literals kmc_line command_line
no_number = refl

pub run_of_a_number : command_line (codes "run" ∷ codes "3" ∷ []) ≡ None
unfolding clap_on_literals kmc_line command_line
run_of_a_number = refl

pub too_many_workers : command_line (codes "run" ∷ codes "--workers" ∷ codes "65" ∷ []) ≡ None
unfolding clap_on_literals kmc_line command_line
too_many_workers = refl

pub no_words : command_line [] ≡ None
unfolding clap_on_literals kmc_line command_line
no_words = refl
