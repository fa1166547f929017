use Rattle.std.proofs.Common.{◌≡◌, vec_len}
use Rattle.kmc_base.specs.Files.{files_of, files_over}
use Rattle.kmc_base.proofs.file_texts.FileTexts.of.Given as goal

-- the files taken, under those that are left, are those of the list
abbrev pub invariant-loop-file : goal.invariant-loop-file
invariant-loop-file l = files_over l.texts l.files.items ≡ files_of l.fn.files.items

abbrev pub decreases-loop-file : goal.decreases-loop-file
decreases-loop-file l = vec_len l.files
