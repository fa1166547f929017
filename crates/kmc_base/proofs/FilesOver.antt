-- Files that a list gives, taken from its end.
use Rattle.std.proofs.Common.{◌≡◌, ℕ, List, [], ◌∷◌, ◌++◌, Some, Vec, refl, ap}
use Rattle.std.specs.declared.alloc.Global.{Global}
use Rattle.kmc_base.specs.Files.{Files, files_over, with_file}
use Rattle.kmc_base.specs.declared.ids.FileId.{FileId}

-- the last file of a list lies under all the others
pub files_over-last : (files : Files) (xs : List (FileId × Vec ℕ Global)) (x : FileId × Vec ℕ Global)
    → files_over files (xs ++ x ∷ []) ≡ files_over (with_file files x.0 (Some x.1.items)) xs
files_over-last files [] x = refl
files_over-last files (y ∷ ys) x = ap (λ f. with_file f y.0 (Some y.1.items)) (files_over-last files ys x)
