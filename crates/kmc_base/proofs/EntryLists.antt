-- Entries in rising order of their codes.
use Rattle.std.proofs.Common.{◌≡◌, ◌≢◌, ℕ, ◌<◌, ◌≤◌, List, [], ◌∷◌, None, refl, arith}
use Rattle.std.specs.List.{AllByRecursion}
use Rattle.kmc_base.specs.Entries.{IsRising, codes_of, entry_at}
use Rattle.kmc_base.specs.declared.entry.Entry.{Entry}

-- no entry has a code that is below all of theirs
pub entry_at-below : (code : ℕ) (es : List Entry) → AllByRecursion (λ n. code < n) (codes_of es) → entry_at code es ≡ None
entry_at-below code [] below = refl
entry_at-below code (e ∷ es) below =
    let ne : e.code ≢ code = omega (arith, below.0) in
    grind (arith, entry_at-below code es below.1)

-- what is below the first of rising numbers is below all of them
pub below-all : (n m : ℕ) (ns : List ℕ) → n ≤ m → AllByRecursion (λ k. m < k) ns → AllByRecursion (λ k. n < k) ns
below-all n m [] le all = tt
below-all n m (k ∷ ns) le all = (omega (arith, all.0), below-all n m ns le all.1)

-- an entry is found nowhere behind a first one with a greater code
pub entry_at-behind : (code : ℕ) (e : Entry) (es : List Entry) → code < e.code → IsRising (codes_of (e ∷ es)) → entry_at code es ≡ None
entry_at-behind code e es lt rising = entry_at-below code es (below-all code e.code (codes_of es) (omega arith) rising.0)
