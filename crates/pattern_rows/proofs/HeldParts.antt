-- What holds of the parts of clusters and steps that are read.
use Rattle.std.proofs.Common.{◌≡◌, ◌∙◌, ◌⊎◌, ◌≤◌, ◌==◌, ◌++◌, ap, arith, inr, refl, suc, ℕ, not, false, nat_lt, length, map}
use Rattle.std.proofs.Common.{IfOk, List, [], ◌∷◌, Some, Result, Ok, Err}
use Rattle.std.proofs.lemmas.Bool.Decides.{nat_tests}
use Rattle.std.proofs.lemmas.List.{length-map}
use Rattle.std.proofs.lemmas.Result.{IfOk-weaker}
use Rattle.std.specs.List.{AllByRecursion}
use Rattle.deck_shape.proofs.BlockValues.{line_value_or-holds}
use Rattle.deck_shape.specs.Blocks.{BlockLines}
use Rattle.deck_shape.specs.LineWords.{arguments_of}
use Rattle.deck_shape.specs.Names.{NameWord, on_line}
use Rattle.deck_shape.specs.WordLines.{names_on}
use Rattle.deck_values.proofs.Values.{AreSo, unless-holds}
use Rattle.deck_values.specs.Lists.{has_other_length}
use Rattle.deck_words.proofs.HeldValues.{both-holds, value_map-holds}
use Rattle.deck_words.specs.Faults.{all_of, both}
use Rattle.deck_words.specs.declared.fault.LineFault.{LineFault}
use Rattle.deck_words.specs.declared.keyword.Keyword.TheVariants.{SiteTypes}
use Rattle.deck_words.specs.declared.kind.TheConstants.{LIST_LENGTH}
use Rattle.pattern_rows.specs.Types.{types_on, types_or}

-- a type for each of so many sites, or any types
abbrev pub AreTypes : ℕ → List NameWord → Type 0
AreTypes sites types = (types ≡ []) ⊎ (length types ≡ sites)

same_length : (members count : ℕ) → not (members == count) ≡ false → members ≡ count
same_length members count same = grind (arith, nat_tests)

pub types-hold : (absent : Result (List NameWord) LineFault) (sites : ℕ) (block : BlockLines) → IfOk absent (AreTypes sites)
    → IfOk (types_or absent (Some sites) block) (AreTypes sites)
types-hold absent sites block holds =
    line_value_or-holds (AreTypes sites) absent (types_on (Some sites)) SiteTypes block.items holds
    (λ item. unless-holds (AreTypes sites) (has_other_length (Some sites) (length (arguments_of item.line))) item.line.number LIST_LENGTH
    (Ok (names_on item))
    (λ same. inr (length-map (arguments_of item.line) (on_line item.line.number) ∙ same_length (length (arguments_of item.line)) sites same)))

-- what holds of each value that is read
pub all-hold : {X Y : Type 0} (P : Y → Type 0) (read : X → Result Y LineFault) (xs : List X) → ((x : X) → IfOk (read x) P)
    → IfOk (all_of (map read xs)) (AreSo P (length xs))
all-hold P read [] holds = (refl, tt)
all-hold P read (x ∷ xs) holds =
    let first = read x in
    let rest = all_of (map read xs) in
    value_map-holds (AreSo P (length (x ∷ xs))) (λ found. found.0 ∷ found.1) (both first rest)
    (IfOk-weaker (both first rest) (λ found. P found.0 × AreSo P (length xs) found.1) _ (λ found so. (ap suc so.1.0, (so.0, so.1.1)))
    (both-holds P (AreSo P (length xs)) first rest (holds x) (all-hold P read xs holds)))

-- what holds of each value
pub any-holds : {X F : Type 0} (r : Result X F) → IfOk r (λ _. Unit {0})
any-holds (Ok x) = tt
any-holds (Err f) = tt

-- a fault of the number of sites leaves nothing
pub without_sites : {X : Type 0} (sites : Result ℕ LineFault) (f : LineFault) (r : Result X LineFault) → sites ≡ Err f → IfOk (both sites r) (λ _. ⊥)
without_sites (Ok n) f r is = absurd (cc)
without_sites (Err g) f (Ok x) is = tt
without_sites (Err g) f (Err h) is = tt

-- what holds of the members of two lists
pub all_append : {X : Type 0} (P : X → Type 0) (xs ys : List X) → AllByRecursion P xs → AllByRecursion P ys → AllByRecursion P (xs ++ ys)
all_append P [] ys all more = more
all_append P (x ∷ xs) ys all more = (all.0, all_append P xs ys all.1 more)

-- a count is not past a limit
pub not_more : (count most : ℕ) → nat_lt most count ≡ false → count ≤ most
not_more count most none = grind (arith, nat_tests)
