-- The number of the deck that is to be made.
use Rattle.std.proofs.Common.{◌≡◌, ◌≤◌, ℕ, Bool, true, false, refl, subst, codes, Option, Some, None}
use Rattle.std.specs.Prelude.{IfSome, if◌then◌else◌, option_and_then}
use Rattle.std.specs.Option.{ForSome}
use Rattle.std.specs.Str.{bytes_eq}
use Rattle.clap.specs.Matches.{one_text}
use Rattle.clap.specs.Values.{IsUnsignedIn}
use Rattle.clap.specs.Walk.{Text, first_of, rows_of}
use Rattle.clap.specs.declared.parser.matches.Found.{Found}
use Rattle.clap.proofs.WalkLemmas.{one_text-rows}
use Rattle.command_line.proofs.Numbers.{number_of_text}
use Rattle.command_line.specs.Grammar.{MayMake, mode_in, mode_of, number_in}
use Rattle.command_line.specs.declared.line.Mode.{Mode}
use Rattle.command_line.specs.declared.line.Mode.TheVariants.{Check, Run, Sample}
use Rattle.deck_maker.specs.declared.decks.TheConstants.{MAX_DECK}

abbrev IsDeck : ℕ → Type 0
IsDeck n = n ≤ MAX_DECK

mode_of_may : (word : Text) (number : Option ℕ) → IfSome number IsDeck → IfSome (mode_of word number) MayMake
mode_of_may word None deck = go (bytes_eq word (codes "run")) (bytes_eq word (codes "check"))
  where
    go : (run check : Bool) → IfSome (if run then Some Run else (if check then Some Check else None)) MayMake
    go true check = tt
    go false true = tt
    go false false = tt
mode_of_may word (Some n) deck = go (bytes_eq word (codes "sample"))
  where
    go : (sample : Bool) → IfSome (if sample then Some (Sample n) else None) MayMake
    go true = deck
    go false = tt

mode_may : (word : Option Text) (number : Option ℕ) → IfSome number IsDeck → IfSome (option_and_then (λ w. mode_of w number) word) MayMake
mode_may None number deck = tt
mode_may (Some word) number deck = mode_of_may word number deck

number_is_deck : (f : Found) → ForSome (one_text f (codes "number")) (λ t. IsUnsignedIn 0 MAX_DECK t) → IfSome (number_in (codes "number") (rows_of f)) IsDeck
number_is_deck f fits = go (one_text f (codes "number")) refl
  where
    go : (x : Option Text) → one_text f (codes "number") ≡ x → IfSome (number_in (codes "number") (rows_of f)) IsDeck
    go None e = rw (← one_text-rows f (codes "number"), e) tt
    go (Some t) e = rw (number_of_text f (codes "number") t e) (fits t e).3

-- where the matches have a number only in its range, so has the mode
pub mode_within : (f : Found) (mode : Mode) → ForSome (one_text f (codes "number")) (λ t. IsUnsignedIn 0 MAX_DECK t) → mode_in (rows_of f) ≡ Some mode → MayMake mode
mode_within f mode fits is =
    subst (λ (o : Option Mode). IfSome o MayMake) is
    (mode_may (first_of (codes "mode") (rows_of f)) (number_in (codes "number") (rows_of f)) (number_is_deck f fits))
