-- the texts of a list that are short, by their places
use Rattle.std.proofs.Common.{ℕ, zero, suc, List, [], ◌∷◌}
use Rattle.std.proofs.lemmas.List.Elements.{recursion_from_All}
use Rattle.std.specs.List.{All, AllByRecursion}
use Rattle.deck_join.specs.Texts.{IsShort, text_at}
use Rattle.deck_join.specs.declared.text.Text.{Text}
use Rattle.kmc_base.specs.declared.ids.FileId.{FileId}

short_in : (texts : List (FileId × Text)) (place : ℕ) → AllByRecursion (λ text. IsShort text.1) texts → IsShort (text_at place texts)
short_in [] place all = tt
short_in (text ∷ texts) zero all = all.0
short_in (text ∷ texts) (suc place) all = short_in texts place all.1

pub short_at : (texts : List (FileId × Text)) (place : ℕ) → All (λ text. IsShort text.1) texts → IsShort (text_at place texts)
short_at texts place all = short_in texts place (recursion_from_All (λ text. IsShort text.1) texts all)
