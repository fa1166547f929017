-- The numbers of adsorbates of the species, one after another.
use Rattle.std.proofs.Common.{◌≡◌, ℕ, ◌+◌, ◌*◌, ◌==◌, List, map, length, count_by, ◌∙◌}
use Rattle.std.specs.List.{range_with_len}
use Rattle.deck.specs.Soundness.{IsSound, dentates_in}
use Rattle.deck.specs.declared.deck.Deck.{Deck}
use Rattle.zacros_output.proofs.AdsorbateCounts.{counted, dentates-few}
use Rattle.zacros_output.specs.Adsorbates.{adsorbates}
use Rattle.lattice_core.specs.Config.{IsWellFormed, class_of}
use Rattle.lattice_core.specs.declared.state.State.{State}
use Rattle.species_book.specs.Book.{species}

-- for each of so many species, how many of some sites have the class of its dentate 1
abbrev pub homes_of : List ℕ → ℕ → List ℕ
homes_of classes n = map (λ place. count_by (λ other. other == place * 8 + 1) classes) (range_with_len 0 n)

-- these are the numbers of adsorbates of the species of a sound deck
pub homes_are : (deck : Deck) (classes : List ℕ) (states : List State) (n : ℕ) → IsSound deck → IsWellFormed (dentates_in deck.book) states
    → classes ≡ map class_of states → n ≡ length deck.book.surface → homes_of classes n ≡ adsorbates deck.book states
homes_are deck classes states n sound formed are all =
    (λ i. homes_of (are i) (all i))
    ∙ (λ i. map (λ (place : ℕ). counted (dentates_in deck.book) (species place) states (dentates-few deck sound) formed i)
    (range_with_len 0 (length deck.book.surface)))
