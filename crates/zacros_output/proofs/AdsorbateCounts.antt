-- Adsorbates are counted by the classes of the sites.
use Rattle.std.proofs.Common.{◌≡◌, ℕ, ◌+◌, ◌*◌, ◌≤◌, ◌==◌, Bool, List, [], ◌∷◌, length, map, cond, count_by, fold, inl, inr, refl, ap}
use Rattle.std.proofs.Common.{◌∙◌, subst, arith}
use Rattle.std.proofs.Math.ListN.{get_or-eq_default}
use Rattle.std.proofs.lemmas.Bool.{cases_lt, ne_eqb}
use Rattle.std.proofs.lemmas.Bool.Decides.{nat_tests}
use Rattle.std.proofs.lemmas.List.{get_or_default}
use Rattle.std.proofs.lemmas.List.Elements.{recursion_from_All}
use Rattle.std.specs.List.{AllByRecursion}
use Rattle.deck.specs.Soundness.{IsSound, dentates_in}
use Rattle.deck.specs.declared.deck.Deck.{Deck}
use Rattle.kmc_base.specs.declared.ids.SpeciesId.{SpeciesId}
use Rattle.zacros_output.specs.Adsorbates.{is_home_of}
use Rattle.lattice_core.specs.Config.{IsWellFormed, class_of, state_at}
use Rattle.lattice_core.specs.declared.state.State.{State}
use Rattle.lattice_core.specs.declared.state.State.TheVariants.{Vacant, Holds}

-- the class of a site where dentate 1 of an adsorbate of a species is
abbrev pub home_class : SpeciesId → ℕ
home_class species = species.0 * 8 + 1

-- a dentate on a site is one of eight
abbrev pub HasDentate : State → Type 0
HasDentate Vacant = Unit {0}
HasDentate (Holds species dentate home) = (1 ≤ dentate) × (dentate ≤ 8)

-- so the class says whether it is dentate 1 of the species
class-home : (species : SpeciesId) (state : State) → HasDentate state → (class_of state == home_class species) ≡ is_home_of species state
class-home species Vacant has = ne_eqb 0 (home_class species) (λ e. absurd (omega (arith, e)))
class-home species (Holds other dentate home) has = grind (arith, nat_tests)

count-homes : (species : SpeciesId) (n : ℕ) (states : List State) → AllByRecursion HasDentate states →
    fold (λ a class. a + cond (class == home_class species) 1 0) n (map class_of states)
    ≡ fold (λ a state. a + cond (is_home_of species state) 1 0) n states
count-homes species n [] has = refl
count-homes species n (state ∷ states) has =
    ap (λ (b : Bool). fold (λ a class. a + cond (class == home_class species) 1 0) (n + cond b 1 0)
    (map class_of states)) (class-home species state has.0)
    ∙ count-homes species (n + cond (is_home_of species state) 1 0) states has.1

-- each dentate of a well-formed configuration is one of eight, if no species has more
dentate-at : (dentates : ℕ → ℕ) (states : List State) → ((s : ℕ) → dentates s ≤ 8) → IsWellFormed dentates states
    → (k : ℕ) → HasDentate (state_at states k)
dentate-at dentates states few formed k =
    elim (state_at states k) as (λ state. state_at states k ≡ state → HasDentate state) [
      | Vacant ↦ λ is. tt
      | Holds species dentate home ↦ λ is.
          let one = (formed k species.0 dentate home.0 is).one_species k species.0 dentate is in
          (one.1, omega (arith, one.2, few species.0))
    ] refl

pub counted : (dentates : ℕ → ℕ) (species : SpeciesId) (states : List State) → ((s : ℕ) → dentates s ≤ 8) → IsWellFormed dentates states →
    count_by (λ class. class == home_class species) (map class_of states) ≡ count_by (is_home_of species) states
counted dentates species states few formed =
    count-homes species 0 states
    (recursion_from_All HasDentate states
    (λ k d within. subst HasDentate (get_or_default states k Vacant d within)
    (dentate-at dentates states few formed k)))

-- no species of a sound deck has more than eight dentates
pub dentates-few : (deck : Deck) → IsSound deck → (species : ℕ) → dentates_in deck.book species ≤ 8
dentates-few deck sound species =
    elim (cases_lt species (length deck.book.dentates)) [
      | inl within ↦ (sound.dentates species 0 within).1
      | inr past ↦ omega (arith, get_or-eq_default deck.book.dentates 0 past)
    ]
