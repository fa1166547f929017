-- The species of an occupied site has a name.
use Rattle.std.proofs.Common.{◌≡◌, ℕ, ◌≤◌, ◌<◌, List, length, inl, inr, refl, arith, subst}
use Rattle.std.proofs.Math.ListN.{get_or-eq_default}
use Rattle.std.proofs.lemmas.Bool.{cases_lt}
use Rattle.deck.specs.Soundness.{dentates_in}
use Rattle.lattice_core.specs.Config.{IsWellFormed, state_at}
use Rattle.lattice_core.specs.declared.state.State.{State}
use Rattle.lattice_core.specs.declared.state.State.TheVariants.{Vacant, Holds}
use Rattle.species_book.specs.Book.{Book}
use Rattle.zacros_output.specs.History.{IsNamed}

-- what has a dentate is a species of the book
is-species : (book : Book) (species dentate : ℕ) → 1 ≤ dentate → dentate ≤ dentates_in book species → species < length book.dentates
is-species book species dentate one within =
    elim (cases_lt species (length book.dentates)) [
      | inl below ↦ below
      | inr past ↦ absurd (omega (arith, get_or-eq_default book.dentates 0 past))
    ]

-- so each state of a well-formed configuration has a name
pub named-at : (book : Book) (states : List State) → IsWellFormed (dentates_in book) states → length book.dentates ≡ length book.surface
    → (k : ℕ) → IsNamed book.surface (state_at states k)
named-at book states formed match k =
    elim (state_at states k) as (λ state. state_at states k ≡ state → IsNamed book.surface state) [
      | Vacant ↦ λ is. tt
      | Holds species dentate home ↦ λ is.
          let one = (formed k species.0 dentate home.0 is).one_species k species.0 dentate is in
          let below = is-species book species.0 dentate one.1 one.2 in
          omega (arith, below, match)
    ] refl
