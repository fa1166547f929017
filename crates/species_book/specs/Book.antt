-- The book of the species of a deck.
use Rattle.std.specs.Prelude.{◌≡◌, ◌≤◌, ◌&&◌, ℕ, Bool, true, not, IsTrue, Option, List, [], ◌∷◌, length, map}
use Rattle.std.specs.List.{list_any, position_from}
use Rattle.std.specs.Str.{bytes_eq}
use Rattle.std.specs.Global.{Vec}
use Rattle.kmc_base.specs.declared.ids.SpeciesId.{SpeciesId}
use Rattle.kmc_base.specs.declared.limits.TheConstants.{MAX_SPECIES}

-- the species of a deck: the names of gas species and of surface species, and how many dentates (sites that one
-- adsorbate occupies) each of the latter has
pub record Book : Type 0 where
  pub gas : List (List ℕ)
  pub surface : List (List ℕ)
  pub dentates : List ℕ

-- names, as their bytes
abbrev pub names_of : List (Vec ℕ) → List (List ℕ)
names_of names = map (λ name. name.items) names

-- whether no name is there twice
abbrev pub are_distinct : List (List ℕ) → Bool
are_distinct [] = true
are_distinct (n ∷ ns) = not (list_any (λ m. bytes_eq n m) ns) && are_distinct ns

-- the place of a name in a list, from 0
abbrev pub place_of : List (List ℕ) → List ℕ → Option ℕ
place_of names name = position_from (λ n. bytes_eq n name) 0 names

-- the surface species at a place
abbrev pub species : ℕ → SpeciesId
species place = record { 0 = place }

-- What every book keeps: names differ in each list, no list has more than MAX_SPECIES, and each surface species has
-- its number of dentates.
pub record IsBook (b : Book) : Type 0 where
  pub gas_differ : IsTrue (are_distinct b.gas)
  pub surface_differ : IsTrue (are_distinct b.surface)
  pub gas_few : length b.gas ≤ MAX_SPECIES
  pub surface_few : length b.surface ≤ MAX_SPECIES
  pub dentates_match : length b.dentates ≡ length b.surface
