-- How many adsorbates of each surface species are on a lattice.
use Rattle.std.specs.Prelude.{ℕ, ◌==◌, ◌&&◌, Bool, false, List, map, count_by, length}
use Rattle.std.specs.List.{range_with_len}
use Rattle.kmc_base.specs.declared.ids.SpeciesId.{SpeciesId}
use Rattle.lattice_core.specs.declared.state.State.{State}
use Rattle.lattice_core.specs.declared.state.State.TheVariants.{Vacant, Holds}
use Rattle.species_book.specs.Book.{Book, species}

-- dentate 1 of an adsorbate of a species is on a site: as many sites have it as there are adsorbates of the species
abbrev pub is_home_of : SpeciesId → State → Bool
is_home_of species Vacant = false
is_home_of species (Holds held dentate home) = held.0 == species.0 && dentate == 1

-- how many adsorbates of the species at a place of the book there are
abbrev pub count_of : List State → ℕ → ℕ
count_of states place = count_by (is_home_of (species place)) states

-- how many there are of each surface species of a book
abbrev pub adsorbates : Book → List State → List ℕ
adsorbates book states = map (count_of states) (range_with_len 0 (length book.surface))
