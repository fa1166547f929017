-- The layout of history_output.txt: what is on the sites. Sites and homes are numbered from 1, samples from 0.
use Rattle.std.specs.Prelude.{ℕ, ℤ, ◌+◌, ◌<◌, List, [], ◌∷◌, ◌++◌, codes, length, slice_index_or}
use Rattle.std.specs.Fmt.{decimal}
use Rattle.std.specs.List.{enumerate_from, flat_map}
use Rattle.deck.specs.declared.deck.Deck.{Deck}
use Rattle.lattice_core.specs.Lattice.{site_count}
use Rattle.lattice_core.specs.declared.state.State.{State}
use Rattle.lattice_core.specs.declared.state.State.TheVariants.{Vacant, Holds}
use Rattle.zacros_output.specs.Shown.{Shown}
use Rattle.zacros_output.specs.Words.{energy_text, next_names, next_numbers, next_word, sample_start}

-- the head: how many sites there are, and the names of the surface species and of the gas species (LF is 10)
unfoldable pub history_head : Deck → List ℕ
history_head deck =
    codes "history 1\nsites " ++ decimal (site_count deck.chem.graph)
    ++ codes "\nsurface" ++ next_names deck.book.surface ++ codes "\ngas" ++ next_names deck.book.gas ++ codes "\n"

-- the species of an occupied site is one of these names
abbrev pub IsNamed : List (List ℕ) → State → Type 0
IsNamed names Vacant = Unit {0}
IsNamed names (Holds species dentate home) = species.0 < length names

-- the line of an occupied site: its number, the name of the species, the dentate, and the site of dentate 1
abbrev pub occupied_line : List (List ℕ) → ℕ → State → List ℕ
occupied_line names site Vacant = []
occupied_line names site (Holds species dentate home) =
    decimal (site + 1) ++ next_word (slice_index_or names species.0 []) ++ next_word (decimal dentate)
    ++ next_word (decimal (home.0 + 1)) ++ codes "\n"

-- the lines of the occupied sites, in rising order
abbrev pub occupied_lines : List (List ℕ) → List State → List ℕ
occupied_lines names states = flat_map (λ site. occupied_line names site.0 site.1) (enumerate_from 0 states)

-- the numbers of gas molecules
abbrev pub gas_line : List ℤ → List ℕ
gas_line gas = codes "gas_counts" ++ next_numbers gas ++ codes "\n"

-- a sample
unfoldable pub history_piece : Deck → ℕ → Shown → List ℕ
history_piece deck sample s =
    sample_start (codes "configuration") sample s.event s.time ++ codes " energy " ++ energy_text s.energy ++ codes "\n"
    ++ occupied_lines deck.book.surface s.states ++ gas_line s.gas
