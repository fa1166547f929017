-- What the screen shows at the end of a run.
use Rattle.std.specs.Prelude.{ℕ, ℤ, List, [], ◌∷◌, ◌++◌, codes}
use Rattle.std.specs.Fmt.{decimal, signed_decimal}
use Rattle.std.specs.List.{flat_map, zip}
use Rattle.deck.specs.declared.deck.Deck.{Deck}
use Rattle.kmc_report.specs.declared.stop.Stop.{Stop}
use Rattle.kmc_report.specs.declared.stop.Stop.TheVariants.{Samples, Steps, Still, Horizon}
use Rattle.lattice_core.specs.Lattice.{site_count}
use Rattle.zacros_output.specs.Adsorbates.{adsorbates}
use Rattle.zacros_output.specs.Shown.{Shown}
use Rattle.zacros_output.specs.Words.{energy_text, next_word, time_text}

-- the word for why a run has ended
abbrev pub stop_word : Stop → List ℕ
stop_word Samples = codes "samples"
stop_word Steps = codes "steps"
stop_word Still = codes "still"
stop_word Horizon = codes "horizon"

-- the last words of a text: why the run has ended
abbrev pub stop_text : Stop → List ℕ
stop_text stop = codes "stop" ++ next_word (stop_word stop) ++ codes "\n"

-- the line after a run: the number of events, the time of the last one, and why the run has ended
unfoldable pub done_line : ℕ → ℕ → Stop → List ℕ
done_line events time stop = codes "done events" ++ next_word (decimal events) ++ codes " time " ++ time_text time ++ codes " " ++ stop_text stop

-- the line of a surface species: its name, and how many adsorbates there are
abbrev pub surface_line : List ℕ → ℕ → List ℕ
surface_line name count = codes "surface" ++ next_word name ++ next_word (decimal count) ++ codes "\n"

-- a line for each surface species
abbrev pub surface_lines : List (List ℕ) → List ℕ → List ℕ
surface_lines names counts = flat_map (λ species. surface_line species.0 species.1) (zip names counts)

-- the line of a gas species: its name, and the molecules produced less those consumed
abbrev pub gas_species_line : List ℕ → ℤ → List ℕ
gas_species_line name number = codes "gas" ++ next_word name ++ next_word (signed_decimal number) ++ codes "\n"

-- a line for each gas species
abbrev pub gas_species_lines : List (List ℕ) → List ℤ → List ℕ
gas_species_lines names numbers = flat_map (λ species. gas_species_line species.0 species.1) (zip names numbers)

-- the summary of a run: the size of the lattice, the number of events, the time of the last one, the numbers of adsorbates
-- and of gas molecules after it, the energy, and why the run has ended
unfoldable pub summary_text : Deck → Shown → Stop → List ℕ
summary_text deck s stop =
    codes "sites" ++ next_word (decimal (site_count deck.chem.graph)) ++ codes "\nevents" ++ next_word (decimal s.event)
    ++ codes "\ntime " ++ time_text s.time ++ codes "\n" ++ surface_lines deck.book.surface (adsorbates deck.book s.states)
    ++ gas_species_lines deck.book.gas s.gas ++ codes "energy " ++ energy_text s.energy ++ codes "\n" ++ stop_text stop
