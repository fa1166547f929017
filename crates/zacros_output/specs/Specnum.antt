-- The layout of specnum_output.txt: the numbers of adsorbates and of gas molecules. Samples are numbered from 0.
use Rattle.std.specs.Prelude.{ℕ, List, [], ◌∷◌, ◌++◌, codes}
use Rattle.std.specs.Fmt.{decimal}
use Rattle.deck.specs.declared.deck.Deck.{Deck}
use Rattle.zacros_output.specs.Adsorbates.{adsorbates}
use Rattle.zacros_output.specs.Shown.{Shown}
use Rattle.zacros_output.specs.Words.{energy_text, next_counts, next_names, next_numbers, next_word, temperature_text, time_text}

-- the head, with the names of the surface species and of the gas species
unfoldable pub specnum_head : Deck → List ℕ
specnum_head deck =
    codes "specnum 1\ncolumns sample event time temperature energy" ++ next_names deck.book.surface
    ++ next_names deck.book.gas ++ codes "\n"

-- a sample: its number, the event, the time, the temperature, the energy, how many adsorbates of each surface species
-- there are, and the numbers of gas molecules
unfoldable pub specnum_piece : Deck → ℕ → Shown → List ℕ
specnum_piece deck sample s =
    decimal sample ++ next_word (decimal s.event) ++ next_word (time_text s.time)
    ++ next_word (temperature_text deck.chem.temperature) ++ next_word (energy_text s.energy)
    ++ next_counts (adsorbates deck.book s.states) ++ next_numbers s.gas ++ codes "\n"
