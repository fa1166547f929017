-- How words and numbers are printed in the outputs. Words are separated by one space, and each line ends with LF.
use Rattle.std.specs.Prelude.{ℕ, ℤ, List, [], ◌∷◌, ◌++◌, codes, pos}
use Rattle.std.specs.Fmt.{decimal, signed_decimal}
use Rattle.std.specs.List.{flat_map}
use Rattle.dec_text.specs.Fixed.{fixed_text}

-- a word that follows another on its line, after a space (32)
abbrev pub next_word : List ℕ → List ℕ
next_word word = 32 ∷ word

-- names, counts, and numbers of either sign, that follow on a line; where there is none, nothing follows
abbrev pub next_names : List (List ℕ) → List ℕ
next_names names = flat_map next_word names

abbrev pub next_counts : List ℕ → List ℕ
next_counts counts = flat_map (λ count. next_word (decimal count)) counts

abbrev pub next_numbers : List ℤ → List ℕ
next_numbers numbers = flat_map (λ number. next_word (signed_decimal number)) numbers

-- a time, given in attoseconds, in seconds with 18 decimals
abbrev pub time_text : ℕ → List ℕ
time_text time = fixed_text (pos time) 18

-- an energy, given in neV, in eV with 9 decimals
abbrev pub energy_text : ℤ → List ℕ
energy_text energy = fixed_text energy 9

-- a temperature, given in mK, in K with 3 decimals
abbrev pub temperature_text : ℕ → List ℕ
temperature_text temperature = fixed_text (pos temperature) 3

-- the start of the first line of a sample: a word, the number of the sample, the event and the time
unfoldable pub sample_start : List ℕ → ℕ → ℕ → ℕ → List ℕ
sample_start word sample event time =
    word ++ next_word (decimal sample) ++ codes " event" ++ next_word (decimal event) ++ codes " time " ++ time_text time
