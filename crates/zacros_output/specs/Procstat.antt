-- The layout of procstat_output.txt: how often each process has fired. Processes are numbered from 1, samples from 0.
use Rattle.std.specs.Prelude.{ℕ, ◌+◌, List, [], ◌∷◌, ◌++◌, codes}
use Rattle.std.specs.Fmt.{decimal}
use Rattle.std.specs.List.{enumerate_from, flat_map}
use Rattle.deck.specs.declared.deck.Deck.{Deck}
use Rattle.zacros_output.specs.Shown.{Shown}
use Rattle.zacros_output.specs.Words.{next_counts, next_word, sample_start}

-- the line of a process: its number and its name
abbrev pub process_line : ℕ → List ℕ → List ℕ
process_line number name = codes "process" ++ next_word (decimal number) ++ next_word name ++ codes "\n"

-- a line for each process
abbrev pub process_lines : List (List ℕ) → List ℕ
process_lines names = flat_map (λ process. process_line process.0 process.1) (enumerate_from 1 names)

-- the head
unfoldable pub procstat_head : Deck → List ℕ
procstat_head deck = codes "procstat 1\n" ++ process_lines deck.process_names

-- a sample: how often each process has fired
unfoldable pub procstat_piece : ℕ → Shown → List ℕ
procstat_piece sample s =
    sample_start (codes "sample") sample s.event s.time ++ codes "\ncounts" ++ next_counts s.counts ++ codes "\n"
