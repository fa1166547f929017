-- What is on the screen when the program ends.
use Rattle.std.specs.Prelude.{◌≡◌, ◌⊎◌, ℕ, ◌-◌, List, [], ◌++◌, Option, IfOk, codes, get_or, length}
use Rattle.std.specs.Fmt.{decimal}
use Rattle.std.specs.Option.{option_map_or}
use Rattle.command_line.specs.declared.line.Mode.{Mode}
use Rattle.command_line.specs.declared.line.Mode.TheVariants.{Run, Check, Sample}
use Rattle.deck.specs.declared.deck.Deck.{Deck}
use Rattle.kmc_base.specs.Files.{Files}
use Rattle.kmc_core.specs.DeckSystem.{trajectory_of}
use Rattle.kmc_core.specs.Run.{stop_of}
use Rattle.kmc_run.specs.Answers.{OfDeck}
use Rattle.kmc_run.specs.Samples.{events_from, shown_at, time_of}
use Rattle.kmc_run.specs.declared.status.Status.{Status}
use Rattle.kmc_run.specs.declared.status.Status.TheVariants.{Done, BadWords, Refused, ReadFault, WriteFault, ScreenFault, OutOfMemory}
use Rattle.lattice_core.specs.Lattice.{site_count}
use Rattle.screen_text.specs.Printing.{ScreenState, TookAll, TookFront}
use Rattle.screen_text.specs.Texts.{deck_text, fault_text, no_memory_text, unread_text, unwritten_text, usage_text}
use Rattle.zacros_output.specs.Summary.{done_line, summary_text}

-- the last event of a run
abbrev pub last_event : Deck → ℕ
last_event deck = get_or (events_from deck 0) (length (events_from deck 0) - 1) 0

-- the line of a run: how many events there were, the time of the last one, and why the run stops there
abbrev pub run_text : Deck → List ℕ
run_text deck = option_map_or (λ stop. done_line (last_event deck) (time_of deck (last_event deck)) stop) (stop_of deck (last_event deck)) []

-- the first line of the text of a made deck
abbrev pub sample_line : ℕ → List ℕ
sample_line number = codes "sample " ++ decimal number ++ codes "\n"

-- the text of a made deck: its number, and the summary of its run
abbrev pub sample_text : ℕ → Deck → List ℕ
sample_text number deck =
    option_map_or (λ stop. option_map_or (λ s. sample_line number ++ summary_text deck (shown_at deck (last_event deck) s.time s) stop)
    (trajectory_of deck (last_event deck)) []) (stop_of deck (last_event deck)) []

-- the text of a command that has done all, of a deck
abbrev pub done_text : Mode → Deck → List ℕ
done_text Run deck = run_text deck
done_text Check deck = deck_text (site_count deck.chem.graph) (length deck.chem.processes) (length deck.chem.clusters)
done_text (Sample number) deck = sample_text number deck

-- the text of a status, by the text of what was done
abbrev pub text_of : List ℕ → Status → List ℕ
text_of done Done = done
text_of done ScreenFault = done
text_of done BadWords = usage_text
text_of done (Refused fault) = fault_text fault.file fault.line fault.kind
text_of done (ReadFault file) = unread_text file
text_of done (WriteFault out) = unwritten_text out
text_of done OutOfMemory = no_memory_text

-- the screen took all of a text, or it failed and took a front of it
abbrev pub TookOrFailed : List ℕ → ScreenState → ScreenState → Type 0
TookOrFailed text before after = TookAll text before after ⊎ TookFront text before after

-- What a status says of the screen. Done: it took all of the text. ScreenFault: it failed. Any other status stays what it is
-- where the screen fails.
abbrev pub Shows : Status → List ℕ → ScreenState → ScreenState → Type 0
Shows Done text before after = TookAll text before after
Shows ScreenFault text before after = TookFront text before after
Shows status text before after = TookOrFailed text before after

-- all was done, and the screen took its text or failed
abbrev pub EndsWell : Status → Type 0
EndsWell Done = Unit {0}
EndsWell ScreenFault = Unit {0}
EndsWell status = ⊥

-- the text of what was done is that of the deck that the command is of, as far as it is known
abbrev pub IsDoneText : Mode → Option Files → List ℕ → Type 0
IsDoneText mode files done = OfDeck mode files (λ given. IfOk given (λ deck. done ≡ done_text mode deck))

-- What is on the screen when a command has ended.
pub record Shown (mode : Mode) (files : Option Files) (status : Status) (before after : ScreenState) : Type 0 where
  pub done : List ℕ
  pub of_deck : IsDoneText mode files done
  pub shows : Shows status (text_of done status) before after
