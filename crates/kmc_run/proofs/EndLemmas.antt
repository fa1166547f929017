-- What is on the screen, and what a run leaves, when the program ends.
use Rattle.std.proofs.Common.{◌≡◌, inl, inr, refl, ℕ, ◌-◌, List, [], ◌∷◌, ◌++◌, Option, None, Some, Result, Ok, Err, IfOk, IfSome, sym, ap, ◌∙◌, subst, get_or, length, rules}
use Rattle.std.specs.Option.{IsSomeAnd, option_map_or}
use Rattle.std.proofs.Math.Seq.{get_or-append_seam}
use Rattle.std.proofs.lemmas.List.{append-nil, length-append}
use Rattle.command_line.specs.declared.line.CommandLine.{CommandLine}
use Rattle.command_line.specs.declared.line.Mode.{Mode}
use Rattle.command_line.specs.declared.line.Mode.TheVariants.{Run, Check, Sample}
use Rattle.deck.specs.declared.deck.Deck.{Deck}
use Rattle.deck_join.specs.Decks.{deck_of_files}
use Rattle.deck_shape.specs.declared.fault.Fault.{Fault}
use Rattle.kmc_base.specs.Files.{Files}
use Rattle.kmc_base.specs.Outs.{Outs}
use Rattle.kmc_core.specs.DeckSystem.{DeckState, trajectory_of}
use Rattle.kmc_core.specs.Run.{stop_of}
use Rattle.kmc_report.specs.declared.stop.Stop.{Stop}
use Rattle.kmc_run.proofs.SampleLemmas.{time_is}
use Rattle.kmc_run.proofs.WriteLemmas.{done_ended, ended_none}
use Rattle.kmc_run.specs.Answers.{IsFailure, Leaves, MayAnswer, OfDeck}
use Rattle.kmc_run.specs.Ends.{IsDoneText, Shown, Shows, TookOrFailed, done_text, last_event, run_text, sample_line, sample_text, text_of}
use Rattle.kmc_run.specs.MadeFiles.{made_folder}
use Rattle.kmc_run.specs.Samples.{events_from, run_writes, shown_at, time_of}
use Rattle.kmc_run.specs.Summaries.{IsSummary}
use Rattle.kmc_run.specs.Writes as writing
use Rattle.kmc_run.specs.Writes.{Write}
use Rattle.kmc_run.specs.declared.drive_fault.DriveFault.TheVariants.{OutOfMemory as NoMemory}
use Rattle.kmc_run.specs.declared.status.Status.{Status}
use Rattle.kmc_run.specs.declared.status.Status.TheVariants.{Done, BadWords, Refused, ReadFault, WriteFault, ScreenFault, OutOfMemory}
use Rattle.kmc_run.specs.declared.summary.Summary.{Summary}
use Rattle.screen_text.specs.Printing.{Printed, ScreenState}
use Rattle.trajectory.specs.Trajectory.{Snapshot}
use Rattle.zacros_output.specs.Shown.{Shown as ViewShown}
use Rattle.zacros_output.specs.Summary.{done_line, summary_text}

-- the last member of a list
last_is : (all es : List ℕ) (n : ℕ) → all ≡ es ++ n ∷ [] → get_or all (length all - 1) 0 ≡ n
last_is all es n is =
    let long : length (es ++ n ∷ []) - 1 ≡ length es = ap (λ k. k - 1) (length-append es (n ∷ [])) ∙ search rules in
    subst (λ (l : List ℕ). get_or l (length l - 1) 0 ≡ n) (sym is) (ap (λ k. get_or (es ++ n ∷ []) k 0) long ∙ get_or-append_seam es n [] 0)

-- the line of a run, at a stop that is known
line_is : (events time : ℕ) (stop : Stop) (given : Option Stop) → given ≡ Some stop
    → option_map_or (λ s. done_line events time s) given [] ≡ done_line events time stop
line_is events time stop given is = ap (λ o. option_map_or (λ s. done_line events time s) o []) is

-- the line of a run is that of its summary
pub run_text_is : (deck : Deck) (summary : Summary) → IsSummary deck summary → run_text deck ≡ done_line summary.events summary.time summary.stop
run_text_is deck summary is =
    let last : last_event deck ≡ summary.events = last_is (events_from deck 0) is.last.0 summary.events is.last.1 in
    let time : time_of deck summary.events ≡ summary.time = sym (time_is (trajectory_of deck summary.events) summary.time is.time) in
    ap (λ n. option_map_or (λ s. done_line n (time_of deck n) s) (stop_of deck n) []) last
    ∙ line_is summary.events (time_of deck summary.events) summary.stop (stop_of deck summary.events) is.stop
    ∙ ap (λ t. done_line summary.events t summary.stop) time

is_text_of : (mode : Mode) (r : Result Deck Fault) (deck : Deck) (text : List ℕ) → r ≡ Ok deck → text ≡ done_text mode deck
    → IfOk r (λ d. text ≡ done_text mode d)
is_text_of mode r deck text given is = subst (λ (r : Result Deck Fault). IfOk r (λ d. text ≡ done_text mode d)) (sym given) is

-- a text is that of the deck of a command
pub is_done_text : (mode : Mode) (files : Option Files) (deck : Deck) (text : List ℕ) → OfDeck mode files (λ given. given ≡ Ok deck)
    → text ≡ done_text mode deck → IsDoneText mode files text
is_done_text Run None deck text given is = tt
is_done_text Run (Some told) deck text given is = is_text_of Run (deck_of_files told) deck text given is
is_done_text Check None deck text given is = tt
is_done_text Check (Some told) deck text given is = is_text_of Check (deck_of_files told) deck text given is
is_done_text (Sample number) files deck text given is = is_text_of (Sample number) (deck_of_files (made_folder number)) deck text given is

told_is : (text : Snapshot DeckState → List ℕ) (t : List ℕ) (o : Option (Snapshot DeckState)) → IsSomeAnd o (λ s. t ≡ text s)
    → t ≡ option_map_or text o []
told_is text t None is = absurd is
told_is text t (Some s) is = is

-- the text of a made deck, by what was read from its run
pub summary_is : (number : ℕ) (read deck : Deck) (event time : ℕ) (stop : Stop) (view : ℕ → ViewShown) (head text : List ℕ) (o : Option (Snapshot DeckState))
    → read ≡ deck → IsSomeAnd o (λ s. time ≡ s.time) → IsSomeAnd o (λ s. (t : ℕ) → view t ≡ shown_at deck event t s) → head ≡ sample_line number
    → text ≡ head ++ summary_text read (view time) stop
    → IsSomeAnd o (λ s. text ≡ sample_line number ++ summary_text deck (shown_at deck event s.time s) stop)
summary_is number read deck event time stop view head text None same t v first is = absurd t
summary_is number read deck event time stop view head text (Some s) same t v first is =
    is ∙ (λ i. first i ++ summary_text (same i) ((v time ∙ ap (λ u. shown_at deck event u s) t) i) stop)

-- the text of a made deck, by its last event and why it stops there
pub sample_text_is : (number : ℕ) (deck : Deck) (last : Deck) (event : ℕ) (stop : Stop) (text : List ℕ) → last ≡ deck
    → (es : List ℕ) × (events_from deck 0 ≡ es ++ event ∷ []) → stop_of deck event ≡ Some stop
    → IsSomeAnd (trajectory_of last event) (λ s. text ≡ sample_line number ++ summary_text last (shown_at last event s.time s) stop)
    → text ≡ sample_text number deck
sample_text_is number deck last event stop text same es stops is =
    let at : last_event deck ≡ event = last_is (events_from deck 0) es.0 event es.1 in
    let here : IsSomeAnd (trajectory_of deck event) (λ s. text ≡ sample_line number ++ summary_text deck (shown_at deck event s.time s) stop)
    = subst (λ (d : Deck). IsSomeAnd (trajectory_of d event) (λ s. text ≡ sample_line number ++ summary_text d (shown_at d event s.time s) stop)) same is in
    let told : text ≡ option_map_or (λ s. sample_line number ++ summary_text deck (shown_at deck event s.time s) stop) (trajectory_of deck event) []
    = told_is (λ s. sample_line number ++ summary_text deck (shown_at deck event s.time s) stop) text (trajectory_of deck event) here in
    told
    ∙ sym (ap (λ o. option_map_or (λ r. option_map_or (λ s. sample_line number ++ summary_text deck (shown_at deck event s.time s) r)
    (trajectory_of deck event) []) o []) stops)
    ∙ ap (λ n. option_map_or (λ r. option_map_or (λ s. sample_line number ++ summary_text deck (shown_at deck n s.time s) r)
    (trajectory_of deck n) []) (stop_of deck n) []) (sym at)

-- all writes were done, and then memory ran out
ended_all : (writes : List Write) (x z : Option Outs) → writing.Done writes x z → writing.Ended writes NoMemory x z
ended_all writes x z p =
    subst (λ (ws : List Write). writing.Ended ws NoMemory x z) (append-nil writes) (done_ended writes [] NoMemory x z z p (ended_none [] z))

pub leaves_all : (files : Option Files) (deck : Deck) (x z : Option Outs) → IfSome files (λ told. deck_of_files told ≡ Ok deck)
    → writing.Done (run_writes deck) x z → IfSome files (λ told. Leaves Run (deck_of_files told) OutOfMemory x z)
leaves_all None deck x z given p = tt
leaves_all (Some told) deck x z given p =
    subst (λ (r : Result Deck Fault). Leaves Run r OutOfMemory x z) (sym given) (ended_all (run_writes deck) x z p)

-- memory may run out in any command
pub may_run_out : (mode : Mode) (given : Result Deck Fault) → MayAnswer mode given OutOfMemory
may_run_out Run (Ok deck) = tt
may_run_out Run (Err first) = tt
may_run_out Check (Ok deck) = tt
may_run_out Check (Err first) = tt
may_run_out (Sample number) (Ok deck) = tt
may_run_out (Sample number) (Err first) = tt

-- what printing leaves, whether or not the screen failed
pub told_or_failed : {X Y : Type 0} (text : List ℕ) (r : Result X Y) (x y : ScreenState) → Printed text r x y → TookOrFailed text x y
told_or_failed text (Ok u) x y p = inl p
told_or_failed text (Err e) x y p = inr p

-- there is a text of what is done, whatever the files give
text_of_result : (mode : Mode) (r : Result Deck Fault) → (done : List ℕ) × IfOk r (λ deck. done ≡ done_text mode deck)
text_of_result mode (Ok deck) = (done_text mode deck, refl)
text_of_result mode (Err fault) = ([], tt)

text_of_files : (mode : Mode) (files : Option Files) → (done : List ℕ) × IsDoneText mode files done
text_of_files Run None = ([], tt)
text_of_files Run (Some told) = text_of_result Run (deck_of_files told)
text_of_files Check None = ([], tt)
text_of_files Check (Some told) = text_of_result Check (deck_of_files told)
text_of_files (Sample number) files = text_of_result (Sample number) (deck_of_files (made_folder number))

-- the text of a failure does not speak of what was done
shows_failure : (done : List ℕ) (status : Status) (x y : ScreenState) → IsFailure status → TookOrFailed (text_of [] status) x y
    → Shows status (text_of done status) x y
shows_failure done Done x y fails p = absurd fails
shows_failure done ScreenFault x y fails p = absurd fails
shows_failure done BadWords x y fails p = p
shows_failure done (Refused fault) x y fails p = p
shows_failure done (ReadFault file) x y fails p = p
shows_failure done (WriteFault out) x y fails p = p
shows_failure done OutOfMemory x y fails p = p

-- what is on the screen after a failure, of any command
pub shown_failure : (line : Option CommandLine) (files : Option Files) (status : Status) (x y : ScreenState) → IsFailure status
    → TookOrFailed (text_of [] status) x y → IfSome line (λ l. Shown l.mode files status x y)
shown_failure None files status x y fails p = tt
shown_failure (Some l) files status x y fails p =
    let text = text_of_files l.mode files in
    record { done = text.0; of_deck = text.1; shows = shows_failure text.0 status x y fails p }
