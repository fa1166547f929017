-- The events of a run, passed one after another.
use Rattle.std.proofs.Common.{◌≡◌, ℕ, zero, suc, ◌+◌, ◌-◌, ◌<◌, List, [], ◌∷◌, ◌++◌, Option, None, Some, refl, sym, ap, subst, ◌∙◌, arith}
use Rattle.std.proofs.lemmas.List.{append_assoc, append-nil}
use Rattle.std.specs.List.{flat_map}
use Rattle.std.specs.Prelude.{if◌then◌else◌, is_none}
use Rattle.deck.specs.declared.deck.Deck.{Deck}
use Rattle.kmc_core.specs.Run.{stop_of}
use Rattle.kmc_report.specs.declared.stop.Stop.{Stop}
use Rattle.kmc_run.proofs.WroteLemmas.{broke_first, wrote_broke, wrote_none, wrote_some, wrote_wrote}
use Rattle.kmc_run.specs.Samples.{events_after, events_from, writes_at}
use Rattle.kmc_run.specs.Writes.{BrokeOff, FolderState, Write, WroteAll}
use Rattle.kmc_run.specs.declared.drive_fault.DriveFault.{DriveFault}
use Rattle.kmc_run.specs.declared.drive_fault.DriveFault.TheVariants.{OutOfMemory}

-- the events after one of which at most so many follow
pub later : Deck → ℕ → ℕ → List ℕ
later deck zero event = []
later deck (suc left) event = if is_none (stop_of deck event) then events_after deck left (event + 1) else []

pub first-later : (deck : Deck) (left event : ℕ) → events_after deck left event ≡ event ∷ later deck left event
unfolding later
first-later deck zero event = refl
first-later deck (suc left) event = refl

-- none follow one at which the run stops
pub later-stopped : (deck : Deck) (left event : ℕ) (stop : Stop) → stop_of deck event ≡ Some stop → later deck left event ≡ []
unfolding later
later-stopped deck zero event stop is = refl
later-stopped deck (suc left) event stop is = ap (λ s. if is_none s then events_after deck left (event + 1) else []) is

-- the next one follows one at which it does not
pub later-next : (deck : Deck) (left event : ℕ) → stop_of deck event ≡ None → later deck (suc left) event ≡ events_after deck left (event + 1)
unfolding later
later-next deck left event is = ap (λ s. if is_none s then events_after deck left (event + 1) else []) is

next-events : (deck : Deck) (event : ℕ) → stop_of deck event ≡ None → event < deck.plan.max_steps
    → events_from deck event ≡ event ∷ events_from deck (event + 1)
next-events deck event is lt =
    let left : deck.plan.max_steps - event ≡ suc (deck.plan.max_steps - (event + 1)) = omega arith in
    first-later deck (deck.plan.max_steps - event) event
    ∙ ap (λ es. event ∷ es) (ap (λ n. later deck n event) left ∙ later-next deck (deck.plan.max_steps - (event + 1)) event is)

last-event : (deck : Deck) (event : ℕ) (stop : Stop) → stop_of deck event ≡ Some stop → events_from deck event ≡ event ∷ []
last-event deck event stop is =
    first-later deck (deck.plan.max_steps - event) event ∙ ap (λ es. event ∷ es) (later-stopped deck (deck.plan.max_steps - event) event stop is)

flat-append : (f : ℕ → List Write) (a b : List ℕ) → flat_map f (a ++ b) ≡ flat_map f a ++ flat_map f b
flat-append f [] b = refl
flat-append f (x ∷ a) b = ap (λ ws. f x ++ ws) (flat-append f a b) ∙ sym (append_assoc (f x) (flat_map f a) (flat_map f b))

-- the events that a run has passed on its way from one event to another, with what was written at them
pub record Passed (deck : Deck) (first event : ℕ) (x y : FolderState) : Type 0 where
  pub events : List ℕ
  pub all : events ++ events_from deck event ≡ events_from deck first
  pub done : WroteAll (flat_map (writes_at deck) events) x y

pub passed_none : (deck : Deck) (first : ℕ) (x : FolderState) → Passed deck first first x x
passed_none deck first x = record { events = []; all = refl; done = wrote_none x }

-- the writes of all events, by those that were passed and the present one
whole : (deck : Deck) (first event : ℕ) (events : List ℕ) → events ++ events_from deck event ≡ events_from deck first →
    flat_map (writes_at deck) events
    ++ (writes_at deck event ++ flat_map (writes_at deck) (later deck (deck.plan.max_steps - event) event))
    ≡ flat_map (writes_at deck) (events_from deck first)
whole deck first event events all =
    ap (λ es. flat_map (writes_at deck) events ++ flat_map (writes_at deck) es) (sym (first-later deck (deck.plan.max_steps - event) event))
    ∙ (sym (flat-append (writes_at deck) events (events_from deck event)) ∙ ap (flat_map (writes_at deck)) all)

one_more_event : (deck : Deck) (event : ℕ) (events : List ℕ) (x y z : FolderState)
    → WroteAll (flat_map (writes_at deck) events) x y → WroteAll (writes_at deck event) y z →
    WroteAll (flat_map (writes_at deck) (events ++ event ∷ [])) x z
one_more_event deck event events x y z p q =
    subst (λ (ws : List Write). WroteAll ws x z)
    (ap (λ ws. flat_map (writes_at deck) events ++ ws) (sym (append-nil (writes_at deck event)))
    ∙ sym (flat-append (writes_at deck) events (event ∷ [])))
    (wrote_wrote (flat_map (writes_at deck) events) (writes_at deck event) x y z p q)

-- one more event is passed
pub passed_one : (deck : Deck) (first event : ℕ) (x y z : FolderState) → Passed deck first event x y → WroteAll (writes_at deck event) y z →
    stop_of deck event ≡ None → event < deck.plan.max_steps → Passed deck first (event + 1) x z
passed_one deck first event x y z p q is lt = record {
  events = p.events ++ event ∷ [];
  all = append_assoc p.events (event ∷ []) (events_from deck (event + 1)) ∙ (ap (λ es. p.events ++ es) (sym (next-events deck event is lt)) ∙ p.all);
  done = one_more_event deck event p.events x y z p.done q;
}

-- the last event is passed: all is written
pub passed_last : (deck : Deck) (first event : ℕ) (stop : Stop) (x y z : FolderState)
    → Passed deck first event x y → WroteAll (writes_at deck event) y z →
    stop_of deck event ≡ Some stop → WroteAll (flat_map (writes_at deck) (events_from deck first)) x z
passed_last deck first event stop x y z p q is =
    subst (λ (es : List ℕ). WroteAll (flat_map (writes_at deck) es) x z)
    (ap (λ es. p.events ++ es) (sym (last-event deck event stop is)) ∙ p.all)
    (one_more_event deck event p.events x y z p.done q)

pub passed_end : (deck : Deck) (first event : ℕ) (stop : Stop) (x y : FolderState) → Passed deck first event x y
    → stop_of deck event ≡ Some stop →
    (es : List ℕ) × (events_from deck first ≡ es ++ event ∷ [])
passed_end deck first event stop x y p is = (p.events, sym p.all ∙ ap (λ es. p.events ++ es) (last-event deck event stop is))

-- a write at the present event failed
pub passed_fails : (deck : Deck) (first event : ℕ) (fault : DriveFault) (x y z : FolderState)
    → Passed deck first event x y → BrokeOff (writes_at deck event) fault y z →
    BrokeOff (flat_map (writes_at deck) (events_from deck first)) fault x z
passed_fails deck first event fault x y z p q =
    let others = flat_map (writes_at deck) (later deck (deck.plan.max_steps - event) event) in
    subst (λ (ws : List Write). BrokeOff ws fault x z) (whole deck first event p.events p.all)
    (wrote_broke (flat_map (writes_at deck) p.events) (writes_at deck event ++ others) fault x y z p.done
    (broke_first (writes_at deck event) others fault y z q))

-- memory ran out at the next event
pub passed_stops : (deck : Deck) (first event : ℕ) (x y z : FolderState) → Passed deck first event x y → WroteAll (writes_at deck event) y z →
    BrokeOff (flat_map (writes_at deck) (events_from deck first)) OutOfMemory x z
passed_stops deck first event x y z p q =
    let others = flat_map (writes_at deck) (later deck (deck.plan.max_steps - event) event) in
    subst (λ (ws : List Write). BrokeOff ws OutOfMemory x z) (whole deck first event p.events p.all)
    (wrote_broke (flat_map (writes_at deck) p.events) (writes_at deck event ++ others) OutOfMemory x y z p.done
    (wrote_some (writes_at deck event) others y z q))

-- the same deck, as it was read from the run
pub done_at : (read deck : Deck) (event : ℕ) (x y : FolderState) → read ≡ deck → WroteAll (writes_at read event) x y
    → WroteAll (writes_at deck event) x y
done_at read deck event x y is p = subst (λ (d : Deck). WroteAll (writes_at d event) x y) is p

pub ended_at : (read deck : Deck) (event : ℕ) (fault : DriveFault) (x y : FolderState) → read ≡ deck
    → BrokeOff (writes_at read event) fault x y → BrokeOff (writes_at deck event) fault x y
ended_at read deck event fault x y is p = subst (λ (d : Deck). BrokeOff (writes_at d event) fault x y) is p

pub stop_of_at : (read deck : Deck) (event : ℕ) (stop : Option Stop) → read ≡ deck → stop_of read event ≡ stop → stop_of deck event ≡ stop
stop_of_at read deck event stop is p = subst (λ (d : Deck). stop_of d event ≡ stop) is p

pub passed_at : (deck : Deck) (first event now : ℕ) (x y : FolderState) → event ≡ now → Passed deck first event x y → Passed deck first now x y
passed_at deck first event now x y is p = subst (λ (n : ℕ). Passed deck first n x y) is p

pub end_at : (deck : Deck) (first event now : ℕ) → event ≡ now
    → (es : List ℕ) × (events_from deck first ≡ es ++ event ∷ [])
    → (es : List ℕ) × (events_from deck first ≡ es ++ now ∷ [])
end_at deck first event now is p = subst (λ (n : ℕ). (es : List ℕ) × (events_from deck first ≡ es ++ n ∷ [])) is p
