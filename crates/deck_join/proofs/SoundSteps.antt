-- Steps whose names have no fault are sound.
use Rattle.std.proofs.Common.{◌≡◌, ◌∙◌, ◌≤◌, ℕ, IfOk, IsTrue, List, [], ◌∷◌, Result, Ok, Err, length, map, refl, sym, ap, subst}
use Rattle.std.specs.Prelude.{sum}
use Rattle.std.specs.List.{AllByRecursion}
use Rattle.std.proofs.lemmas.Result.{IfOk-weaker}
use Rattle.deck_join.proofs.GasChanges.{changes_are}
use Rattle.deck_join.proofs.SoundPatterns.{pattern_of_rows}
use Rattle.deck_join.specs.Gas.{changes_in}
use Rattle.deck_join.specs.SoundValues.{AreSoundChanges, AreWhole, IsSideOf, IsSoundStep, IsWholeStep}
use Rattle.deck_join.specs.Steps.{NamedStep, StepChanges, changes_of, step_in, steps_in}
use Rattle.deck_words.proofs.HeldValues.{both-holds, value_map-holds, with_fault-holds}
use Rattle.deck_words.specs.Faults.{all_of, both}
use Rattle.deck_words.specs.declared.fault.LineFault.{LineFault}
use Rattle.lattice_deck.specs.Types.{unknown_type}
use Rattle.mechanism_deck.specs.Parts.{MechanismValues, directions}
use Rattle.mechanism_deck.specs.Soundness.{IsSoundPart, IsSoundStep as IsSoundValues}
use Rattle.mechanism_deck.specs.Steps.{StepValues}
use Rattle.pattern_names.proofs.WantedRows.{wanted_are}
use Rattle.pattern_names.proofs.WholeSides.{IsEntity, IsWholeSide, side_is_whole}
use Rattle.pattern_names.specs.Sides.{missing_dentate, side_in}
use Rattle.pattern_names.specs.Species.{all_wanted}
use Rattle.pattern_rows.specs.Patterns.{MakePattern}
use Rattle.pattern_rows.specs.States.{StateWords}
use Rattle.pattern_types.specs.declared.limits.TheConstants.{MAX_PROCESSES}
use Rattle.pattern_types.specs.declared.wanted.Wanted.{Wanted}
use Rattle.kmc_base.specs.declared.limits.TheConstants.{MAX_SPECIES}
use Rattle.species_book.specs.Book.{Book, are_distinct}

-- a side of a step makes a pattern, and its adsorbates are whole
abbrev IsSoundSide : Book → StepValues → List Wanted → Type 0
IsSoundSide book step wanted = IsSideOf step wanted × AreWhole book wanted

both_of : {X : Type 0} (P Q : X → Type 0) (r : Result X LineFault) → IfOk r P → IfOk r Q → IfOk r (λ x. P x × Q x)
both_of P Q (Ok x) p q = (p, q)
both_of P Q (Err f) p q = tt

side_is : (book : Book) (step : StepValues) → IsSoundValues step → (line : ℕ) (rows : List StateWords)
    → MakePattern step.body.sites step.body.edges rows → AllByRecursion IsEntity rows → IfOk (side_in book line rows) (IsSoundSide book step)
side_is book step sound line rows make entities =
    let read = side_in book line rows in
    both_of (IsSideOf step) (AreWhole book) read
    (with_fault-holds (IsSideOf step) (missing_dentate book line rows) (all_wanted book rows)
    (IfOk-weaker (all_wanted book rows) _ (IsSideOf step)
    (pattern_of_rows book step.body.sites step.body.edges step.variant.types rows make sound.types) (wanted_are book rows)))
    (IfOk-weaker read (IsWholeSide book) (AreWhole book) (λ wanted whole. record { whole = whole.whole; dentates = whole.dentates })
    (side_is_whole book step.body.sites step.body.edges line rows make entities))

-- what a step changes is sound
record AreSound (book : Book) (step : StepValues) (changes : StepChanges) : Type 0 where
  gas : AreSoundChanges (length book.gas) changes.gas
  before : IsSoundSide book step changes.before
  after : IsSoundSide book step changes.after

changes_of_step : (book : Book) (step : StepValues) → IsTrue (are_distinct book.gas) → length book.gas ≤ MAX_SPECIES → IsSoundValues step
    → IfOk (changes_of book step.body) (AreSound book step)
changes_of_step book step distinct few sound =
    let body = step.body in
    let gas = changes_in book body.gas in
    let before = side_in book body.initial_line body.before in
    let after = side_in book body.final_line body.after in
    let side = IsSoundSide book step in
    value_map-holds (AreSound book step) _ (both gas (both before after))
    (IfOk-weaker (both gas (both before after)) _ _ (λ found so. record { gas = so.0; before = so.1.0; after = so.1.1 })
    (both-holds (AreSoundChanges (length book.gas)) (λ found. side found.0 × side found.1) gas (both before after)
    (changes_are book body.gas distinct few sound.body.gas)
    (both-holds side side before after
    (side_is book step sound body.initial_line body.before sound.body.before sound.body.entities_before)
    (side_is book step sound body.final_line body.after sound.body.after sound.body.entities_after))))

-- a named step is the step that was read, and is sound
record IsNamed (book : Book) (step : StepValues) (named : NamedStep) : Type 0 where
  is : named.step ≡ step
  sound : IsSoundStep (length book.gas) named
  whole : IsWholeStep book named

step_is : (book : Book) (step : StepValues) → IsTrue (are_distinct book.gas) → length book.gas ≤ MAX_SPECIES → IsSoundValues step
    → IfOk (step_in book step) (IsNamed book step)
step_is book step distinct few sound =
    value_map-holds (IsNamed book step) _ (changes_of book step.body)
    (IfOk-weaker (changes_of book step.body) (AreSound book step) _
    (λ changes are. record {
      is = refl;
      sound = record { gas = are.gas; before = are.before.0; after = are.after.0 };
      whole = record { before = are.before.1; after = are.after.1; numbers = sound.numbers };
    })
    (changes_of_step book step distinct few sound))

-- the steps that are read, with what they change
record AreNamed (book : Book) (steps : List StepValues) (named : List NamedStep) : Type 0 where
  are : map (λ n. n.step) named ≡ steps
  sound : AllByRecursion (IsSoundStep (length book.gas)) named
  whole : AllByRecursion (IsWholeStep book) named

steps_are_named : (book : Book) → IsTrue (are_distinct book.gas) → length book.gas ≤ MAX_SPECIES → (steps : List StepValues)
    → AllByRecursion IsSoundValues steps → IfOk (all_of (map (step_in book) steps)) (AreNamed book steps)
steps_are_named book distinct few [] all = record { are = refl; sound = tt; whole = tt }
steps_are_named book distinct few (step ∷ steps) all =
    let first = step_in book step in
    let rest = all_of (map (step_in book) steps) in
    value_map-holds (AreNamed book (step ∷ steps)) (λ found. found.0 ∷ found.1) (both first rest)
    (IfOk-weaker (both first rest) (λ found. IsNamed book step found.0 × AreNamed book steps found.1) _
    (λ found so. record {
      are = ap (λ s. s ∷ map (λ n. n.step) found.1) so.0.is ∙ ap (λ all. step ∷ all) so.1.are;
      sound = (so.0.sound, so.1.sound);
      whole = (so.0.whole, so.1.whole);
    })
    (both-holds (IsNamed book step) (AreNamed book steps) first rest (step_is book step distinct few all.0)
    (steps_are_named book distinct few steps all.1)))

-- the steps of a deck are sound, and are at most 1,024 processes
pub record AreSoundSteps (book : Book) (named : List NamedStep) : Type 0 where
  pub sound : AllByRecursion (IsSoundStep (length book.gas)) named
  pub whole : AllByRecursion (IsWholeStep book) named
  pub few : sum (map (λ n. directions n.step.body.reversible) named) ≤ MAX_PROCESSES

same_counts : (named : List NamedStep) → map (λ n. directions n.step.body.reversible) named
    ≡ map (λ step. directions step.body.reversible) (map (λ n. n.step) named)
same_counts [] = refl
same_counts (n ∷ named) = ap (λ counts. directions n.step.body.reversible ∷ counts) (same_counts named)

same_sum : (named : List NamedStep) (steps : List StepValues) → map (λ n. n.step) named ≡ steps
    → sum (map (λ n. directions n.step.body.reversible) named) ≡ sum (map (λ step. directions step.body.reversible) steps)
same_sum named steps are =
    ap sum (same_counts named) ∙ ap (λ s. sum (map (λ step. directions step.body.reversible) s)) are

-- the steps of a sound file are sound
pub steps_are : (book : Book) (type_names : List (List ℕ)) (values : MechanismValues) → IsTrue (are_distinct book.gas)
    → length book.gas ≤ MAX_SPECIES → IsSoundPart values → IfOk (steps_in book type_names values) (AreSoundSteps book)
steps_are book type_names values distinct few sound =
    let read = all_of (map (step_in book) values.steps) in
    with_fault-holds (AreSoundSteps book) (unknown_type type_names values.type_words) read
    (IfOk-weaker read (AreNamed book values.steps) (AreSoundSteps book)
    (λ named are. record {
      sound = are.sound;
      whole = are.whole;
      few = subst (λ n. n ≤ MAX_PROCESSES) (sym (same_sum named values.steps are.are)) sound.few;
    })
    (steps_are_named book distinct few values.steps sound.steps))
