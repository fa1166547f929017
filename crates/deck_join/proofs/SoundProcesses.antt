-- The processes of sound steps are sound.
use Rattle.std.proofs.Common.{◌≡◌, ◌∙◌, ◌+◌, ◌*◌, ◌^◌, ◌≤◌, ◌<◌, ℕ, ℤ, pos, Bool, true, false, List, [], ◌∷◌, ◌++◌, length, map}
use Rattle.std.proofs.Common.{refl, sym, ap, arith, unsigned_abs, neg_ℤ}
use Rattle.std.specs.Prelude.{codes, if◌then◌else◌, slice_index_or, sum}
use Rattle.std.specs.List.{All, AllByRecursion}
use Rattle.std.proofs.lemmas.Int.{ints}
use Rattle.std.proofs.lemmas.List.{length-append, length-map}
use Rattle.std.proofs.lemmas.List.Sums.{sum_by-cons}
use Rattle.std.proofs.lemmas.List.Elements.{All-from_recursion, recursion_from_All}
use Rattle.deck.specs.Soundness.{HasSoundGas, dentates_in}
use Rattle.deck_join.proofs.GasEnergies.{AreSmall, sum-small}
use Rattle.deck_join.proofs.SoundPatterns.{sound_pattern}
use Rattle.deck_join.specs.Gas.{GasChange, GasNumbers, gas_energy, reversed}
use Rattle.deck_join.specs.ProcessNames.{name_of, names_of, names_of_step}
use Rattle.deck_join.specs.Processes.{forward_of, processes_of, processes_of_step, reverse_of, side_of}
use Rattle.deck_join.specs.SoundValues.{AreSoundChanges, AreWhole, IsSideOf, IsSoundStep, IsWholeStep}
use Rattle.deck_join.specs.Steps.{NamedStep}
use Rattle.firing.specs.Soundness.{IsSoundSide}
use Rattle.kmc_base.specs.declared.limits.TheConstants.{MAX_ENERGY}
use Rattle.mechanism_deck.specs.Parts.{directions}
use Rattle.pattern_names.specs.Types.{types_for}
use Rattle.pattern_types.proofs.FaultLemmas.{sound-pattern_of}
use Rattle.pattern_types.specs.declared.wanted.Wanted.{Wanted}
use Rattle.rate_rules.specs.Soundness.{HasSoundNumbers, IsSoundProcess}
use Rattle.rate_rules.specs.declared.chemistry.Process.{Process}
use Rattle.species_book.specs.Book.{Book}

-- a side of a sound step is sound
sound_side : (book : Book) (type_names : List (List ℕ)) (step : NamedStep) (wanted : List Wanted) → IsSideOf step.step wanted
    → AreWhole book wanted → IsSoundSide (side_of type_names step wanted)
sound_side book type_names step wanted is are =
    let body = step.step.body in
    record {
      pattern = sound-pattern_of body.edges (types_for type_names body.sites step.step.variant.types) wanted
          (sound_pattern type_names body.sites body.edges step.step.variant.types wanted is);
      whole = are.whole;
    }

small_energy : (energies : List ℤ) (gas place : ℕ) → length energies ≡ gas → All (λ e. unsigned_abs e ≤ unsigned_abs MAX_ENERGY) energies
    → place < gas → unsigned_abs (slice_index_or energies place (pos 0)) ≤ 10 ^ 12
small_energy energies gas place long small within = small place (pos 0) (omega (arith, long, within))

small_all : (energies : List ℤ) (gas : ℕ) → length energies ≡ gas → All (λ e. unsigned_abs e ≤ unsigned_abs MAX_ENERGY) energies
    → (changes : List GasChange) → AllByRecursion (λ change. change.0 < gas) changes
    → AllByRecursion (λ change. unsigned_abs change.1 ≤ 8) changes → AllByRecursion (AreSmall energies) changes
small_all energies gas long small [] places molecules = tt
small_all energies gas long small (change ∷ changes) places molecules = (
  (molecules.0, small_energy energies gas change.0 long small places.0),
  small_all energies gas long small changes places.1 molecules.1,
)

-- the gas energy of a step is that of at most 512 molecules
gas_range : (energies : List ℤ) (gas : ℕ) (changes : List GasChange) → length energies ≡ gas
    → All (λ e. unsigned_abs e ≤ unsigned_abs MAX_ENERGY) energies → AreSoundChanges gas changes
    → unsigned_abs (gas_energy energies changes) ≤ 512 * 10 ^ 12
gas_range energies gas changes long small are =
    let all = small_all energies gas long small changes (recursion_from_All (λ change. change.0 < gas) changes are.species)
    (recursion_from_All (λ change. unsigned_abs change.1 ≤ 8) changes are.molecules) in
    omega (arith, sum-small energies (pos 0) 0 changes (omega (arith, ints)) all, are.few)

-- what the processes of a step share
record IsStepOf (book : Book) (gases : GasNumbers) (step : NamedStep) : Type 0 where
  long : length gases.energies ≡ length book.gas
  small : All (λ e. unsigned_abs e ≤ unsigned_abs MAX_ENERGY) gases.energies
  sound : IsSoundStep (length book.gas) step
  whole : IsWholeStep book step

numbers_of : (book : Book) (gases : GasNumbers) (step : NamedStep) (process : Process) → IsStepOf book gases step
    → process.activation ≡ step.step.variant.activation → process.proximity ≡ step.step.variant.proximity
    → process.gas ≡ gas_energy gases.energies step.changes.gas → HasSoundNumbers process
numbers_of book gases step process is activation proximity gas = record {
  activation = rw activation is.whole.numbers.activation;
  gas = rw gas (gas_range gases.energies (length book.gas) step.changes.gas is.long is.small is.sound.gas);
  proximity = rw proximity is.whole.numbers.proximity;
}

forward_is : (book : Book) (gases : GasNumbers) (type_names : List (List ℕ)) (step : NamedStep) → IsStepOf book gases step
    → IsSoundProcess (dentates_in book) (forward_of gases type_names step)
forward_is book gases type_names step is = record {
  before = sound_side book type_names step step.changes.before is.sound.before is.whole.before;
  after = sound_side book type_names step step.changes.after is.sound.after is.whole.after;
  dentates_before = is.whole.before.dentates;
  dentates_after = is.whole.after.dentates;
  edges = refl;
  types = refl;
  numbers = numbers_of book gases step (forward_of gases type_names step) is refl refl refl;
}

reverse_is : (book : Book) (gases : GasNumbers) (type_names : List (List ℕ)) (step : NamedStep) → IsStepOf book gases step
    → IsSoundProcess (dentates_in book) (reverse_of gases type_names step)
reverse_is book gases type_names step is = record {
  before = sound_side book type_names step step.changes.after is.sound.after is.whole.after;
  after = sound_side book type_names step step.changes.before is.sound.before is.whole.before;
  dentates_before = is.whole.after.dentates;
  dentates_after = is.whole.before.dentates;
  edges = refl;
  types = refl;
  numbers = numbers_of book gases step (reverse_of gases type_names step) is refl refl refl;
}

-- the changes of the reverse are as sound as those of the step
reverse_species : (gas : ℕ) (changes : List GasChange) → AllByRecursion (λ change. change.0 < gas) changes
    → AllByRecursion (λ change. change.0 < gas) (reversed changes)
reverse_species gas [] all = tt
reverse_species gas (change ∷ changes) all = (all.0, reverse_species gas changes all.1)

reverse_molecules : (changes : List GasChange) → AllByRecursion (λ change. unsigned_abs change.1 ≤ 8) changes
    → AllByRecursion (λ change. unsigned_abs change.1 ≤ 8) (reversed changes)
reverse_molecules [] all = tt
reverse_molecules (change ∷ changes) all = (same_size change.1 all.0, reverse_molecules changes all.1)
  where
    same_size : (z : ℤ) → unsigned_abs z ≤ 8 → unsigned_abs (neg_ℤ z) ≤ 8
    same_size z small = first_of (omega (arith, ints), grind (arith, ints), grind arith)

gas_of : (gas : ℕ) (process : Process) (changes : List GasChange) → process.gas_change ≡ changes → AreSoundChanges gas changes
    → HasSoundGas gas process
gas_of gas process changes is are = record {
  few = rw is are.few;
  species = rw is are.species;
  molecules = rw is are.molecules;
}

pub reversed_are : (gas : ℕ) (changes : List GasChange) → AreSoundChanges gas changes → AreSoundChanges gas (reversed changes)
reversed_are gas changes are = record {
  few = omega (arith, are.few, length-map {B = GasChange} changes (λ change. (change.0, neg_ℤ change.1)));
  species = All-from_recursion (λ change. change.0 < gas) (reversed changes)
      (reverse_species gas changes (recursion_from_All (λ change. change.0 < gas) changes are.species));
  molecules = All-from_recursion (λ change. unsigned_abs change.1 ≤ 8) (reversed changes)
      (reverse_molecules changes (recursion_from_All (λ change. unsigned_abs change.1 ≤ 8) changes are.molecules));
}

-- a process is sound, and changes gas species of the book
abbrev pub IsSoundOf : Book → Process → Type 0
IsSoundOf book process = IsSoundProcess (dentates_in book) process × HasSoundGas (length book.gas) process

together : (book : Book) (first second : List Process) → AllByRecursion (IsSoundOf book) first → AllByRecursion (IsSoundOf book) second
    → AllByRecursion (IsSoundOf book) (first ++ second)
together book [] second all others = others
together book (process ∷ first) second all others = (all.0, together book first second all.1 others)

processes_of_step_are : (book : Book) (gases : GasNumbers) (type_names : List (List ℕ)) (step : NamedStep) → IsStepOf book gases step
    → AllByRecursion (IsSoundOf book) (processes_of_step gases type_names step)
processes_of_step_are book gases type_names step is = by step.step.body.reversible
  where
    forward : IsSoundOf book (forward_of gases type_names step)
    forward = (
      forward_is book gases type_names step is,
      gas_of (length book.gas) (forward_of gases type_names step) step.changes.gas refl is.sound.gas,
    )

    reverse : IsSoundOf book (reverse_of gases type_names step)
    reverse = (
      reverse_is book gases type_names step is,
      gas_of (length book.gas) (reverse_of gases type_names step) (reversed step.changes.gas) refl
          (reversed_are (length book.gas) step.changes.gas is.sound.gas),
    )

    by : (reversible : Bool) → AllByRecursion (IsSoundOf book)
        (if reversible
        then forward_of gases type_names step ∷ reverse_of gases type_names step ∷ []
        else forward_of gases type_names step ∷ [])
    by true = (forward, (reverse, tt))
    by false = (forward, tt)

-- the processes of sound steps are sound
pub processes_are : (book : Book) (gases : GasNumbers) (type_names : List (List ℕ)) → length gases.energies ≡ length book.gas
    → All (λ e. unsigned_abs e ≤ unsigned_abs MAX_ENERGY) gases.energies → (steps : List NamedStep)
    → AllByRecursion (IsSoundStep (length book.gas)) steps → AllByRecursion (IsWholeStep book) steps
    → AllByRecursion (IsSoundOf book) (processes_of gases type_names steps)
processes_are book gases type_names long small [] sound whole = tt
processes_are book gases type_names long small (step ∷ steps) sound whole =
    together book (processes_of_step gases type_names step) (processes_of gases type_names steps)
    (processes_of_step_are book gases type_names step (record { long = long; small = small; sound = sound.0; whole = whole.0 }))
    (processes_are book gases type_names long small steps sound.1 whole.1)

-- how many there are
count_of_step : (gases : GasNumbers) (type_names : List (List ℕ)) (step : NamedStep)
    → length (processes_of_step gases type_names step) ≡ directions step.step.body.reversible
count_of_step gases type_names step = by step.step.body.reversible
  where
    by : (reversible : Bool) → length (if reversible
        then forward_of gases type_names step ∷ reverse_of gases type_names step ∷ []
        else forward_of gases type_names step ∷ []) ≡ directions reversible
    by true = refl
    by false = refl

more_processes : (step : NamedStep) (steps : List NamedStep) → sum (map (λ s. directions s.step.body.reversible) (step ∷ steps))
    ≡ directions step.step.body.reversible + sum (map (λ s. directions s.step.body.reversible) steps)
more_processes step steps =
    sum_by-cons (λ n. n) (directions step.step.body.reversible) (map (λ (s : NamedStep). directions s.step.body.reversible) steps)

pub count_of : (gases : GasNumbers) (type_names : List (List ℕ)) (steps : List NamedStep)
    → length (processes_of gases type_names steps) ≡ sum (map (λ step. directions step.step.body.reversible) steps)
count_of gases type_names [] = refl
count_of gases type_names (step ∷ steps) =
    length-append (processes_of_step gases type_names step) (processes_of gases type_names steps)
    ∙ ap (λ n. n + length (processes_of gases type_names steps)) (count_of_step gases type_names step)
    ∙ ap (λ n. directions step.step.body.reversible + n) (count_of gases type_names steps)
    ∙ sym (more_processes step steps)

names_of_one : (step : NamedStep) → length (names_of_step step) ≡ directions step.step.body.reversible
names_of_one step = by step.step.body.reversible
  where
    by : (reversible : Bool) → length (if reversible
        then (name_of step ++ codes "/fwd") ∷ (name_of step ++ codes "/rev") ∷ []
        else name_of step ∷ []) ≡ directions reversible
    by true = refl
    by false = refl

-- and as many names
pub names_count : (steps : List NamedStep) → length (names_of steps) ≡ sum (map (λ step. directions step.step.body.reversible) steps)
names_count [] = refl
names_count (step ∷ steps) =
    length-append (names_of_step step) (names_of steps)
    ∙ ap (λ n. n + length (names_of steps)) (names_of_one step)
    ∙ ap (λ n. directions step.step.body.reversible + n) (names_count steps)
    ∙ sym (more_processes step steps)
