-- What a sound simulation file gives: names that differ, and with sound clusters and steps a sound deck.
use Rattle.std.proofs.Common.{◌≡◌, ◌∙◌, ◌≤◌, ℕ, true, false, ◌&&◌, not, List, [], ◌∷◌, length, IsTrue, refl, sym, ap, subst}
use Rattle.std.proofs.lemmas.Bool.{or_parts}
use Rattle.std.proofs.lemmas.List.{length-map}
use Rattle.std.proofs.lemmas.List.Elements.{All-from_recursion}
use Rattle.std.specs.List.{All, AllByRecursion}
use Rattle.deck.specs.Soundness.{HasSoundGas, IsOfBook, IsSound, dentates_in}
use Rattle.deck_join.proofs.SoundProcesses.{IsSoundOf, count_of, names_count, processes_are}
use Rattle.deck_join.specs.Decks.{deck_with}
use Rattle.deck_join.specs.Gas.{gases_of}
use Rattle.deck_join.specs.Names.{DeckNames}
use Rattle.deck_join.specs.Passes.{DeckValues}
use Rattle.deck_join.specs.Processes.{processes_of}
use Rattle.deck_join.specs.SoundValues.{AreSoundNames, AreSoundValues}
use Rattle.deck_join.specs.Species.{book_of}
use Rattle.deck_values.specs.Names.{names_repeat}
use Rattle.pattern_types.specs.declared.limits.TheConstants.{MAX_PROCESSES}
use Rattle.rate_rules.specs.Soundness.{IsSoundCluster, IsSoundProcess}
use Rattle.rate_rules.specs.declared.chemistry.Process.{Process}
use Rattle.species_book.specs.Book.{Book, are_distinct}

-- names that do not repeat are distinct
pub distinct : (names : List (List ℕ)) → names_repeat names ≡ false → are_distinct names ≡ true
distinct [] e = refl
distinct (name ∷ names) e =
    let parts = or_parts _ (names_repeat names) e in
    ap (λ b. not b && are_distinct names) parts.0 ∙ distinct names parts.1

-- the same of names that are equal to these
pub distinct_at : (names others : List (List ℕ)) → names ≡ others → names_repeat others ≡ false → IsTrue (are_distinct names)
distinct_at names others is e = ap are_distinct is ∙ distinct others e

sound_of : (book : Book) (processes : List Process) → AllByRecursion (IsSoundOf book) processes
    → AllByRecursion (IsSoundProcess (dentates_in book)) processes
sound_of book [] all = tt
sound_of book (process ∷ processes) all = (all.0.0, sound_of book processes all.1)

gas_of_all : (book : Book) (processes : List Process) → AllByRecursion (IsSoundOf book) processes
    → AllByRecursion (HasSoundGas (length book.gas)) processes
gas_of_all book [] all = tt
gas_of_all book (process ∷ processes) all = (all.0.1, gas_of_all book processes all.1)

-- the deck of sound values, and of sound clusters and steps, is sound
pub sound_deck : (values : DeckValues) (names : DeckNames) → AreSoundValues values → AreSoundNames (book_of values.simulation) names
    → IsSound (deck_with values names)
sound_deck values names sound are =
    let book = book_of values.simulation in
    let type_names = values.lattice.type_names in
    let gases = gases_of values.simulation in
    let processes = processes_of gases type_names names.steps in
    let all = processes_are book gases type_names
    (sound.simulation.one_energy_each ∙ sym (length-map values.simulation.gas (λ name. name.word.bytes)))
    sound.simulation.energies names.steps are.steps are.whole in
    let count = count_of gases type_names names.steps in
    record {
      chemistry = record {
        lattice = sound.lattice;
        some_temperature = sound.simulation.some_temperature;
        temperature = sound.simulation.temperature;
        few_processes = subst (λ n. n ≤ MAX_PROCESSES) (sym count) are.few;
        few_clusters = are.clusters.few;
        processes = All-from_recursion (IsSoundProcess (dentates_in book)) processes (sound_of book processes all);
        clusters = All-from_recursion IsSoundCluster names.clusters are.clusters.shares;
        radius = refl;
      };
      plan = sound.simulation.plan;
      clusters = All-from_recursion (λ cluster. All (IsOfBook book) cluster.pattern.wanted) names.clusters are.clusters.dentates;
      gas = All-from_recursion (HasSoundGas (length book.gas)) processes (gas_of_all book processes all);
      one_name_each = names_count names.steps ∙ sym count;
      dentates = sound.simulation.dentates;
      opening = refl;
    }
