use Rattle.std.proofs.Common.{◌≡◌, ℕ, ◌+◌, ◌<◌, ◌≤◌, ℤ, All, List, length, unsigned_abs, ap, sym, subst, ◌∙◌, arith, rules}
use Rattle.std.proofs.lemmas.Grind.{common_steps}
use Rattle.deck.specs.Soundness.{dentates_in}
use Rattle.kmc_base.specs.declared.limits.TheConstants.{MAX_SPECIES}
use Rattle.kmc_core.proofs.GasNumbers.{fired-within, sound-gas}
use Rattle.kmc_core.specs.DeckSystem.{DeckState}
use Rattle.kmc_core.specs.Run.{IsWithin}
use Rattle.lattice_core.specs.Config.{IsWellFormed}
use Rattle.rate_rules.proofs.OfferedPlacements.{process_is_there}
use Rattle.rate_rules.specs.System.{process_of, fires as states_after}
use Rattle.kmc_core.proofs.run_state.RunState.fire_code.Goals as goal

pub overflow_cast-number : goal.overflow_cast-number
overflow_cast-number c =
    let there = process_is_there (dentates_in c.args.deck.now.book) c.args.deck.now.chem c.requires.deck.chemistry c.args.self.now.states
    c.requires.sites c.requires.within.2.well_formed c.args.code c.requires.offered in
    let few = c.requires.deck.chemistry.few_processes in
    omega arith

pub process_at-process-requires : goal.process_at-process-requires
process_at-process-requires c =
    process_is_there (dentates_in c.args.deck.now.book) c.args.deck.now.chem c.requires.deck.chemistry c.args.self.now.states
    c.requires.sites c.requires.within.2.well_formed c.args.code c.requires.offered

pub fire_on-requires-clause-well_formed : goal.fire_on-requires-clause-well_formed
fire_on-requires-clause-well_formed c =
    subst (λ (s : DeckState). IsWellFormed (dentates_in c.args.deck.now.book) s.states) (sym c.self.view_is) c.requires.within.2.well_formed

pub change_gas-requires-clause-few : goal.change_gas-requires-clause-few
change_gas-requires-clause-few c =
    subst (λ (changes : List (ℕ × ℤ)). length changes ≤ MAX_SPECIES) (sym c.as_slice.ensures)
    (sound-gas c.args.deck.now c.requires.deck (process_of c.args.code) c.process_at-process.result.now c.process_at-process.ensures).few

pub change_gas-requires-clause-species : goal.change_gas-requires-clause-species
change_gas-requires-clause-species c =
    let fine = sound-gas c.args.deck.now c.requires.deck (process_of c.args.code) c.process_at-process.result.now c.process_at-process.ensures in
    let long : length c.deref_mut.result.now ≡ length c.args.deck.now.book.gas =
    ap length c.deref_mut.ensures.value ∙ ap (λ (s : DeckState). length s.gas) c.self.view_is ∙ c.requires.within.2.gas_species in
    subst (λ (changes : List (ℕ × ℤ)). All (λ change. change.0 < length c.deref_mut.result.now) changes) (sym c.as_slice.ensures)
    (subst (λ (n : ℕ). All (λ change. change.0 < n) c.process_at-process.result.now.gas_change) (sym long) fine.species)

pub change_gas-requires-clause-molecules : goal.change_gas-requires-clause-molecules
change_gas-requires-clause-molecules c =
    subst (λ (changes : List (ℕ × ℤ)). All (λ change. unsigned_abs change.1 ≤ 8) changes) (sym c.as_slice.ensures)
    (sound-gas c.args.deck.now c.requires.deck (process_of c.args.code) c.process_at-process.result.now c.process_at-process.ensures).molecules

pub count_event-requires-clause-process : goal.count_event-requires-clause-process
count_event-requires-clause-process c =
    let long : length c.deref_mut-2.result.now ≡ length c.args.deck.now.chem.processes =
    ap length c.deref_mut-2.ensures.value ∙ ap (λ (s : DeckState). length s.counts) c.self.view_is ∙ c.requires.within.2.processes in
    subst (λ (n : ℕ). process_of c.args.code < n) (sym long)
    (process_is_there (dentates_in c.args.deck.now.book) c.args.deck.now.chem c.requires.deck.chemistry c.args.self.now.states
    c.requires.sites c.requires.within.2.well_formed c.args.code c.requires.offered)

pub returns-clause-value : goal.returns-clause-value
returns-clause-value c = first_of (search rules, grind (arith, common_steps))

pub returns-clause-within : goal.returns-clause-within
returns-clause-within c event is =
    let deck = c.args.deck.now in
    let state = c.args.self.now in
    let process = c.process_at-process.result.now in
    let states = c.fire_on.ensures.states ∙ ap (λ (s : DeckState). states_after deck.chem s.states c.args.code) c.self.view_is in
    subst (IsWithin deck (event + 1)) (sym (returns-clause-value c))
    (fired-within deck c.requires.deck event state c.args.code process c.process_at-process.ensures
    (subst (IsWellFormed (dentates_in deck.book)) states c.fire_on.ensures.well_formed) is)
