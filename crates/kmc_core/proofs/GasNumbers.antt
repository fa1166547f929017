-- The numbers of molecules and of events stay small.
use Rattle.std.proofs.Common.{◌≡◌, ℕ, suc, ◌+◌, ◌*◌, ◌<◌, ◌≤◌, ℤ, pos, ◌+ℤ◌, unsigned_abs, All, List, [], ◌∷◌, Some}
use Rattle.std.proofs.Common.{length, get_or, slice_get, refl, sym, ap, subst, ◌∙◌, arith}
use Rattle.std.proofs.lemmas.List.{length-set}
use Rattle.std.proofs.lemmas.List.Elements.{All-set}
use Rattle.std.proofs.lemmas.Option.{slice_get_within, unwrap_or-slice_get}
use Rattle.std.specs.List.{fold}
use Rattle.std.specs.Prelude.{unwrap_or}
use Rattle.deck.specs.Soundness.{HasSoundGas, IsSound, dentates_in}
use Rattle.deck.specs.declared.deck.Deck.{Deck}
use Rattle.kmc_core.specs.DeckSystem.{DeckState, changed, fires, gas_after, gas_fired}
use Rattle.kmc_core.specs.Run.{IsWithin}
use Rattle.lattice_core.specs.Config.{IsWellFormed}
use Rattle.rate_rules.proofs.Logarithms.{sum-within}
use Rattle.rate_rules.specs.System.{process_of, fires as states_after}
use Rattle.rate_rules.specs.declared.chemistry.Process.{Process}

-- ---- gas

-- after a change of at most 8 molecules
pub small-changed : (gas : List ℤ) (change : ℕ × ℤ) (bound : ℕ) → change.0 < length gas → unsigned_abs change.1 ≤ 8
    → All (λ n. unsigned_abs n ≤ bound) gas → All (λ n. unsigned_abs n ≤ bound + 8) (changed gas change)
small-changed gas change bound inside few small =
    let old = get_or gas change.0 (pos 0) in
    All-set (λ n. unsigned_abs n ≤ bound + 8) gas change.0 (old +ℤ change.1)
    (sum-within old change.1 bound 8 (small change.0 (pos 0) inside) few)
    (λ k d within. let one = small k d within in omega arith)

-- as many numbers
pub length-changed : (changes : List (ℕ × ℤ)) (gas : List ℤ) → length (fold changed gas changes) ≡ length gas
length-changed [] gas = refl
length-changed (change ∷ changes) gas =
    length-changed changes (changed gas change) ∙ length-set gas change.0 (get_or gas change.0 (pos 0) +ℤ change.1)

-- after some changes
small-after : (changes : List (ℕ × ℤ)) (gas : List ℤ) (bound : ℕ) → All (λ c. c.0 < length gas) changes
    → All (λ c. unsigned_abs c.1 ≤ 8) changes → All (λ n. unsigned_abs n ≤ bound) gas
    → All (λ n. unsigned_abs n ≤ bound + 8 * length changes) (fold changed gas changes)
small-after [] gas bound inside few small = λ k d within. let one = small k d within in omega arith
small-after (change ∷ changes) gas bound inside few small =
    let next = changed gas change in
    let same : length next ≡ length gas = length-set gas change.0 (get_or gas change.0 (pos 0) +ℤ change.1) in
    let rest = small-after changes next (bound + 8)
    (λ k d within. let one = inside (suc k) d (omega arith) in omega arith)
    (λ k d within. few (suc k) d (omega arith))
    (small-changed gas change bound (inside 0 change (omega arith)) (few 0 change (omega arith)) small) in
    λ k d within. let one = rest k d within in omega arith

-- ---- an event

pub sound-gas : (deck : Deck) → IsSound deck → (number : ℕ) (process : Process) → slice_get deck.chem.processes number ≡ Some process
    → HasSoundGas (length deck.book.gas) process
sound-gas deck sound number process at =
    let processes = deck.chem.processes in
    subst (HasSoundGas (length deck.book.gas))
    (sym (unwrap_or-slice_get processes number process) ∙ ap (λ o. unwrap_or o process) at)
    (sound.gas number process (slice_get_within processes number process at))

-- after an event of a process the numbers are those of one event more
pub fired-within : (deck : Deck) → IsSound deck → (event : ℕ) (state : DeckState) (code : ℕ) (process : Process)
    → slice_get deck.chem.processes (process_of code) ≡ Some process
    → IsWellFormed (dentates_in deck.book) (states_after deck.chem state.states code)
    → IsWithin deck event state → IsWithin deck (event + 1) (fires deck state code)
fired-within deck sound event state code process at formed is =
    let fine = sound-gas deck sound (process_of code) process at in
    let after : gas_fired state.gas (slice_get deck.chem.processes (process_of code)) ≡ gas_after state.gas process =
    ap (gas_fired state.gas) at in
    let long = length-changed process.gas_change state.gas in
    let few = fine.few in
    let bounded = small-after process.gas_change state.gas (512 * event)
    (subst (λ n. All (λ (c : ℕ × ℤ). c.0 < n) process.gas_change) (sym is.gas_species) fine.species) fine.molecules is.gas in
    let number = process_of code in
    record {
      well_formed = formed;
      gas_species = ap length after ∙ long ∙ is.gas_species;
      gas = subst (All (λ molecules. unsigned_abs molecules ≤ 512 * (event + 1))) (sym after)
          (λ k d within. let one = bounded k d within in omega arith);
      processes = length-set state.counts number (get_or state.counts number 0 + 1) ∙ is.processes;
      counts = All-set (λ count. count ≤ event + 1) state.counts number (get_or state.counts number 0 + 1)
          (let one = is.counts number 0 (let low = slice_get_within deck.chem.processes number process at in
          let same = is.processes in omega arith) in omega arith)
          (λ k d within. let one = is.counts k d within in omega arith);
    }
