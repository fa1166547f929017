use Rattle.std.proofs.Common.{◌≡◌, ℕ, ◌+◌, ◌*◌, ◌^◌, ◌<◌, ◌≤◌, ℤ, pos, ◌+ℤ◌, unsigned_abs, All, List, length, get_or, set}
use Rattle.std.proofs.Common.{ap, sym, subst, ◌∙◌, arith, to_z, of_z, w8, w64}
use Rattle.std.proofs.lemmas.Int.{ints}
use Rattle.std.proofs.lemmas.List.Sums.{fold_more}
use Rattle.kmc_core.specs.DeckSystem.{changed}
use Rattle.kmc_core.proofs.GasNumbers.{small-changed}
use Rattle.kmc_core.proofs.run_state.change_gas.Goals as goal

-- the sum that the code computes
computed : (old change from : ℤ) → unsigned_abs old ≤ 2 ^ 51 → unsigned_abs change ≤ 8 → from ≡ to_z w8 (of_z w8 change)
    → to_z w64 (of_z w64 (to_z w64 (of_z w64 old) +ℤ to_z w64 (of_z w64 from))) ≡ old +ℤ change
computed old change from small few is = omega (arith, ints)

-- what the code writes
written : (gas : List ℤ) (change : ℕ × ℤ) (place : ℕ) (from : ℤ) → place ≡ change.0 → unsigned_abs (get_or gas change.0 (pos 0)) ≤ 2 ^ 51
    → unsigned_abs change.1 ≤ 8 → from ≡ to_z w8 (of_z w8 change.1)
    → set gas place (to_z w64 (of_z w64 (to_z w64 (of_z w64 (get_or gas place (pos 0))) +ℤ to_z w64 (of_z w64 from)))) ≡ changed gas change
written gas change place from same small few is =
    ap (λ (k : ℕ). set gas k (to_z w64 (of_z w64 (to_z w64 (of_z w64 (get_or gas k (pos 0))) +ℤ to_z w64 (of_z w64 from))))) same
    ∙ ap (set gas change.0) (computed (get_or gas change.0 (pos 0)) change.1 from small few is)

pub loop-place-preserved : goal.loop-place-preserved
loop-place-preserved c =
    let kept = c.loop-place.invariant in
    let i = c.loop-place.place-index in
    let changes = c.args.changes.now in
    let gas = c.loop-place.gas in
    let change : ℕ × ℤ = get_or changes i (0, pos 0) in
    let low = c.loop-place-test.true in
    let all = c.requires.few in
    let long = c.loop-place.auto.gas in
    let species = c.requires.species i (0, pos 0) low in
    let inside : change.0 < length gas = omega arith in
    let few : unsigned_abs change.1 ≤ 8 = c.requires.molecules i (0, pos 0) low in
    let old : unsigned_abs (get_or gas change.0 (pos 0)) ≤ 2 ^ 50 + 8 * i = kept.small change.0 (pos 0) inside in
    let made = written gas change c.from-in-loop-place.result c.from.result c.from-in-loop-place.ensures (omega arith) few c.from.ensures in
    let next = small-changed gas change (2 ^ 50 + 8 * i) inside few kept.small in
    record {
      done = made ∙ ap (λ (g : List ℤ). changed g change) kept.done ∙ sym (fold_more changed c.args.gas.now changes i (0, pos 0) low);
      small = subst (All (λ molecules. unsigned_abs molecules ≤ 2 ^ 50 + 8 * (i + 1))) (sym made)
          (λ k d within. let one = next k d within in omega arith);
    }
