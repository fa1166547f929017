use Rattle.std.proofs.Common.{◌≡◌, ◌≢◌, ℕ, ◌*◌, ◌%◌, ◌^◌, ◌<◌, List, length, get_or, set, ap, subst, sym, ◌∙◌, w64, arith, bit_or}
use Rattle.std.proofs.Common.{length-set, get_or-set_same, get_or-set_other}
use mathlib.Core.Logic.{dite}
use native.Mathlib.Decide.{ℕ_discrete}
use Rattle.std.specs.Int.{bit_at}
use Rattle.std.proofs.lemmas.Nat.Bits.{bit_at_set_same, bit_at_set_other}
use Rattle.core_tests.proofs.board_passes.TallyParts.put.Goals as goal

here : (sums : List ℕ) (done piece value : ℕ) → length sums ≡ 5 → piece < 5 → value ≡ 7 * piece
    → get_or (set sums piece value) piece 0 ≡ bit_at (bit_or done (1 * 2 ^ piece % 18446744073709551616)) piece
    * (7 * piece)
here sums done piece value five small is =
    let bit = bit_at_set_same w64 done piece (omega arith) in
    get_or-set_same sums piece value 0 (omega arith) ∙ (omega (arith, is) ∙ sym (ap (λ b. b * (7 * piece)) bit))

else : (sums : List ℕ) (done piece value p : ℕ) → piece < 5 → p ≢ piece → get_or sums p 0 ≡ bit_at done p * (7 * p)
    → get_or (set sums piece value) p 0 ≡ bit_at (bit_or done (1 * 2 ^ piece % 18446744073709551616)) p * (7 * p)
else sums done piece value p small ne was = get_or-set_other sums piece p value 0 ne
    ∙ (was ∙ ap (λ b. b * (7 * p)) (sym (bit_at_set_other w64 done piece (omega arith) p ne)))

pub returns-clause-patch : goal.returns-clause-patch
returns-clause-patch c = λ _ patch right.
    let sums = c.args.self.now.sums.items in
    let done = c.args.self.now.done in
    let piece = c.args.finding.piece in
    let value = c.args.finding.value in (
      length-set sums piece value ∙ patch.0,
      λ p small. dite (ℕ_discrete p piece)
          (λ is. subst (λ q. get_or (set sums piece value) q 0
          ≡ bit_at (bit_or done (1 * 2 ^ piece % 18446744073709551616)) q * (7 * q)) (sym is)
          (here sums done piece value patch.0 right.0 right.1))
          (λ ne. else sums done piece value p right.0 ne (patch.1 p small)),
    )
