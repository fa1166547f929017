-- more than three words are no sampling
use Rattle.std.proofs.Common.{◌≡◌, ◌≤◌, ℕ, List, [], ◌∷◌, length, map, Err, arith, refl}
use Rattle.deck_words.specs.declared.kind.TheConstants.{BAD_CHOICE}
use Rattle.sim_deck.specs.Samplings.{sampling_of}

pub long_sampling : {W : Type 0} (h : W → List ℕ) (words : List W) → 4 ≤ length words → sampling_of (map h words) ≡ Err BAD_CHOICE
long_sampling h [] long = absurd (omega arith)
long_sampling h (a ∷ []) long = absurd (omega arith)
long_sampling h (a ∷ b ∷ []) long = absurd (omega arith)
long_sampling h (a ∷ b ∷ c ∷ []) long = absurd (omega arith)
long_sampling h (a ∷ b ∷ c ∷ d ∷ words) long = refl
