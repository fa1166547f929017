-- The key of a random seed gives the seed back, and the two words read at a name's place are its draw.
use Rattle.std.proofs.Common.{◌≡◌, ℕ, ◌+◌, ◌*◌, ◌%◌, ◌<◌, ◌^◌, List, arith, ap, sym, ◌∙◌, refl}
use Rattle.std.proofs.lemmas.Nat.{from_le_bytes-to_le_bytes_8}
use Rattle.rand_core.specs.Steps.{u32_at, u64_via_u32}
use Rattle.rand_chacha.specs.ChaCha.{ChaCha, next_word}
use Rattle.named_draws.specs.Draw.{draw, key_words, seed_of_words}

pub seed_of_words-key_words : (seed : ℕ) → seed < 2 ^ 64 → seed_of_words (key_words seed) ≡ seed
unfolding u32_at key_words
seed_of_words-key_words seed fits = omega (arith, from_le_bytes-to_le_bytes_8 seed fits)

pub seed_of_made : (seed : ℕ) (key : List ℕ) → seed < 2 ^ 64 → key ≡ key_words seed → seed_of_words key ≡ seed
seed_of_made seed key fits made = ap seed_of_words made ∙ seed_of_words-key_words seed fits

pub key_of_made : (seed : ℕ) (key : List ℕ) → seed < 2 ^ 64 → key ≡ key_words seed → key ≡ key_words (seed_of_words key)
key_of_made seed key fits made = made ∙ ap key_words (sym (seed_of_made seed key fits made))

-- a place below the end of a stream is not wrapped
place-mod : (code : ℕ) → code < 2 ^ 65 → 2 * code % 2 ^ 68 ≡ 2 * code
place-mod code below = omega arith

next_place-mod : (code : ℕ) → code < 2 ^ 65 → (2 * code + 1) % 2 ^ 68 ≡ 2 * code + 1
next_place-mod code below = omega arith

pub draw-read : (seed n code : ℕ) (g : ChaCha) → code < 2 ^ 65
    → g ≡ record { key = key_words seed; stream = n; word_pos = 2 * code % 2 ^ 68 }
    → (u64_via_u32 (next_word 4) g).0 ≡ draw seed n code
unfolding draw
draw-read seed n code g below at =
    rw (at, place-mod code below, next_place-mod code below) (omega arith)

-- a generator with the key of a seed, moved to a stream and then to a place
pub placed_at : (seed n place : ℕ) (old start moved placed : ChaCha)
    → old.key ≡ key_words (seed_of_words old.key) → seed_of_words old.key ≡ seed
    → start ≡ record old { word_pos = 0 } → moved ≡ record start { stream = n }
    → placed ≡ record moved { word_pos = place }
    → placed ≡ record { key = key_words seed; stream = n; word_pos = place }
placed_at seed n place old start moved placed made is started streamed at =
    rw (at, streamed, started, made, is) refl
