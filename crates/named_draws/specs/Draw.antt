-- The draws of the simulation: 64-bit numbers of ChaCha8, each at the place that its name gives.
use Rattle.std.specs.Prelude.{ℕ, ◌+◌, ◌*◌, ◌^◌, List, ◌++◌, slice_index}
use Rattle.std.specs.Int.{w64, to_le_bytes}
use Rattle.rand_chacha.specs.ChaCha.{word_at, key_of}

-- the key of a run: the eight bytes of its random seed, low byte first, four times
abbrev pub key_bytes : ℕ → List ℕ
key_bytes seed = to_le_bytes w64 seed ++ to_le_bytes w64 seed ++ to_le_bytes w64 seed ++ to_le_bytes w64 seed

-- the same as eight words of 32 bits, each low byte first
unfoldable pub key_words : ℕ → List ℕ
key_words seed = key_of (key_bytes seed)

-- a word of a stream of ChaCha with 8 rounds, which are 4 double rounds (RFC 8439, with a 64-bit
-- block counter and the 64-bit number of the stream in the place of the nonce)
abbrev pub stream_word : ℕ → ℕ → ℕ → ℕ
stream_word seed stream place = word_at 4 (key_words seed) stream place

-- the draw named by an event number and a code: of that event's stream, the word at place
-- 2 * code is the low half and the next word is the high half
unfoldable pub draw : ℕ → ℕ → ℕ → ℕ
draw seed event code = stream_word seed event (2 * code) + 2 ^ 32 * stream_word seed event (2 * code + 1)

-- the random seed that the words of a key have in their first two, low word first
abbrev pub seed_of_words : List ℕ → ℕ
seed_of_words key = slice_index key 0 + 2 ^ 32 * slice_index key 1
