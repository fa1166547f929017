-- the first run of a part of a text
use Rattle.std.proofs.Common.{◌≡◌, ℕ, ◌+◌, ◌-◌, ◌<◌, ◌≤◌, Bool, true, false, List, [], ◌∷◌, length, take, drop, suc, not, refl, ap, sym}
use Rattle.std.proofs.Common.{◌∙◌, arith, add-zero, ⊎_elim}
use Rattle.std.specs.List.{position_or_len, before_first, slice_range}
use Rattle.std.proofs.lemmas.Bool.{cases_lt, cases_Bool}
use Rattle.std.proofs.lemmas.List.{take-take, drop-take, drop-drop, drop_all}
use Rattle.std.proofs.lemmas.List.Sums.{prefix_len-le-length}
use Rattle.dec_text.proofs.Filled.{is_filled_full}
use Rattle.dec_text.proofs.Places.{length-slice_range}
use Rattle.dec_text.specs.Lines.{run, runs, is_filled, filled}

-- a text that has bytes is its first run, and after the byte that ends it the runs of the rest
abbrev FirstRun : (ℕ → Bool) → ℕ → List ℕ → Type 0
FirstRun p at xs = runs p at xs ≡ run at (before_first p xs) ∷ runs p (at + position_or_len p xs + 1) (drop (position_or_len p xs + 1) xs)

cut_first : (p : ℕ → Bool) (at b : ℕ) (bs : List ℕ) → p b ≡ true → FirstRun p at (b ∷ bs)
cut_first p at b bs is_cut = rw (is_cut, add-zero) refl

one_byte : (p : ℕ → Bool) (at b : ℕ) → p b ≡ false → FirstRun p at (b ∷ [])
one_byte p at b is_byte = rw is_byte refl

take_one_more : (k b : ℕ) (bs : List ℕ) → take (1 + k) (b ∷ bs) ≡ b ∷ take k bs
take_one_more k b bs = let e : 1 + k ≡ suc k = omega arith in rw e refl

drop_one_more : (k b : ℕ) (bs : List ℕ) → drop (1 + k + 1) (b ∷ bs) ≡ drop (k + 1) bs
drop_one_more k b bs = let e : 1 + k + 1 ≡ suc (k + 1) = omega arith in rw e refl

byte_first : (p : ℕ → Bool) (at b : ℕ) (bs : List ℕ) → p b ≡ false → FirstRun p (at + 1) bs → FirstRun p at (b ∷ bs)
byte_first p at b bs is_byte rest =
    let k : ℕ = position_or_len p bs in
    let place : at + (1 + k) + 1 ≡ at + 1 + k + 1 = omega arith in
    rw (is_byte, rest, take_one_more k b bs, drop_one_more k b bs, place) refl

first_run : (p : ℕ → Bool) (at : ℕ) (xs : List ℕ) → 0 < length xs → FirstRun p at xs
first_run p at [] has = absurd (omega arith)
first_run p at (b ∷ []) has = ⊎_elim (cut_first p at b []) (one_byte p at b) (cases_Bool (p b))
first_run p at (b ∷ c ∷ bs) has =
    ⊎_elim (cut_first p at b (c ∷ bs))
    (λ is_byte. byte_first p at b (c ∷ bs) is_byte (first_run p (at + 1) (c ∷ bs) (omega arith)))
    (cases_Bool (p b))

slice_first : (xs : List ℕ) (at end k : ℕ) → k ≤ end - at → take k (slice_range xs at end) ≡ slice_range xs at (at + k)
slice_first xs at end k inside = let e : at + k - at ≡ k = omega arith in rw (take-take k (end - at) (drop at xs) inside, e) refl

slice_rest : (xs : List ℕ) (at end k : ℕ) → at ≤ end → end ≤ length xs → drop k (slice_range xs at end) ≡ slice_range xs (at + k) end
slice_rest xs at end k ordered inside = ⊎_elim
    (λ (past : end < at + k).
    let all : length (slice_range xs at end) ≤ k = omega (arith, length-slice_range xs at end ordered inside) in
    let none : end - (at + k) ≡ 0 = omega arith in
    rw (drop_all k (slice_range xs at end) all, none) refl)
    (λ (before : at + k ≤ end).
    let split : end - at ≡ k + (end - (at + k)) = omega arith in
    rw (split, drop-take k (end - (at + k)) (drop at xs), drop-drop k at xs) refl)
    (cases_lt end (at + k))

-- the first place in a part that passes a test is in the part, or its end
pub place_in_part : (p : ℕ → Bool) (xs : List ℕ) (at end : ℕ) → at ≤ end → end ≤ length xs → at + position_or_len p (slice_range xs at end) ≤ end
place_in_part p xs at end ordered inside =
    omega (arith, prefix_len-le-length (λ b. not (p b)) (slice_range xs at end), length-slice_range xs at end ordered inside)

-- what stands before the first byte of a part that passes a test
pub before_in_part : (p : ℕ → Bool) (xs : List ℕ) (at end stop : ℕ) → at ≤ end → end ≤ length xs
    → stop ≡ at + position_or_len p (slice_range xs at end) → before_first p (slice_range xs at end) ≡ slice_range xs at stop
before_in_part p xs at end stop ordered inside is_stop =
    let short : position_or_len p (slice_range xs at end) ≤ end - at = omega (arith, place_in_part p xs at end ordered inside) in
    slice_first xs at end _ short ∙ ap (slice_range xs at) (sym is_stop)

-- a part that has bytes begins with the run up to the first cut
pub next_run : (p : ℕ → Bool) (xs : List ℕ) (at end stop : ℕ) → at < end → end ≤ length xs
    → stop ≡ at + position_or_len p (slice_range xs at end)
    → runs p at (slice_range xs at end) ≡ run at (slice_range xs at stop) ∷ runs p (stop + 1) (slice_range xs (stop + 1) end)
next_run p xs at end stop ordered inside is_stop =
    let has : 0 < length (slice_range xs at end) = omega (arith, length-slice_range xs at end (omega arith) inside) in
    let place : at + (position_or_len p (slice_range xs at end) + 1) ≡ stop + 1 = omega arith in
    let begins : at + position_or_len p (slice_range xs at end) + 1 ≡ stop + 1 = omega arith in
    let rest : drop (position_or_len p (slice_range xs at end) + 1) (slice_range xs at end) ≡ slice_range xs (stop + 1) end =
    slice_rest xs at end (position_or_len p (slice_range xs at end) + 1) (omega arith) inside ∙ ap (λ k. slice_range xs k end) place in
    first_run p at (slice_range xs at end) has ∙ rw (before_in_part p xs at end stop (omega arith) inside is_stop, rest, begins) refl

-- a run that has bytes is a word
pub next_word : (p : ℕ → Bool) (xs : List ℕ) (at end stop : ℕ) → at < end → end ≤ length xs
    → stop ≡ at + position_or_len p (slice_range xs at end) → at < stop
    → filled (runs p at (slice_range xs at end)) ≡ run at (slice_range xs at stop) ∷ filled (runs p (stop + 1) (slice_range xs (stop + 1) end))
next_word p xs at end stop ordered inside is_stop has =
    let bound : stop ≤ end = omega (arith, place_in_part p xs at end (omega arith) inside) in
    let word : is_filled (slice_range xs at stop) ≡ true =
    is_filled_full _ (omega (arith, length-slice_range xs at stop (omega arith) (omega arith))) in
    rw (next_run p xs at end stop ordered inside is_stop, word) refl

-- a run without bytes is none
pub no_word : (p : ℕ → Bool) (xs : List ℕ) (at end stop : ℕ) → at < end → end ≤ length xs
    → stop ≡ at + position_or_len p (slice_range xs at end) → stop ≤ at
    → filled (runs p at (slice_range xs at end)) ≡ filled (runs p (stop + 1) (slice_range xs (stop + 1) end))
no_word p xs at end stop ordered inside is_stop none =
    let no_bytes : stop - at ≡ 0 = omega arith in
    rw (next_run p xs at end stop ordered inside is_stop, no_bytes) refl
