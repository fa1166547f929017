-- a text has as many lines as line ends, and one more if something is behind the last of them
use Rattle.std.proofs.Common.{◌≡◌, ℕ, ◌+◌, ◌-◌, ◌<◌, Bool, true, false, List, [], ◌∷◌, length, get_or, suc, refl, sym, ◌∙◌, ap, arith, cond, ⊎_elim}
use Rattle.std.specs.List.{count_by}
use Rattle.std.proofs.lemmas.Bool.{cases_Bool, eqb-true}
use Rattle.std.proofs.lemmas.List.Sums.{sum_by-cons}
use Rattle.dec_text.specs.Bytes.{is_line_feed}
use Rattle.dec_text.specs.Lines.{Run, runs, with_byte}

with_byte-filled : (at b : ℕ) (rs : List Run) → 0 < length (with_byte at b rs)
with_byte-filled at b [] = omega arith
with_byte-filled at b (r ∷ rs) = omega arith

with_byte-length : (at b : ℕ) (rs : List Run) → 0 < length rs → length (with_byte at b rs) ≡ length rs
with_byte-length at b [] has = absurd (omega arith)
with_byte-length at b (r ∷ rs) has = refl

runs-filled : (p : ℕ → Bool) (at b : ℕ) (bs : List ℕ) → 0 < length (runs p at (b ∷ bs))
runs-filled p at b bs =
    ⊎_elim (λ cuts. rw cuts (omega arith)) (λ stays. rw stays (with_byte-filled at b (runs p (at + 1) bs))) (cases_Bool (p b))

-- a byte in front of others adds a line where it is a line end
count_first : (p : ℕ → Bool) (b : ℕ) (bs : List ℕ) (is : Bool) → p b ≡ is → count_by p (b ∷ bs) ≡ cond is 1 0 + count_by p bs
count_first p b bs is cuts = sum_by-cons (λ x. cond (p x) 1 0) b bs ∙ ap (λ t. cond t 1 0 + count_by p bs) cuts

runs_first : (p : ℕ → Bool) (at b c : ℕ) (bs : List ℕ) → p b ≡ true → length (runs p at (b ∷ c ∷ bs)) ≡ suc (length (runs p (at + 1) (c ∷ bs)))
runs_first p at b c bs cuts = rw cuts refl

runs_same : (p : ℕ → Bool) (at b c : ℕ) (bs : List ℕ) → p b ≡ false → length (runs p at (b ∷ c ∷ bs)) ≡ length (runs p (at + 1) (c ∷ bs))
runs_same p at b c bs stays = rw stays (with_byte-length at b (runs p (at + 1) (c ∷ bs)) (runs-filled p (at + 1) c bs))

count_step : (p : ℕ → Bool) (at b c : ℕ) (bs : List ℕ) (k : ℕ) → count_by p (c ∷ bs) + k ≡ length (runs p (at + 1) (c ∷ bs))
    → count_by p (b ∷ c ∷ bs) + k ≡ length (runs p at (b ∷ c ∷ bs))
count_step p at b c bs k rest = ⊎_elim
    (λ (cuts : p b ≡ true).
    rw (count_first p b (c ∷ bs) true cuts, runs_first p at b c bs cuts, ← rest) (omega arith))
    (λ (stays : p b ≡ false).
    rw (count_first p b (c ∷ bs) false stays, runs_same p at b c bs stays, ← rest) (omega arith))
    (cases_Bool (p b))

last_of_rest : (b c : ℕ) (bs : List ℕ) → get_or (b ∷ c ∷ bs) (length (b ∷ c ∷ bs) - 1) 0 ≡ get_or (c ∷ bs) (length (c ∷ bs) - 1) 0
last_of_rest b c bs = let e : length (b ∷ c ∷ bs) - 1 ≡ suc (length (c ∷ bs) - 1) = omega arith in rw e refl

one_line : (at b : ℕ) → b ≡ 10 → count_by is_line_feed (b ∷ []) + 0 ≡ length (runs is_line_feed at (b ∷ []))
one_line at b ends = rw ends refl

part_line : (at b : ℕ) → is_line_feed b ≡ false → count_by is_line_feed (b ∷ []) + 1 ≡ length (runs is_line_feed at (b ∷ []))
part_line at b stays = rw stays refl

pub ended : (at : ℕ) (text : List ℕ) → 0 < length text → get_or text (length text - 1) 0 ≡ 10
    → count_by is_line_feed text + 0 ≡ length (runs is_line_feed at text)
ended at [] has last = absurd (omega arith)
ended at (b ∷ []) has last = one_line at b last
ended at (b ∷ c ∷ bs) has last =
    count_step is_line_feed at b c bs 0 (ended (at + 1) (c ∷ bs) (omega arith) (sym (last_of_rest b c bs) ∙ last))

pub unended : (at : ℕ) (text : List ℕ) → 0 < length text → (get_or text (length text - 1) 0 ≡ 10 → ⊥)
    → count_by is_line_feed text + 1 ≡ length (runs is_line_feed at text)
unended at [] has last = absurd (omega arith)
unended at (b ∷ []) has last =
    ⊎_elim (λ ends. absurd (last (eqb-true b 10 ends))) (part_line at b) (cases_Bool (is_line_feed b))
unended at (b ∷ c ∷ bs) has last =
    count_step is_line_feed at b c bs 1 (unended (at + 1) (c ∷ bs) (omega arith) (λ ends. last (last_of_rest b c bs ∙ ends)))
