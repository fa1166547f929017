-- what is read of a file goes by what the lines above have given
use Rattle.std.proofs.Common.{◌≡◌, ℕ, true, false, List, [], ◌∷◌, ◌++◌, None, is_some, refl, ap, sym, ◌∙◌, ⊎_elim}
use Rattle.std.proofs.lemmas.Bool.{cases_Bool}
use Rattle.dec_text.specs.Lines.{WordLine}
use Rattle.deck_shape.specs.LineFaults.{closes_file, fault_at, read_below}
use Rattle.deck_shape.specs.Reading.{SoFar, after_line, read_after}

pub read_after-last : (first : SoFar) (above : List WordLine) (line : WordLine)
    → read_after first (above ++ line ∷ []) ≡ after_line line (read_after first above)
read_after-last first [] line = refl
read_after-last first (x ∷ above) line = read_after-last (after_line x first) above line

passed : (first : SoFar) (above : List WordLine) (line : WordLine) (lines : List WordLine) (count : ℕ)
    → is_some (fault_at (read_after first above) line) ≡ false → closes_file (read_after first above) line ≡ false
    → read_below first above (line ∷ lines) count ≡ read_below first (above ++ line ∷ []) lines count
passed first above line lines count none goes_on = rw (none, goes_on) refl

-- what is above may as well be read before
from_above : (first : SoFar) (above lines : List WordLine) (count : ℕ)
    → read_below first above lines count ≡ read_below (read_after first above) [] lines count
from_above first above [] count = refl
from_above first above (line ∷ lines) count =
    let so_far = read_after first above in
    let rest : read_below first (above ++ line ∷ []) lines count ≡ read_below so_far (line ∷ []) lines count =
    from_above first (above ++ line ∷ []) lines count
    ∙ ap (λ s. read_below s [] lines count) (read_after-last first above line)
    ∙ sym (from_above so_far (line ∷ []) lines count) in
    ⊎_elim
    (λ (faulty : is_some (fault_at so_far line) ≡ true). rw faulty refl)
    (λ (none : is_some (fault_at so_far line) ≡ false).
    ⊎_elim
    (λ (closes : closes_file so_far line ≡ true). rw (none, closes) refl)
    (λ (goes_on : closes_file so_far line ≡ false).
    passed first above line lines count none goes_on ∙ rest ∙ sym (passed so_far [] line lines count none goes_on))
    (cases_Bool (closes_file so_far line)))
    (cases_Bool (is_some (fault_at so_far line)))

-- where a line without faults does not close it
pub passed_line : (first : SoFar) (line : WordLine) (lines : List WordLine) (count : ℕ) → fault_at first line ≡ None → closes_file first line ≡ false
    → read_below first [] (line ∷ lines) count ≡ read_below (after_line line first) [] lines count
passed_line first line lines count none goes_on =
    passed first [] line lines count (ap is_some none) goes_on ∙ from_above first (line ∷ []) lines count
