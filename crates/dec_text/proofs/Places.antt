-- the first place in a part of a text that passes a test, where there is none
use Rattle.std.proofs.Common.{◌≡◌, ℕ, ◌+◌, ◌≤◌, Bool, List, length, None, arith, length-drop, length-take}
use Rattle.std.specs.List.{position, position_or_len, slice_range}
use Rattle.std.proofs.lemmas.List.Sums.{prefix_len-le-length}
use Rattle.std.proofs.lemmas.Bool.Decides.{nat_tests}

pub position_or_len-none : (p : ℕ → Bool) (xs : List ℕ) → None ≡ position p xs → position_or_len p xs ≡ length xs
position_or_len-none p xs none = grind (arith, nat_tests, prefix_len-le-length)

pub length-slice_range : (xs : List ℕ) (start end : ℕ) → start ≤ end → end ≤ length xs → start + length (slice_range xs start end) ≡ end
length-slice_range xs start end ordered inside = simp (length-take, length-drop) (omega arith)

-- then the first place is the end of the part
pub end_of_part : (p : ℕ → Bool) (xs : List ℕ) (start end : ℕ) → start ≤ end → end ≤ length xs
    → None ≡ position p (slice_range xs start end) → end ≡ start + position_or_len p (slice_range xs start end)
end_of_part p xs start end ordered inside none =
    omega (arith, position_or_len-none p (slice_range xs start end) none, length-slice_range xs start end ordered inside)
