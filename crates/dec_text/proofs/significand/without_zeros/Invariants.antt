use Rattle.std.proofs.Common.{◌≡◌, ℕ, ◌+◌, ◌<◌, ◌≤◌, List}
use Rattle.dec_text.proofs.Fronts.{Digits, Front}
use Rattle.dec_text.specs.Digits.{number}
use Rattle.dec_text.proofs.significand.without_zeros.Given as goal

abbrev pub invariant-loop-rest : goal.invariant-loop-rest
invariant-loop-rest l = record {
  positive : 0 < l.rest;
  size : l.zeros + l.rest ≤ l.digits;
  front : (ds : List ℕ) → Digits ds → number ds ≡ l.digits → Front ds l.rest l.zeros;
}

abbrev pub decreases-loop-rest : goal.decreases-loop-rest
decreases-loop-rest l = l.rest
