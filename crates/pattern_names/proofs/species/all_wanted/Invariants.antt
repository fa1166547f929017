use Rattle.std.proofs.Common.{◌≡◌, drop, map}
use Rattle.pattern_names.specs.Species.{wanted_in}
use Rattle.deck_values.proofs.FaultLists.{joined}
use Rattle.deck_words.specs.Faults.{all_of, value_map}
use Rattle.pattern_rows.specs.Views.{state_at}
use Rattle.pattern_names.proofs.species.all_wanted.Given as goal

-- what the rows so far want, and those that are left, is what all of them want
abbrev pub invariant-loop-row : goal.invariant-loop-row
invariant-loop-row l =
    joined (value_map (λ v. v.items) l.wanted) (all_of (map (wanted_in l.book) (map (state_at l.bytes) (drop l.row-index l.rows))))
    ≡ all_of (map (wanted_in l.book) (map (state_at l.bytes) l.rows))
