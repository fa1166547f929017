use Rattle.std.proofs.Common.{◌≡◌, ℕ, ◌+◌, ◌*◌, ◌<◌, ◌==◌, count_by, get_or, length, take}
use Rattle.zacros_output.proofs.counting.count_homes.Given as goal

-- each count is that of the sites so far
abbrev pub invariant-loop-class : goal.invariant-loop-class
invariant-loop-class l = record {
  long : length l.counts.items ≡ l.species;
  counted : (place : ℕ) → place < l.species →
      get_or l.counts.items place 0 ≡ count_by (λ class. class == place * 8 + 1) (take l.class-index l.classes);
}
