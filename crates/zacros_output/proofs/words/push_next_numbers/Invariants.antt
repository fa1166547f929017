use Rattle.std.proofs.Common.{◌≡◌, ◌++◌, drop}
use Rattle.zacros_output.specs.Words.{next_numbers}
use Rattle.zacros_output.proofs.words.push_next_numbers.Given as goal

-- the numbers so far, and those that are left, are all of them
abbrev pub invariant-loop-number : goal.invariant-loop-number
invariant-loop-number l = l.out.items ++ next_numbers (drop l.number-index l.numbers) ≡ l.fn.out.items ++ next_numbers l.numbers
