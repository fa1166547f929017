use Rattle.std.proofs.Common.{◌≡◌, ◌+◌, ◌++◌, drop}
use Rattle.std.specs.List.{enumerate_from, flat_map}
use Rattle.zacros_output.specs.Procstat.{process_line, process_lines}
use Rattle.zacros_output.proofs.procstat.push_processes.Given as goal

-- the lines so far, and those of the processes that are left, are all of them
abbrev pub invariant-loop-place : goal.invariant-loop-place
invariant-loop-place l =
    l.out.items ++ flat_map (λ process. process_line process.0 process.1) (enumerate_from (l.place + 1) (drop l.place l.names))
    ≡ l.fn.out.items ++ process_lines l.names
