-- What was done so far is a front of the piece; a failed write adds nothing to it.
use Rattle.std.proofs.Common.{◌++◌, take, ap, sym, ◌∙◌}
use Rattle.std.proofs.lemmas.List.{take_rest}
use Rattle.std.proofs.KnownBytes.{Appends-trans, Appends-kept}
use Rattle.kmc.proofs.Written.{front_appended, front_moved}
use Rattle.kmc.proofs.transfer.write_whole.Goals as goal
use Rattle.kmc.proofs.transfer.write_whole.Goals.{in-Ok, in-Err+else-ne}

pub returns-in-Ok-eq0-clause-err : goal.returns-in-Ok-eq0-clause-err
returns-in-Ok-eq0-clause-err g c =
    let (done, split, before) = c.loop.invariant in
    front_appended _ _ _ _ _ (front_moved _ done c.loop.left.now c.in-Ok-eq0.field-0 split) (Appends-trans _ _ _ _ _ before c.in-Ok-eq0.ensures.bytes)

pub returns-then-ne-clause-err : goal.returns-then-ne-clause-err
returns-then-ne-clause-err g c =
    let (done, split, before) = c.loop.invariant in
    front_appended _ _ _ _ _ split (Appends-kept _ _ _ _ before c.in-Err.ensures.bytes)

pub loop-preserved : goal.loop-preserved
loop-preserved g c =
    let (done, split, before) = c.loop.invariant in
    let rest = c.loop.left.now in
    elim c.match-write.branch [
      | in-Ok w ↦ (
        done ++ take w.in-Ok.taken rest,
        rw w.left-is (front_moved _ done rest w.in-Ok.taken split
            ∙ ap (λ l. (done ++ take w.in-Ok.taken rest) ++ l) (sym (take_rest rest w.in-Ok.taken))),
        Appends-trans _ _ _ _ _ before w.in-Ok.ensures.bytes,
      )
      | in-Err+else-ne w ↦ (done, rw w.left-is split, Appends-kept _ _ _ _ before w.in-Err.ensures.bytes)
    ]

pub returns-clause-err : goal.returns-clause-err
returns-clause-err g c =
    let (done, split, before) = c.loop.invariant in
    front_appended _ _ _ _ _ split before
