-- Writes one after another.
use Rattle.std.proofs.Common.{◌≡◌, ℕ, List, [], ◌∷◌, ◌++◌, Option, None, Some, Result, Ok, Err, IfErr, OnOk, refl, sym, ap, ◌∙◌, subst}
use Rattle.std.proofs.lemmas.List.{append_assoc}
use Rattle.kmc_base.specs.Outs.{Outs}
use Rattle.kmc_base.specs.Told.{Tells}
use Rattle.kmc_base.specs.declared.ids.OutId.{OutId}
use Rattle.kmc_run.specs.Writes.{Write, Append, Done, Ended, MayWrite, Stops, all_written, target_of, written}
use Rattle.kmc_run.specs.declared.drive_fault.DriveFault.{DriveFault}
use Rattle.kmc_run.specs.declared.drive_fault.DriveFault.TheVariants.{WriteFault, OutOfMemory}

pub all_written-append : (a b : List Write) (outs : Outs) → all_written (a ++ b) outs ≡ all_written b (all_written a outs)
all_written-append [] b outs = refl
all_written-append (w ∷ ws) b outs = all_written-append ws b (written w outs)

-- nothing written is all of no writes
pub done_none : (outs : Option Outs) → Done [] outs outs
done_none None = tt
done_none (Some o) = refl

-- no write was done
pub ended_none : (writes : List Write) (outs : Option Outs) → Ended writes OutOfMemory outs outs
ended_none writes None = tt
ended_none writes (Some o) = record { done = []; others = writes; all = refl; left = refl }

-- writes that were done, and then others
pub done_done : (a b : List Write) (x y z : Option Outs) → Done a x y → Done b y z → Done (a ++ b) x z
done_done a b x y None p q = tt
done_done a b x None (Some z) p q = absurd q
done_done a b None (Some y) (Some z) p q = absurd p
done_done a b (Some x) (Some y) (Some z) p q = q ∙ (ap (all_written b) p ∙ sym (all_written-append a b x))

-- writes that were done, and then others that stop
stops_later : (a b : List Write) (fault : DriveFault) (x y z : Outs) → y ≡ all_written a x → Stops b fault y z → Stops (a ++ b) fault x z
stops_later a b (WriteFault out) x y z p q = record {
  done = a ++ q.done;
  next = q.next;
  others = q.others;
  all = ap (λ ws. a ++ ws) q.all ∙ sym (append_assoc a q.done (q.next ∷ q.others));
  of = q.of;
  left = subst (λ (o : Outs). MayWrite q.next o z) (ap (all_written q.done) p ∙ sym (all_written-append a q.done x)) q.left;
}
stops_later a b OutOfMemory x y z p q = record {
  done = a ++ q.done;
  others = q.others;
  all = ap (λ ws. a ++ ws) q.all ∙ sym (append_assoc a q.done q.others);
  left = q.left ∙ (ap (all_written q.done) p ∙ sym (all_written-append a q.done x));
}

pub done_ended : (a b : List Write) (fault : DriveFault) (x y z : Option Outs) → Done a x y → Ended b fault y z → Ended (a ++ b) fault x z
done_ended a b fault x y None p q = tt
done_ended a b fault x None (Some z) p q = absurd q
done_ended a b fault None (Some y) (Some z) p q = absurd p
done_ended a b fault (Some x) (Some y) (Some z) p q = stops_later a b fault x y z p q

-- writes that stop, with others after them
stops_before : (a b : List Write) (fault : DriveFault) (x z : Outs) → Stops a fault x z → Stops (a ++ b) fault x z
stops_before a b (WriteFault out) x z q = record {
  done = q.done;
  next = q.next;
  others = q.others ++ b;
  all = ap (λ ws. ws ++ b) q.all ∙ append_assoc q.done (q.next ∷ q.others) b;
  of = q.of;
  left = q.left;
}
stops_before a b OutOfMemory x z q = record {
  done = q.done;
  others = q.others ++ b;
  all = ap (λ ws. ws ++ b) q.all ∙ append_assoc q.done q.others b;
  left = q.left;
}

pub ended_more : (a b : List Write) (fault : DriveFault) (x z : Option Outs) → Ended a fault x z → Ended (a ++ b) fault x z
ended_more a b fault x None q = tt
ended_more a b fault None (Some z) q = absurd q
ended_more a b fault (Some x) (Some z) q = stops_before a b fault x z q

-- the one write failed
pub fails_one : (w : Write) (x y : Option Outs) → Tells x y (MayWrite w) → Ended (w ∷ []) (WriteFault (target_of w)) x y
fails_one w x None p = tt
fails_one w None (Some y) p = absurd p
fails_one w (Some x) (Some y) p = record { done = []; next = w; others = []; all = refl; of = refl; left = p }

-- the same of a result: writes that were done, and then others that may stop
pub ended_then : (a b : List Write) (x y z : Option Outs) (r : Result (Unit {0}) DriveFault) → Done a x y
    → IfErr r (λ fault. Ended b fault y z) → IfErr r (λ fault. Ended (a ++ b) fault x z)
ended_then a b x y z (Ok u) p q = tt
ended_then a b x y z (Err fault) p q = done_ended a b fault x y z p q

-- the same of a last piece, by the text that it is
pub append_then : (a : List Write) (out : OutId) (text piece : List ℕ) (x y z : Option Outs)
    (r : Result (Unit {0}) DriveFault) → piece ≡ text → Done a x y →
    IfErr r (λ fault. Ended (Append out piece ∷ []) fault y z) → IfErr r (λ fault. Ended (a ++ Append out text ∷ []) fault x z)
append_then a out text piece x y z r is p q =
    ended_then a (Append out text ∷ []) x y z r p (subst (λ (t : List ℕ). IfErr r (λ fault. Ended (Append out t ∷ []) fault y z)) is q)

-- the same writes, said otherwise
pub ended_as : (a b : List Write) (fault : DriveFault) (x y : Option Outs) → a ≡ b → Ended a fault x y → Ended b fault x y
ended_as a b fault x y is p = subst (λ (ws : List Write). Ended ws fault x y) is p

pub ok_as : (a b : List Write) (x y : Option Outs) (r : Result (Unit {0}) DriveFault) → a ≡ b → OnOk r (Done a x y) → OnOk r (Done b x y)
ok_as a b x y r is p = subst (λ (ws : List Write). OnOk r (Done ws x y)) is p

pub err_as : (a b : List Write) (x y : Option Outs) (r : Result (Unit {0}) DriveFault) → a ≡ b
    → IfErr r (λ fault. Ended a fault x y) → IfErr r (λ fault. Ended b fault x y)
err_as a b x y r is p = subst (λ (ws : List Write). IfErr r (λ fault. Ended ws fault x y)) is p
