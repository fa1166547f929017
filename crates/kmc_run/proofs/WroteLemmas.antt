-- Calls that write, one after another.
use Rattle.std.proofs.Common.{◌≡◌, List, [], ◌++◌, Result, Ok, Err, IfErr, OnOk, refl, ◌∙◌, subst}
use Rattle.std.proofs.lemmas.List.{append-nil}
use Rattle.kmc_base.proofs.FaultLemmas.{same_then, failed_then}
use Rattle.kmc_run.proofs.WriteLemmas.{done_done, done_ended, done_none, ended_more, ended_none}
use Rattle.kmc_base.specs.declared.ids.OutId.{OutId}
use Rattle.kmc_base.specs.declared.ids.OutId.TheVariants.{History, Procstat, Specnum}
use Rattle.kmc_run.specs.Samples.{of_each}
use Rattle.kmc_base.specs.Faults.{OnlyFailed, SameCounts}
use Rattle.kmc_run.specs.Writes.{BrokeOff, Done, Ended, FolderState, ReadNothing, Write, Wrote, WroteAll, failed_output}
use Rattle.kmc_run.specs.declared.drive_fault.DriveFault.{DriveFault}
use Rattle.kmc_run.specs.declared.drive_fault.DriveFault.TheVariants.{OutOfMemory}

-- no call at all
read_none : (x : FolderState) → ReadNothing x x
read_none x = record { files = refl; faults = λ k. refl; loads = refl }

pub wrote_none : (x : FolderState) → WroteAll [] x x
wrote_none x = record { reads = read_none x; faults = λ k. refl; outs = done_none x.outs }

pub wrote_no : (writes : List Write) (x : FolderState) → [] ≡ writes → WroteAll writes x x
wrote_no writes x is = subst (λ (ws : List Write). WroteAll ws x x) is (wrote_none x)

-- memory ran out before any of the writes
pub broke_none : (writes : List Write) (x : FolderState) → BrokeOff writes OutOfMemory x x
broke_none writes x = record { reads = read_none x; faults = λ k. refl; outs = ended_none writes x.outs }

read_then : (x y z : FolderState) → ReadNothing x y → ReadNothing y z → ReadNothing x z
read_then x y z p q = record {
  files = q.files ∙ p.files;
  faults = same_then x.read_faults y.read_faults z.read_faults p.faults q.faults;
  loads = q.loads ∙ p.loads;
}

-- writes that were done, and then others
pub wrote_wrote : (a b : List Write) (x y z : FolderState) → WroteAll a x y → WroteAll b y z → WroteAll (a ++ b) x z
wrote_wrote a b x y z p q = record {
  reads = read_then x y z p.reads q.reads;
  faults = same_then x.write_faults y.write_faults z.write_faults p.faults q.faults;
  outs = done_done a b x.outs y.outs z.outs p.outs q.outs;
}

-- writes that were done, and then others that were broken off
pub wrote_broke : (a b : List Write) (fault : DriveFault) (x y z : FolderState) → WroteAll a x y → BrokeOff b fault y z
    → BrokeOff (a ++ b) fault x z
wrote_broke a b fault x y z p q = record {
  reads = read_then x y z p.reads q.reads;
  faults = failed_then _ x.write_faults y.write_faults z.write_faults p.faults q.faults;
  outs = done_ended a b fault x.outs y.outs z.outs p.outs q.outs;
}

-- the same of a result
pub wrote_then : {X : Type 0} (a b : List Write) (r : Result X DriveFault) (x y z : FolderState) → WroteAll a x y → Wrote b r y z
    → Wrote (a ++ b) r x z
wrote_then a b (Ok u) x y z p q = wrote_wrote a b x y z p q
wrote_then a b (Err fault) x y z p q = wrote_broke a b fault x y z p q

-- writes that were broken off, with others after them
pub broke_first : (a b : List Write) (fault : DriveFault) (x z : FolderState) → BrokeOff a fault x z → BrokeOff (a ++ b) fault x z
broke_first a b fault x z p = record { reads = p.reads; faults = p.faults; outs = ended_more a b fault x.outs z.outs p.outs }

-- writes that were done, and then memory ran out before others
pub wrote_some : (a b : List Write) (x z : FolderState) → WroteAll a x z → BrokeOff (a ++ b) OutOfMemory x z
wrote_some a b x z p = wrote_broke a b OutOfMemory x z z p (broke_none b z)

-- all was written, and then memory ran out
pub wrote_all : (a : List Write) (x z : FolderState) → WroteAll a x z → BrokeOff a OutOfMemory x z
wrote_all a x z p = subst (λ (ws : List Write). BrokeOff ws OutOfMemory x z) (append-nil a) (wrote_some a [] x z p)

-- the same writes, said otherwise
pub wrote_as : {X : Type 0} (a b : List Write) (r : Result X DriveFault) (x y : FolderState) → a ≡ b → Wrote a r x y → Wrote b r x y
wrote_as a b r x y is p = subst (λ (ws : List Write). Wrote ws r x y) is p

-- what three outputs make of it, one after another: the first is broken off, or the second, or the third ends it
pub each_first : (writes : OutId → List Write) (fault : DriveFault) (x y : FolderState) → BrokeOff (writes History) fault x y
    → BrokeOff (of_each writes) fault x y
each_first writes fault x y p = broke_first (writes History) (writes Procstat ++ writes Specnum) fault x y p

pub each_second : (writes : OutId → List Write) (fault : DriveFault) (x y z : FolderState) → WroteAll (writes History) x y
    → BrokeOff (writes Procstat) fault y z → BrokeOff (of_each writes) fault x z
each_second writes fault x y z p q =
    wrote_broke (writes History) (writes Procstat ++ writes Specnum) fault x y z p
    (broke_first (writes Procstat) (writes Specnum) fault y z q)

pub each_third : (writes : OutId → List Write) (r : Result (Unit {0}) DriveFault) (w x y z : FolderState) → WroteAll (writes History) w x
    → WroteAll (writes Procstat) x y → Wrote (writes Specnum) r y z → Wrote (of_each writes) r w z
each_third writes r w x y z p q o =
    wrote_then (writes History) (writes Procstat ++ writes Specnum) r w x z p (wrote_then (writes Procstat) (writes Specnum) r x y z q o)

-- what a call that writes leaves, one thing after another
pub wrote_ok : {X : Type 0} (a : List Write) (r : Result X DriveFault) (x y : FolderState) → Wrote a r x y → OnOk r (Done a x.outs y.outs)
wrote_ok a (Ok u) x y p = p.outs
wrote_ok a (Err fault) x y p = tt

pub wrote_err : {X : Type 0} (a : List Write) (r : Result X DriveFault) (x y : FolderState) → Wrote a r x y
    → IfErr r (λ fault. Ended a fault x.outs y.outs)
wrote_err a (Ok u) x y p = tt
wrote_err a (Err fault) x y p = p.outs

pub wrote_cause : {X : Type 0} (a : List Write) (r : Result X DriveFault) (x y : FolderState) → Wrote a r x y
    → IfErr r (λ fault. OnlyFailed (failed_output fault) x.write_faults y.write_faults)
wrote_cause a (Ok u) x y p = tt
wrote_cause a (Err fault) x y p = p.faults

pub wrote_no_fault : {X : Type 0} (a : List Write) (r : Result X DriveFault) (x y : FolderState) → Wrote a r x y
    → OnOk r (SameCounts x.write_faults y.write_faults)
wrote_no_fault a (Ok u) x y p = p.faults
wrote_no_fault a (Err fault) x y p = tt

pub wrote_reads : {X : Type 0} (a : List Write) (r : Result X DriveFault) (x y : FolderState) → Wrote a r x y → ReadNothing x y
wrote_reads a (Ok u) x y p = p.reads
wrote_reads a (Err fault) x y p = p.reads
