-- The writes of a whole run: those before the first event, and those at each.
use Rattle.std.proofs.Common.{◌≡◌, List, Result, Ok, Err, subst}
use Rattle.std.specs.List.{flat_map}
use Rattle.deck.specs.declared.deck.Deck.{Deck}
use Rattle.kmc_core.specs.Run.{ClosedRun}
use Rattle.kmc_run.proofs.WroteLemmas.{broke_first, wrote_broke, wrote_wrote}
use Rattle.kmc_run.specs.Samples.{events_from, writes_at, writes_before, run_writes}
use Rattle.kmc_run.specs.Writes.{BrokeOff, FolderState, Write, Wrote, WroteAll}
use Rattle.kmc_run.specs.declared.drive_fault.DriveFault.{DriveFault}

-- the writes at the events of a closed run from its event on
abbrev pub writes_from : ClosedRun → List Write
writes_from run = flat_map (writes_at run.deck) (events_from run.deck run.event)

-- the first writes failed
pub before_fails : (read deck : Deck) (fault : DriveFault) (x y : FolderState) → read ≡ deck
    → BrokeOff (writes_before read) fault x y → BrokeOff (run_writes deck) fault x y
before_fails read deck fault x y is p =
    broke_first (writes_before deck) (flat_map (writes_at deck) (events_from deck 0)) fault x y
    (subst (λ (d : Deck). BrokeOff (writes_before d) fault x y) is p)

-- the first writes were done, and then those at the events, or not all of them
events_done : (read deck : Deck) (run : ClosedRun) (x y z : FolderState) → read ≡ deck → run ≡ record { deck = deck; event = 0 } →
    WroteAll (writes_before read) x y → WroteAll (writes_from run) y z → WroteAll (run_writes deck) x z
events_done read deck run x y z is start p q =
    wrote_wrote (writes_before deck) (flat_map (writes_at deck) (events_from deck 0)) x y z
    (subst (λ (d : Deck). WroteAll (writes_before d) x y) is p) (subst (λ (r : ClosedRun). WroteAll (writes_from r) y z) start q)

events_fail : (read deck : Deck) (run : ClosedRun) (fault : DriveFault) (x y z : FolderState) → read ≡ deck
    → run ≡ record { deck = deck; event = 0 } →
    WroteAll (writes_before read) x y → BrokeOff (writes_from run) fault y z → BrokeOff (run_writes deck) fault x z
events_fail read deck run fault x y z is start p q =
    wrote_broke (writes_before deck) (flat_map (writes_at deck) (events_from deck 0)) fault x y z
    (subst (λ (d : Deck). WroteAll (writes_before d) x y) is p) (subst (λ (r : ClosedRun). BrokeOff (writes_from r) fault y z) start q)

pub events_wrote : {X : Type 0} (read deck : Deck) (run : ClosedRun) (r : Result X DriveFault) (x y z : FolderState) → read ≡ deck
    → run ≡ record { deck = deck; event = 0 } → WroteAll (writes_before read) x y → Wrote (writes_from run) r y z → Wrote (run_writes deck) r x z
events_wrote read deck run (Ok end) x y z is start p q = events_done read deck run x y z is start p q
events_wrote read deck run (Err fault) x y z is start p q = events_fail read deck run fault x y z is start p q
