-- The time samples that show an event, written one after another.
use Rattle.std.proofs.Common.{◌≡◌, ℕ, ◌+◌, ◌≤◌, List, [], ◌++◌, Option, None, Some, refl, ap, sym, subst, ◌∙◌, arith}
use Rattle.std.proofs.lemmas.List.{append_assoc, append-nil}
use Rattle.std.specs.List.{flat_map}
use Rattle.deck.specs.declared.deck.Deck.{Deck}
use Rattle.kmc_base.specs.declared.ids.OutId.{OutId}
use Rattle.kmc_base.specs.declared.ids.OutId.TheVariants.{History, Procstat, Specnum}
use Rattle.kmc_report.proofs.DueAtEvents.{next-some}
use Rattle.kmc_report.proofs.DueBefore.{all-left, first-left, given-all, given-grows, given-more, none-left}
use Rattle.kmc_report.proofs.GivenSamples.{given-same}
use Rattle.kmc_report.specs.Sampler.{SamplerState, after_giving, given_before, given_of, next_before, next_if, one_more}
use Rattle.kmc_report.specs.Samples.{is_due_before, samples_left, sampling_of}
use Rattle.kmc_report.specs.declared.sampler.Given.{Given}
use Rattle.kmc_run.proofs.SampleLemmas.{given_same}
use Rattle.kmc_run.proofs.WroteLemmas.{broke_first, wrote_broke, wrote_none, wrote_wrote}
use Rattle.kmc_run.specs.Given.{with_given}
use Rattle.kmc_run.specs.Samples.{sample_write, time_of, time_writes}
use Rattle.kmc_run.specs.Writes.{BrokeOff, FolderState, Write, WroteAll}
use Rattle.kmc_run.specs.declared.drive_fault.DriveFault.{DriveFault}
use Rattle.run_plan.specs.Soundness.{IsPeriod}
use Rattle.run_plan.specs.declared.plan.Plan.{Plan}

-- the writes of the time samples that show an event and are left, from the next one on
abbrev left_writes : Deck → ℕ → ℕ → OutId → ℕ → List Write
left_writes deck event until out next = flat_map (sample_write deck event out) (samples_left (sampling_of deck.plan out) next until)

-- the writes of the time samples before the next one are done
pub record Sent (deck : Deck) (event until : ℕ) (out : OutId) (next : ℕ) (x y : FolderState) : Type 0 where
  pub writes : List Write
  pub all : writes ++ flat_map (sample_write deck event out) (samples_left (sampling_of deck.plan out) next until) ≡ time_writes deck event until out
  pub done : WroteAll writes x y

-- none is, where all samples up to the event's time were given
pub sent_none : (deck : Deck) (event until : ℕ) (out : OutId) (next : ℕ) (x : FolderState)
    → next ≡ given_before (sampling_of deck.plan out) (event + 1) (time_of deck event) → Sent deck event until out next x x
sent_none deck event until out next x is = record {
  writes = [];
  all = ap (left_writes deck event until out) is
      ∙ ap (flat_map (sample_write deck event out)) (sym (all-left (sampling_of deck.plan out) (event + 1) (time_of deck event) until));
  done = wrote_none x;
}

-- the sample that is given is the next one, and the first that is left
next_left : (deck : Deck) (event until : ℕ) (out : OutId) (next number : ℕ) → IsPeriod (sampling_of deck.plan out)
    → next_if (is_due_before (sampling_of deck.plan out) until next) next ≡ Some number
    → left_writes deck event until out next ≡ sample_write deck event out number ++ left_writes deck event until out (number + 1)
next_left deck event until out next number period is =
    ap (flat_map (sample_write deck event out)) (first-left (sampling_of deck.plan out) until next number period is)

pub sent_one : (deck : Deck) (event until : ℕ) (out : OutId) (next number : ℕ) (x y z : FolderState) → IsPeriod (sampling_of deck.plan out)
    → next_if (is_due_before (sampling_of deck.plan out) until next) next ≡ Some number → Sent deck event until out next x y
    → WroteAll (sample_write deck event out number) y z → Sent deck event until out (number + 1) x z
sent_one deck event until out next number x y z period is sent wrote = record {
  writes = sent.writes ++ sample_write deck event out number;
  all = append_assoc sent.writes (sample_write deck event out number) (left_writes deck event until out (number + 1))
      ∙ (ap (λ ws. sent.writes ++ ws) (sym (next_left deck event until out next number period is)) ∙ sent.all);
  done = wrote_wrote sent.writes (sample_write deck event out number) x y z sent.done wrote;
}

-- its write was broken off
pub sent_fails : (deck : Deck) (event until : ℕ) (out : OutId) (next number : ℕ) (fault : DriveFault) (x y z : FolderState)
    → IsPeriod (sampling_of deck.plan out) → next_if (is_due_before (sampling_of deck.plan out) until next) next ≡ Some number
    → Sent deck event until out next x y → BrokeOff (sample_write deck event out number) fault y z
    → BrokeOff (time_writes deck event until out) fault x z
sent_fails deck event until out next number fault x y z period is sent broke =
    subst (λ (ws : List Write). BrokeOff ws fault x z)
    (ap (λ ws. sent.writes ++ ws) (sym (next_left deck event until out next number period is)) ∙ sent.all)
    (wrote_broke sent.writes (sample_write deck event out number ++ left_writes deck event until out (number + 1)) fault x y z sent.done
    (broke_first (sample_write deck event out number) (left_writes deck event until out (number + 1)) fault y z broke))

-- where none is given, all are written
pub sent_all : (deck : Deck) (event until : ℕ) (out : OutId) (next : ℕ) (x y : FolderState) → IsPeriod (sampling_of deck.plan out)
    → next_if (is_due_before (sampling_of deck.plan out) until next) next ≡ None → Sent deck event until out next x y
    → WroteAll (time_writes deck event until out) x y
sent_all deck event until out next x y period is sent =
    subst (λ (ws : List Write). WroteAll ws x y)
    (sym (append-nil sent.writes)
    ∙ (ap (λ ws. sent.writes ++ ws) (ap (flat_map (sample_write deck event out)) (sym (none-left (sampling_of deck.plan out) until next period is)))
    ∙ sent.all))
    sent.done

-- what a sampler gives before a time, by the plan
before_read : (sampler : SamplerState) (plan : Plan) (out : OutId) (until : ℕ) (r : Option ℕ) → sampler.plan ≡ plan
    → r ≡ next_before sampler out until
    → next_if (is_due_before (sampling_of plan out) until (given_of sampler.given out)) (given_of sampler.given out) ≡ r
before_read sampler plan out until r same is =
    sym (is ∙ ap (λ p. next_if (is_due_before (sampling_of p out) until (given_of sampler.given out)) (given_of sampler.given out)) same)

-- only the samples of one output have become more
others_same : (first given : Given) (out : OutId) → given ≡ with_given first out (given_of given out)
    → one_more given out ≡ with_given first out (given_of (one_more given out) out)
others_same first given History is = ap (λ g. with_given g History (given.history + 1)) is
others_same first given Procstat is = ap (λ g. with_given g Procstat (given.procstat + 1)) is
others_same first given Specnum is = ap (λ g. with_given g Specnum (given.specnum + 1)) is

-- how many samples of an output were given up to an event and a time
abbrev given_at : Deck → ℕ → OutId → ℕ → ℕ
given_at deck event out time = given_before (sampling_of deck.plan out) (event + 1) time

-- The time samples of an output that show an event are being written: those that the sampler has given since the first.
pub record Sending (deck : Deck) (event until : ℕ) (out : OutId) (first : SamplerState) (x : FolderState) (now : SamplerState) (y : FolderState)
    : Type 0 where
  pub plan : now.plan ≡ first.plan
  pub others : now.given ≡ with_given first.given out (given_of now.given out)
  pub low : given_before (sampling_of deck.plan out) (event + 1) (time_of deck event) ≤ given_of now.given out
  pub high : IsPeriod (sampling_of deck.plan out)
      → given_of now.given out ≤ given_before (sampling_of deck.plan out) (event + 1) until
  pub sent : Sent deck event until out (given_of now.given out) x y

pub sending_start : (deck : Deck) (event until : ℕ) (out : OutId) (first : SamplerState) (x : FolderState) → first.plan ≡ deck.plan
    → given_of first.given out ≡ given_before (sampling_of first.plan out) (event + 1) (time_of deck event) → time_of deck event ≤ until
    → Sending deck event until out first x first x
sending_start deck event until out first x plan all le =
    let read : given_of first.given out ≡ given_at deck event out (time_of deck event)
    = all ∙ ap (λ p. given_before (sampling_of p out) (event + 1) (time_of deck event)) plan in
    record {
      plan = refl;
      others = given_same first.given out (given_of first.given out) refl;
      low = omega (arith, read);
      high = λ period.
          let grows : given_at deck event out (time_of deck event) ≤ given_at deck event out until
          = given-grows (sampling_of deck.plan out) (event + 1) (time_of deck event) until period le in
          omega (arith, read, grows);
      sent = sent_none deck event until out (given_of first.given out) x read;
    }

-- the period of the output, by the sampler
period_of : (deck : Deck) (out : OutId) (first now : SamplerState) → first.plan ≡ deck.plan → now.plan ≡ first.plan
    → IsPeriod (sampling_of now.plan out) → IsPeriod (sampling_of deck.plan out)
period_of deck out first now plan same period = subst (λ (p : Plan). IsPeriod (sampling_of p out)) (same ∙ plan) period

sending_one : (deck : Deck) (event until : ℕ) (out : OutId) (first : SamplerState) (x : FolderState) (now : SamplerState) (y z : FolderState)
    (number : ℕ) → first.plan ≡ deck.plan → Sending deck event until out first x now y → IsPeriod (sampling_of deck.plan out)
    → next_if (is_due_before (sampling_of deck.plan out) until (given_of now.given out)) (given_of now.given out) ≡ Some number
    → WroteAll (sample_write deck event out number) y z
    → Sending deck event until out first x (after_giving now out (Some number)) z
sending_one deck event until out first x now y z number plan s period is wrote =
    let count : given_of (one_more now.given out) out ≡ given_of now.given out + 1 = given-same now.given out in
    let same : number ≡ given_of now.given out
    = (next-some (is_due_before (sampling_of deck.plan out) until (given_of now.given out)) (given_of now.given out) number is).2 in
    let more : number + 1 ≤ given_at deck event out until
    = given-more (sampling_of deck.plan out) (event + 1) until (given_of now.given out) number period is in
    let low : given_at deck event out (time_of deck event) ≤ given_of now.given out = s.low in
    let next : number + 1 ≡ given_of (one_more now.given out) out = omega (arith, count, same) in
    record {
      plan = s.plan;
      others = others_same first.given now.given out s.others;
      low = omega (arith, count, low);
      high = λ p. omega (arith, next, more);
      sent = subst (λ (n : ℕ). Sent deck event until out n x z) next
          (sent_one deck event until out (given_of now.given out) number x y z period is s.sent wrote);
    }

-- one more sample is given and written
pub sending_on : (deck : Deck) (event until : ℕ) (out : OutId) (first : SamplerState) (x : FolderState) (now : SamplerState) (y z : FolderState)
    (number : ℕ) (next : SamplerState) → first.plan ≡ deck.plan → Sending deck event until out first x now y → IsPeriod (sampling_of now.plan out)
    → Some number ≡ next_before now out until → next ≡ after_giving now out (Some number)
    → WroteAll (sample_write deck event out number) y z → Sending deck event until out first x next z
sending_on deck event until out first x now y z number next plan s period gives is wrote =
    subst (λ (n : SamplerState). Sending deck event until out first x n z) (sym is)
    (sending_one deck event until out first x now y z number plan s (period_of deck out first now plan s.plan period)
    (before_read now deck.plan out until (Some number) (s.plan ∙ plan) gives) wrote)

-- what is left of them becomes less
pub sending_less : (deck : Deck) (event until : ℕ) (out : OutId) (first : SamplerState) (x : FolderState) (now : SamplerState) (y : FolderState)
    (number : ℕ) (next : SamplerState) → first.plan ≡ deck.plan → Sending deck event until out first x now y → IsPeriod (sampling_of now.plan out)
    → Some number ≡ next_before now out until → next ≡ after_giving now out (Some number)
    → (given_of next.given out ≡ given_of now.given out + 1)
    × (given_of now.given out + 1 ≤ given_before (sampling_of deck.plan out) (event + 1) until)
sending_less deck event until out first x now y number next plan s period gives is =
    let due = before_read now deck.plan out until (Some number) (s.plan ∙ plan) gives in
    let same : number ≡ given_of now.given out
    = (next-some (is_due_before (sampling_of deck.plan out) until (given_of now.given out)) (given_of now.given out) number due).2 in
    let more : number + 1 ≤ given_at deck event out until
    = given-more (sampling_of deck.plan out) (event + 1) until (given_of now.given out) number (period_of deck out first now plan s.plan period) due in
    (ap (λ n. given_of n.given out) is ∙ given-same now.given out, omega (arith, same, more))

-- the write of the sample that is given is broken off
pub sending_fails : (deck : Deck) (event until : ℕ) (out : OutId) (first : SamplerState) (x : FolderState) (now : SamplerState)
    (y z : FolderState) (number : ℕ) (fault : DriveFault) → first.plan ≡ deck.plan → Sending deck event until out first x now y
    → IsPeriod (sampling_of now.plan out) → Some number ≡ next_before now out until
    → BrokeOff (sample_write deck event out number) fault y z → BrokeOff (time_writes deck event until out) fault x z
sending_fails deck event until out first x now y z number fault plan s period gives broke =
    sent_fails deck event until out (given_of now.given out) number fault x y z (period_of deck out first now plan s.plan period)
    (before_read now deck.plan out until (Some number) (s.plan ∙ plan) gives) s.sent broke

-- none is given: all are written
pub sending_wrote : (deck : Deck) (event until : ℕ) (out : OutId) (first : SamplerState) (x : FolderState) (now : SamplerState) (y : FolderState)
    → first.plan ≡ deck.plan → Sending deck event until out first x now y → IsPeriod (sampling_of now.plan out)
    → None ≡ next_before now out until → WroteAll (time_writes deck event until out) x y
sending_wrote deck event until out first x now y plan s period gives =
    sent_all deck event until out (given_of now.given out) x y (period_of deck out first now plan s.plan period)
    (before_read now deck.plan out until None (s.plan ∙ plan) gives) s.sent

-- and all are given
pub sending_gave : (deck : Deck) (event until : ℕ) (out : OutId) (first : SamplerState) (x : FolderState) (now : SamplerState) (y : FolderState)
    (next : SamplerState) → first.plan ≡ deck.plan → Sending deck event until out first x now y → IsPeriod (sampling_of now.plan out)
    → None ≡ next_before now out until → next ≡ after_giving now out None
    → next ≡ record { plan = first.plan; given = with_given first.given out (given_before (sampling_of first.plan out) (event + 1) until) }
sending_gave deck event until out first x now y next plan s period gives is =
    let own = period_of deck out first now plan s.plan period in
    let all : given_of now.given out ≡ given_at deck event out until
    = given-all (sampling_of deck.plan out) (event + 1) (time_of deck event) until (given_of now.given out) own s.low (s.high own)
    (before_read now deck.plan out until None (s.plan ∙ plan) gives) in
    let given : now.given ≡ with_given first.given out (given_before (sampling_of first.plan out) (event + 1) until)
    = s.others ∙ ap (with_given first.given out)
    (all ∙ ap (λ p. given_before (sampling_of p out) (event + 1) until) (sym plan)) in
    is ∙ (λ i. record { plan = s.plan i; given = given i })
