use Rattle.std.proofs.Common.{◌≡◌, ap, sym, ◌∙◌}
use Rattle.std.specs.Option.{option_map}
use Rattle.kmc_base.specs.Entries.{least as least_of}
use Rattle.kmc_base.specs.declared.entry.Firing.{Firing}
use Rattle.process_queue.proofs.QueueEntries.{least-entries}
use Rattle.process_queue.specs.Queue.{Queue}
use Rattle.process_queue.proofs.queue.ProcessQueue.least.Goals as goal

pub returns : goal.returns
returns c =
    let value : c.first.result ≡ least_of c.args.self.now.entries
    = c.first.ensures ∙ least-entries c.self.inside.rooms.slab ∙ ap (λ (q : Queue). least_of q.entries) c.self.view_is in
    ap (option_map (λ (first : Firing). (first.time, first.code))) (sym c.in_ok-first.was ∙ value)

pub returns-in_err-first : goal.returns-in_err-first
returns-in_err-first c =
    let value : c.first.result ≡ least_of c.args.self.now.entries
    = c.first.ensures ∙ least-entries c.self.inside.rooms.slab ∙ ap (λ (q : Queue). least_of q.entries) c.self.view_is in
    c.from_residual.ensures ∙ ap (option_map (λ (first : Firing). (first.time, first.code))) (sym c.in_err-first.was ∙ value)
