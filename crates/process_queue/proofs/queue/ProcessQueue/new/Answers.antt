use Rattle.std.proofs.Common.{[], length, ap, sym, ◌∙◌}
use Rattle.std.proofs.lemmas.List.{length-replicate}
use Rattle.process_queue.proofs.QueueEntries.{no-entries, queue-is}
use Rattle.process_queue.proofs.VecLists.{length-rooms}
use Rattle.process_queue.proofs.queue.ProcessQueue.new.Goals as goal

pub returns : goal.returns
returns c =
    let lists = c.in_ok-empty_lists.field-0.items in
    let few = sym (length-rooms lists) ∙ ap length c.in_ok-empty_lists.ensures ∙ length-replicate c.args.sites [] in
    queue-is _ c.args.sites few (no-entries c.new.result.slab c.new.ensures)
