-- The entries of a queue.
use Rattle.std.proofs.Common.{◌≡◌, ℕ, List, [], Option, length, sym, ap, ◌∙◌}
use Rattle.std.specs.Prelude.{filter_map}
use Rattle.process_queue.proofs.LeastFirings.{least-by_code, length-by_code}
use Rattle.process_queue.specs.ByCode.{by_code}
use Rattle.kmc_base.specs.Entries.{least}
use Rattle.kmc_base.specs.declared.entry.Entry.{Entry}
use Rattle.slab.proofs.DrainLemmas.{length-values}
use Rattle.slab.specs.Slab.{Slab, slab_len, values}
use Rattle.process_queue.specs.Queue.{Queue, empty_queue}
use Rattle.process_queue.specs.Rooms.{entries_of}

pub least-entries : (slab : Slab Entry) → least (values slab) ≡ least (entries_of slab)
least-entries slab = sym (least-by_code (values slab))

pub length-entries : (slab : Slab Entry) → slab_len slab ≡ length (entries_of slab)
length-entries slab = length-values slab.slots ∙ sym (length-by_code (values slab))

-- no entry
pub no-entries : (slab : Slab Entry) → slab.slots ≡ [] → entries_of slab ≡ []
unfolding by_code
no-entries slab empty = ap (λ (slots : List (Option Entry)). by_code (λ (e : Entry). e.code) (filter_map (λ slot. slot) slots)) empty

pub queue-is : (queue : Queue) (sites : ℕ) → queue.sites ≡ sites → queue.entries ≡ [] → queue ≡ empty_queue sites
queue-is queue sites same empty =
    ap (λ n. let q : Queue = record { sites = n; entries = queue.entries } in q) same ∙ ap (λ es. let q : Queue = record { sites = sites; entries = es } in q) empty
