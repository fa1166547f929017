use Rattle.std.proofs.Common.{◌≡◌, ◌-◌, ◌≤◌, ℕ, length}
use Rattle.process_queue.specs.LeadTree.{lead_at}
use Rattle.process_queue.proofs.tree.lengthen.Given as goal

-- each node names what it named
abbrev pub invariant-loop-leads : goal.invariant-loop-leads
invariant-loop-leads l = record {
  same : (node : ℕ) → lead_at l.leads.items node ≡ lead_at l.initial.leads.items node;
  longer : length l.initial.leads.items ≤ length l.leads.items;
}

abbrev pub decreases-loop-leads : goal.decreases-loop-leads
decreases-loop-leads l = l.len - length l.leads.items
