use Rattle.std.proofs.Common.{◌≡◌, ◌<◌, length}
use Rattle.process_queue.specs.LeadTree.{IsRightBut}
use Rattle.process_queue.proofs.tree.mend.Given as goal

-- all nodes but this one name what they should
abbrev pub invariant-loop-node : goal.invariant-loop-node
invariant-loop-node l = record {
  within : l.node < length l.leads.items;
  len : length l.leads.items ≡ length l.initial.leads.items;
  others : IsRightBut l.slab.slots l.leads.items l.node;
}

abbrev pub decreases-loop-node : goal.decreases-loop-node
decreases-loop-node l = l.node
