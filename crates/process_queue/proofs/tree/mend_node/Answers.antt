use Rattle.std.proofs.Common.{◌≡◌, ap, sym, ◌∙◌, rules}
use Rattle.process_queue.specs.LeadTree.{IsRight, lead_at, lead_from}
use Rattle.process_queue.proofs.LeadTrees.{right-above, right-everywhere, right-root}
use Rattle.process_queue.proofs.tree.mend_node.Goals as goal

-- the node names what it should
stays : (c : goal.Then-eq) → IsRight c.args.slab.now.slots c.args.leads.now.items
stays c =
    let same : c.lead_at.result ≡ c.lead_from-lead.result = search rules in
    right-everywhere c.args.slab.now.slots c.args.leads.now.items c.args.node c.requires.others
    (sym (ap (λ leads. lead_at leads c.args.node) c.deref-2.ensures.value) ∙ sym c.lead_at.ensures.value ∙ same
    ∙ c.lead_from-lead.ensures.value ∙ ap (λ leads. lead_from c.args.slab.now.slots leads c.args.node) c.deref.ensures.value)

pub returns-then-eq-clause-stays : goal.returns-then-eq-clause-stays
returns-then-eq-clause-stays c = λ same. stays c

pub returns-then-eq-clause-root : goal.returns-then-eq-clause-root
returns-then-eq-clause-root c = λ root. stays c

pub returns-then-eq-clause-above : goal.returns-then-eq-clause-above
returns-then-eq-clause-above c = λ some node other. stays c node

mended : (c : goal.After-leads-1) → c.new.result ≡ lead_from c.args.slab.now.slots c.args.leads.now.items c.args.node
mended c = c.new.ensures ∙ c.lead_from-lead.ensures.value
    ∙ ap (λ leads. lead_from c.args.slab.now.slots leads c.args.node) c.deref.ensures.value

pub returns-clause-root : goal.returns-clause-root
returns-clause-root c =
    right-root c.args.slab.now.slots c.args.leads.now.items c.args.node c.new.result c.requires.within (mended c) c.requires.others

pub returns-clause-above : goal.returns-clause-above
returns-clause-above c =
    right-above c.args.slab.now.slots c.args.leads.now.items c.args.node c.new.result c.requires.within (mended c) c.requires.others
