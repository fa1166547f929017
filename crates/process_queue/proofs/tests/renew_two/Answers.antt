use Rattle.process_queue.proofs.TestParts.{two-anchors, two-parts}
use Rattle.process_queue.proofs.tests.renew_two.Goals as goal

pub renew-requires-clause-anchors : goal.renew-requires-clause-anchors
renew-requires-clause-anchors c =
    two-anchors c.args.queue.now.sites c.args.low.anchor.0 c.args.high.anchor.0 c.requires.differ c.requires.within

pub renew-requires-clause-parts : goal.renew-requires-clause-parts
renew-requires-clause-parts c = two-parts c.args.low c.args.high c.requires.low c.requires.high
