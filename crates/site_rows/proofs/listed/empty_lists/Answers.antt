use Rattle.std.proofs.Common.{arith}
use Rattle.site_rows.proofs.Placed.{lists_pushed}
use Rattle.site_rows.proofs.listed.empty_lists.Goals as goal

pub loop-site-preserved : goal.loop-site-preserved
loop-site-preserved c =
    lists_pushed c.loop-site.lists.items c.push.new.self.items c.new.result c.args.sites c.loop-site._site
    c.in_ok-push.ensures.items c.new.ensures.items
    (omega arith) c.loop-site.invariant
