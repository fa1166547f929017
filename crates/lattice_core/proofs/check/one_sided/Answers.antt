use Rattle.std.proofs.Common.{◌<◌, ◌∙◌, not, length, sym, arith, refl}
use Rattle.lattice_core.specs.SiteList.{number_lists, is_listed, list_of}
use Rattle.lattice_core.proofs.Finding.{find_site_here, find_site_later, All-number}
use Rattle.lattice_core.proofs.check.one_sided.Goals as goal

pub list_at-requires : goal.list_at-requires
list_at-requires c =
    record { inside = All-number (λ t. t < length c.args.lists.now) c.args.list.now c.loop-other.other-index (omega arith) c.requires.sites }

pub returns-then-not-has_site : goal.returns-then-not-has_site
returns-then-not-has_site c =
    sym (find_site_here (λ t. not (is_listed (list_of (number_lists c.args.lists.now) t) c.args.site.0))
    c.args.list.now c.loop-other.other-index (omega arith)
    (rw (← c.list_at.ensures, ← c.has_site.ensures, c.if-not-has_site.true) refl)) ∙ c.loop-other.invariant

pub loop-other-preserved : goal.loop-other-preserved
loop-other-preserved c =
    find_site_later (λ t. not (is_listed (list_of (number_lists c.args.lists.now) t) c.args.site.0)) c.args.list.now
    c.loop-other.other-index (omega arith)
    (rw (← c.list_at.ensures, ← c.has_site.ensures, c.if-not-has_site.false) refl) ∙ c.loop-other.invariant
