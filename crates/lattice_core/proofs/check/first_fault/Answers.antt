use Rattle.std.proofs.Common.{◌≡◌, ◌<◌, ◌∙◌, is_some, length, sym, ap, arith, List}
use Rattle.std.proofs.lemmas.List.{length-map}
use Rattle.std.specs.declared.vec.Vec.{Vec}
use Rattle.std.specs.declared.alloc.Global.{Global}
use Rattle.kmc_base.specs.declared.ids.SiteId.{SiteId}
use Rattle.lattice_core.specs.SiteList.{site_numbers, number_lists}
use Rattle.lattice_core.proofs.Faults.{fault_here, fault_later, fault_none}
use Rattle.lattice_core.proofs.check.first_fault.Goals as goal

-- as many lists of numbers as lists
count-is : (lists : List (Vec SiteId Global)) → length (number_lists lists) ≡ length lists
count-is lists = length-map lists (λ (v : Vec SiteId Global). site_numbers v.items)

pub returns-then-is_some : goal.returns-then-is_some
returns-then-is_some c =
    let L = number_lists c.args.lists.now in
    let within : c.loop-site.site < length L = omega (arith, count-is c.args.lists.now) in
    let found = ap is_some (sym c.site_fault-fault.ensures) ∙ sym c.is_some.ensures ∙ c.if-is_some.true in
    c.site_fault-fault.ensures ∙ sym (fault_here L c.loop-site.site within found) ∙ c.loop-site.invariant

pub loop-site-preserved : goal.loop-site-preserved
loop-site-preserved c =
    let L = number_lists c.args.lists.now in
    let within : c.loop-site.site < length L = omega (arith, count-is c.args.lists.now) in
    let found = ap is_some (sym c.site_fault-fault.ensures) ∙ sym c.is_some.ensures ∙ c.if-is_some.false in
    fault_later L c.loop-site.site within found ∙ c.loop-site.invariant

pub returns : goal.returns
returns c = sym (fault_none (number_lists c.args.lists.now) c.loop-site.site (omega (arith, count-is c.args.lists.now))) ∙ c.loop-site.invariant
