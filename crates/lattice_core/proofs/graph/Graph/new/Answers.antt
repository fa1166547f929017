use Rattle.std.proofs.Common.{◌≡◌, ◌∙◌, ℕ, List, length, map, subst, sym, ap, arith}
use Rattle.std.specs.Vec.{with_items}
use Rattle.std.proofs.lemmas.List.{with_items_is, length-map}
use Rattle.std.specs.declared.vec.Vec.{Vec}
use Rattle.std.specs.declared.alloc.Global.{Global}
use Rattle.kmc_base.specs.declared.ids.SiteId.{SiteId}
use Rattle.lattice_core.specs.Fault.{first_fault}
use Rattle.lattice_core.specs.Lattice.{Lattice}
use Rattle.lattice_core.specs.SiteList.{site_numbers, number_lists, merged, AreMerged}
use Rattle.lattice_core.proofs.Sound.{first_fault-same, lattice-from_sound, lists-merged}
use Rattle.lattice_core.proofs.graph.Graph.new.Goals as goal
use Rattle.lattice_core.proofs.graph.Graph.new.Goals.{After-first_fault}

-- as many lists of numbers as lists
count-is : (lists : List (Vec SiteId Global)) → length (number_lists lists) ≡ length lists
count-is lists = length-map lists (λ (v : Vec SiteId Global). site_numbers v.items)

-- the lists are the sorted ones
kept : (c : After-first_fault) → (with_items c.args.neighbours c.sort_lists.new.lists).items ≡ c.sort_lists.new.lists
kept c = with_items_is c.args.neighbours c.sort_lists.new.lists (omega arith)

sorted : (c : After-first_fault) → AreMerged (number_lists c.args.neighbours.items) (number_lists c.sort_lists.new.lists)
sorted c = subst (λ l. AreMerged (number_lists l) (number_lists c.sort_lists.new.lists)) c.deref_mut.ensures.value c.sort_lists.ensures

-- the fault that was found is that of the arguments
is_fault : (c : After-first_fault) → c.first_fault.result ≡ first_fault (number_lists c.args.neighbours.items)
is_fault c =
    c.first_fault.ensures
    ∙ ap (λ l. first_fault (number_lists l)) (c.deref.ensures.value ∙ kept c)
    ∙ first_fault-same _ _ (sorted c)

pub returns-in-Some-clause-fault : goal.returns-in-Some-clause-fault
returns-in-Some-clause-fault c = sym (is_fault (goal.at.returns-in-Some-clause-fault c).After-first_fault) ∙ c.in-Some.is

pub returns-in-None-clause-sound : goal.returns-in-None-clause-sound
returns-in-None-clause-sound c = sym (is_fault (goal.at.returns-in-None-clause-sound c).After-first_fault) ∙ c.in-None.is

pub invariant_of-result : goal.invariant_of-result
invariant_of-result c =
    let at = (goal.at.invariant_of-result c).After-first_fault in
    let none = first_fault-same _ _ (sorted at) ∙ sym (is_fault at) ∙ c.in-None.is in
    let lengths : length c.args.types.items ≡ length (number_lists c.sort_lists.new.lists) = omega (arith, count-is c.sort_lists.new.lists) in
    rw (kept at) (lattice-from_sound (number_lists c.sort_lists.new.lists) (sorted at).rising c.args.types.items
    lengths (omega arith) (omega arith) none)

pub returns-in-None-clause-graph : goal.returns-in-None-clause-graph
returns-in-None-clause-graph c =
    let at = (goal.at.returns-in-None-clause-graph c).After-first_fault in
    let L = number_lists c.args.neighbours.items in
    let none = first_fault-same _ _ (sorted at) ∙ sym (is_fault at) ∙ c.in-None.is in
    let lengths : length L ≡ length c.args.types.items = omega (arith, count-is c.args.neighbours.items) in
    let with_lists : List (List ℕ) → Lattice = λ lists. record { types = c.args.types.items; neighbours = lists } in
    ap with_lists (ap number_lists (kept at) ∙ lists-merged _ _ (sorted at) none ∙ ap (λ n. map (merged n) L) lengths)
