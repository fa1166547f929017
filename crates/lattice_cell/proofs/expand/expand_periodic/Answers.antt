use Rattle.std.proofs.Common.{ℕ, ◌≡◌, ◌*◌, ◌%◌, ◌∙◌, List, length, map, slice_index, ap, arith, sym, inr}
use Rattle.std.proofs.lemmas.List.{length-map}
use Rattle.std.proofs.lemmas.List.FromFn.{length-map-range_with_len}
use Rattle.std.proofs.lemmas.Option.{none-some}
use Rattle.std.proofs.lemmas.Result.{IfOk-weaker, IfErr-weaker}
use Rattle.std.specs.List.{range_with_len}
use Rattle.std.specs.declared.vec.Vec.{Vec}
use Rattle.std.specs.declared.alloc.Global.{Global}
use Rattle.kmc_base.specs.declared.ids.SiteId.{SiteId}
use Rattle.lattice_core.specs.Fault.{first_fault}
use Rattle.lattice_core.specs.Lattice.{Lattice}
use Rattle.lattice_core.specs.SiteList.{site_numbers, number_lists, merged}
use Rattle.lattice_core.proofs.Sound.{first_fault-same, lists-merged}
use Rattle.lattice_cell.specs.Periodic.{neighbour_lists}
use Rattle.lattice_cell.proofs.Merged.{IfOk-both}
use Rattle.lattice_cell.proofs.NoFault.{no_first_fault}
use Rattle.lattice_cell.proofs.expand.expand_periodic.Goals as goal
use Rattle.lattice_cell.proofs.expand.expand_periodic.Goals.{After-new}

-- there is a type for each site
count-types : (ts : List ℕ) (cell : List ℕ) (count : ℕ)
    → ts ≡ map (λ s. slice_index cell (s % length cell)) (range_with_len 0 count) → length ts ≡ count
count-types ts cell count is = ap length is ∙ length-map-range_with_len (λ s. slice_index cell (s % length cell)) 0 count

pub new-requires-clause-same_length : goal.new-requires-clause-same_length
new-requires-clause-same_length c =
    let types = c.in_ok-site_types.site_types in
    let count = count-types types.items c.args.types.now (c.args.nx * c.args.ny * length c.args.types.now) c.in_ok-site_types.ensures in
    omega (arith, count, types.ok.0, c.in_ok-lists.ensures.count)

pub new-requires-clause-has_a_site : goal.new-requires-clause-has_a_site
new-requires-clause-has_a_site c =
    let types = c.in_ok-site_types.site_types in
    let count = count-types types.items c.args.types.now (c.args.nx * c.args.ny * length c.args.types.now) c.in_ok-site_types.ensures in
    omega (arith, count, types.ok.0, c.requires.has_a_site)

pub new-requires-clause-within_limit : goal.new-requires-clause-within_limit
new-requires-clause-within_limit c =
    let types = c.in_ok-site_types.site_types in
    let count = count-types types.items c.args.types.now (c.args.nx * c.args.ny * length c.args.types.now) c.in_ok-site_types.ensures in
    omega (arith, count, types.ok.0, c.requires.within_limit)

-- the fault is that of the lists that were made
is_fault : (c : After-new)
    → first_fault (neighbour_lists c.args.nx c.args.ny (length c.args.types.now) c.args.joins.now)
    ≡ first_fault (number_lists c.in_ok-lists.lists.items)
is_fault c = first_fault-same _ _ c.in_ok-lists.ensures.lists

pub returns-clause-sound : goal.returns-clause-sound
returns-clause-sound c = IfOk-weaker c.new.result _ _ (λ g none. is_fault c ∙ none) c.new.ensures.sound

pub returns-clause-fault : goal.returns-clause-fault
returns-clause-fault c = IfErr-weaker c.new.result _ _ (λ e found. inr (is_fault c ∙ found)) c.new.ensures.fault

pub returns-clause-graph : goal.returns-clause-graph
returns-clause-graph c =
    let L = number_lists c.in_ok-lists.lists.items in
    let types = c.in_ok-site_types.site_types in
    let n = c.args.nx * c.args.ny * length c.args.types.now in
    let count = count-types types.items c.args.types.now n c.in_ok-site_types.ensures in
    let lengths : length types.items ≡ length L =
    omega (
      arith,
      count,
      c.in_ok-lists.lists.ok.0,
      c.in_ok-lists.ensures.count,
      length-map c.in_ok-lists.lists.items (λ (v : Vec SiteId Global). site_numbers v.items),
    ) in
    let with_types : List ℕ → Lattice =
    λ ts. record {
      types = ts;
      neighbours = neighbour_lists c.args.nx c.args.ny (length c.args.types.now)
          c.args.joins.now;
    } in
    let with_lists : List (List ℕ) → Lattice = λ lists. record { types = types.items; neighbours = lists } in
    IfOk-both c.new.result _ _ _
    (λ g none is. is
    ∙ ap (λ k. with_lists (map (merged k) L)) lengths
    ∙ ap with_lists (sym (lists-merged L _ c.in_ok-lists.ensures.lists (is_fault c ∙ none)))
    ∙ ap with_types c.in_ok-site_types.ensures)
    c.new.ensures.sound c.new.ensures.graph

pub returns-clause-faultless : goal.returns-clause-faultless
returns-clause-faultless c cell =
    let none = no_first_fault c.args.nx c.args.ny (length c.args.types.now) c.args.joins.now c.requires.ends cell in
    IfErr-weaker c.new.result _ _ (λ e found. absurd (none-some e (sym none ∙ is_fault c ∙ found))) c.new.ensures.fault
