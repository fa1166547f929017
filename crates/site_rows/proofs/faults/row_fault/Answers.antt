use Rattle.std.proofs.Common.{◌≡◌, ◌∙◌, ap, length}
use Rattle.site_rows.specs.RowFaults.{each_once}
use Rattle.site_rows.proofs.faults.row_fault.Goals as goal

pub returns : goal.returns
returns c text above all index repeated =
    let sided = c.any_one_sided.ensures c.args.sites all index in
    let copy : c.in_ok-to_vec.field-0.items ≡ c.args.row.now.neighbours.items =
    c.in_ok-to_vec.ensures.items_if_clones_equal (λ x y same. same) ∙ c.as_slice-neighbours.ensures.value in
    let different : c.count_different-different.result ≡ length (each_once c.args.row.now.neighbours.items) =
    c.count_different-different.ensures ∙ ap (λ ns. length (each_once ns)) copy in
    cc
