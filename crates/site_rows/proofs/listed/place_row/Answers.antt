use Rattle.std.proofs.Common.{◌-◌, ◌∙◌, ap, map}
use Rattle.site_rows.proofs.Placed.{list_put}
use Rattle.site_rows.proofs.listed.place_row.Goals as goal

pub returns-clause-lists : goal.returns-clause-lists
returns-clause-lists c =
    list_put c.args.lists.now (c.args.row.now.site - 1) c.in_ok-lists.field-0 _
    (c.in_ok-lists.ensures ∙ ap (map (λ n. n - 1)) c.as_slice.ensures.value)
