use Rattle.std.proofs.Common.{◌≡◌, ◌∙◌, ap, arith, get_or, length, map, subst, sym, take}
use Rattle.std.proofs.lemmas.List.{get_or-map, length-map, take-map}
use Rattle.site_rows.specs.Placing.{AreNeighbours, AreTypes, NamesSites}
use Rattle.site_rows.specs.ReadRows.{row_at}
use Rattle.site_rows.proofs.FaultlessRows.{IsNext, next_row}
use Rattle.site_rows.proofs.Placed.{neighbours_placed, taken_more, types_placed}
use Rattle.site_rows.proofs.listed.place_rows.Goals as goal

pub place_row-requires-clause-sites : goal.place_row-requires-clause-sites
place_row-requires-clause-sites c =
    let f = row_at c.args.bytes.now in
    let rows = c.args.rows.now in
    let row = f c.row-item.result in
    let i = c.loop-row.row-index in
    let at : get_or (map f rows) i row ≡ row = get_or-map f rows i c.row-item.result row c.loop-row-test.true ∙ sym (ap f c.row-item.is) in
    let next = next_row (length c.args.types.now) (map f rows) i row (omega (arith, length-map rows f)) c.requires.faultless in
    subst (λ n. NamesSites n row) (sym c.loop-row.auto.types) (subst (NamesSites (length c.args.types.now)) at next.names)

pub loop-row-preserved : goal.loop-row-preserved
loop-row-preserved c =
    let f = row_at c.args.bytes.now in
    let names = c.args.index.now in
    let rows = c.args.rows.now in
    let row = f c.row-item.result in
    let i = c.loop-row.row-index in
    let n = length c.args.types.now in
    let above = map f (take i rows) in
    let at : get_or (map f rows) i row ≡ row = get_or-map f rows i c.row-item.result row c.loop-row-test.true ∙ sym (ap f c.row-item.is) in
    let is = next_row n (map f rows) i row (omega (arith, length-map rows f)) c.requires.faultless in
    let next : IsNext n above row = subst (λ rs. IsNext n rs row) (take-map f i rows) (subst (IsNext n (take i (map f rows))) at is) in
    let more = sym (taken_more f rows i c.row-item.result c.loop-row-test.true c.row-item.is) in
    let site = next.names.site in
    let types_long = c.loop-row.auto.types in
    let lists_long = c.loop-row.auto.lists in
    let same = c.requires.same_length in
    record {
      types = λ first. subst (λ rs. AreTypes names rs c.place_row.new.types) more
          (types_placed names above row c.loop-row.types c.place_row.new.types next.new site.0 (omega (arith, site.1, types_long))
          c.in_ok-place_row.ensures.types (c.loop-row.invariant.types first));
      lists = λ first. subst (λ rs. AreNeighbours rs c.place_row.new.lists) more
          (neighbours_placed above row c.loop-row.lists c.place_row.new.lists next.new site.0 (omega (arith, site.1, lists_long, same))
          c.in_ok-place_row.ensures.lists (c.loop-row.invariant.lists first));
    }
