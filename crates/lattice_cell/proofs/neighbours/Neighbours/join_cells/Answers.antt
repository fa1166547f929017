use Rattle.std.proofs.Common.{ℕ, Bool, ◌*◌, ◌||◌, ◌<◌, ◌∙◌, take, ap, arith}
use Rattle.std.specs.List.{list_any, range_with_len}
use Rattle.lattice_cell.specs.Cells.{site_at}
use Rattle.lattice_cell.specs.Naming.{names}
use Rattle.lattice_cell.specs.Periodic.{joins_at}
use Rattle.lattice_cell.proofs.Joining.{any_below_more, any_below_all, joins_cells, joins_here}
use Rattle.lattice_cell.proofs.Named.{NamesMore-then}
use Rattle.lattice_cell.proofs.neighbours.Neighbours.join_cells.Goals as goal

pub loop-cell-preserved : goal.loop-cell-preserved
loop-cell-preserved c =
    let r = c.args.repeats in
    let join = c.args.join in
    let cell = c.loop-cell.cell in
    let g : ℕ → ℕ → ℕ → Bool = λ a b k. joins_at r.nx r.ny r.sites join a b k || joins_at r.nx r.ny r.sites join b a k in
    let within : cell < r.nx * r.ny = omega (arith, c.cells-cell-end.ensures) in
    let second = c.site-t.ensures.value ∙ ap (λ k. site_at r.sites k join.to) c.displaced-other.ensures.value in
    record {
      count = c.in_ok-join.ensures.count ∙ c.loop-cell.invariant.count;
      more = NamesMore-then _ _ _ (λ a b. list_any (g a b) (take cell (range_with_len 0 (r.nx * r.ny)))) _ _
          c.loop-cell.invariant.more c.in_ok-join.ensures.more
          (λ a b. ap (λ x. list_any (g a b) (take cell (range_with_len 0 (r.nx * r.ny))) || x)
          (joins_here r.nx r.ny r.sites join cell c.site-s.result c.site-t.result a b c.site-s.ensures.value
          second)
          ∙ any_below_more (g a b) (r.nx * r.ny) cell within);
    }

pub returns-clause-more : goal.returns-clause-more
returns-clause-more c = λ s t.
    let r = c.args.repeats in
    let join = c.args.join in
    let g : ℕ → Bool = λ k. joins_at r.nx r.ny r.sites join s t k || joins_at r.nx r.ny r.sites join t s k in
    let all = any_below_all g (r.nx * r.ny) c.loop-cell.cell (omega (arith, c.cells-cell-end.ensures)) ∙ joins_cells r.nx r.ny r.sites join s t in
    c.loop-cell.invariant.more s t ∙ ap (λ x. names c.args.self.now.lists.items s t || x) all
