use Rattle.std.proofs.Common.{ℕ, List, ◌%◌, ◌++◌, [], ◌∷◌, ◌∙◌, length, map, slice_index, sym, ap, arith}
use Rattle.std.proofs.lemmas.List.FromFn.{map-range_with_len_more}
use Rattle.std.specs.List.{range_with_len}
use Rattle.lattice_cell.proofs.repeats.Repeats.types.Goals as goal

pub loop-site-preserved : goal.loop-site-preserved
loop-site-preserved c =
    let cell = c.args.cell.now in
    let site = c.loop-site.site in
    let push : ℕ → List ℕ → List ℕ = λ sites types. types ++ slice_index cell (site % sites) ∷ [] in
    c.in_ok-push.ensures.items
    ∙ ap (push c.args.self.sites) c.loop-site.invariant
    ∙ ap (λ n. push n (map (λ s. slice_index cell (s % length cell)) (range_with_len 0 site))) (sym c.requires)
    ∙ sym (map-range_with_len_more (λ s. slice_index cell (s % length cell)) 0 site site (omega arith))
