use Rattle.std.proofs.Common.{◌≡◌, ◌∙◌, ap, length}
use Rattle.std.proofs.lemmas.List.{length-map}
use Rattle.std.proofs.lemmas.List.FromFn.{length-map-range_with_len}
use Rattle.zacros_output.specs.Adsorbates.{count_of}
use Rattle.zacros_output.proofs.summary.summary_text.Goals as goal

-- there is a count for each name
pub push_surface_lines-requires : goal.push_surface_lines-requires
push_surface_lines-requires c =
    let book = c.args.deck.now.book in
    let named = simp length-map at (ap length c.surface_names.ensures.names) in
    let counted : length c.in_ok-surface.surface.items ≡ length book.surface =
    ap length c.in_ok-surface.ensures ∙ length-map-range_with_len (count_of c.args.view.now.config.now) 0 (length book.surface) in
    cc
