use Rattle.std.proofs.Common.{◌↔◌, ◌∙◌, Bool, IsTrue, subst, sym}
use Rattle.pattern_types.specs.Edges.{are_adjacent}
use Rattle.pattern_types.specs.Walk.{IsConnected}
use Rattle.pattern_types.proofs.ConnectedLemmas.{connected-by_answer, connected-law}
use Rattle.pattern_types.proofs.connected.is_connected.Goals as goal

pub returns-clause-value : goal.returns-clause-value
returns-clause-value c =
    c.is_some.ensures
    ∙ connected-by_answer c.args.edges.now c.args.len c.table.result _ c.vertex_order.result c.requires.some c.requires.few c.table.ensures
    c.vertex_order.ensures

pub returns-clause-law : goal.returns-clause-law
returns-clause-law c edged =
    let Law : Bool → Type 0 = λ b. IsTrue b ↔ IsConnected (are_adjacent c.args.edges.now) c.args.len in
    subst Law (sym (returns-clause-value c)) (connected-law c.args.edges.now c.args.len c.requires.some edged)
