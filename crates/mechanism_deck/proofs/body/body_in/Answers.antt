use Rattle.std.proofs.Common.{◌∙◌, ap, false, map, ℕ}
use Rattle.std.specs.Result.{result_ok}
use Rattle.std.specs.declared.alloc.Global.{Global}
use Rattle.std.specs.declared.vec.Vec.{Vec}
use Rattle.deck_shape.specs.Blocks.{block_at}
use Rattle.deck_words.specs.Faults.{value_map}
use Rattle.deck_words.specs.declared.keyword.Keyword.TheVariants.{Final, Initial}
use Rattle.mechanism_deck.specs.Changes.{gas_in}
use Rattle.mechanism_deck.specs.Steps.{body_of}
use Rattle.pattern_rows.specs.Edges.{edges_in}
use Rattle.pattern_rows.specs.Sites.{sites_in}
use Rattle.pattern_rows.specs.States.{states_in}
use Rattle.pattern_rows.specs.Views.{state_at}
use Rattle.pattern_rows.specs.declared.state.StateRow.{StateRow}
use Rattle.mechanism_deck.proofs.body.body_in.Goals as goal

pub returns : goal.returns
returns c =
    let text = c.args.bytes.now in
    let block = block_at text c.args.block.now in
    let sites = result_ok (sites_in block) in
    let stated = ap result_ok c.requires.stated in
    let edges = value_map (λ (list : Vec (ℕ × ℕ) Global). list.items) c.in_ok-edges.edges in
    let rows = λ (list : Vec StateRow Global). map (state_at text) list.items in
    let before = value_map rows c.in_ok-before.before in
    let after = value_map rows c.in_ok-after.after in
    c.body_of.ensures
    ∙ ap (λ gas. body_of block gas c.args.sites edges before after) c.in_ok-gas.ensures
    ∙ ap (λ n. body_of block (gas_in block) n edges before after) c.requires.stated
    ∙ ap (λ list. body_of block (gas_in block) (sites_in block) list before after)
    (c.in_ok-edges.ensures ∙ ap (λ n. edges_in n block) (c.ok.ensures.value ∙ stated))
    ∙ ap (λ list. body_of block (gas_in block) (sites_in block) (edges_in sites block) list after)
    (c.in_ok-before.ensures ∙ ap (λ n. states_in false n Initial block) (c.ok-2.ensures.value ∙ stated))
    ∙ ap (body_of block (gas_in block) (sites_in block) (edges_in sites block) (states_in false sites Initial block))
    (c.in_ok-after.ensures ∙ ap (λ n. states_in false n Final block) (c.ok-3.ensures.value ∙ stated))
