use Rattle.std.proofs.Common.{ap, ◌∙◌}
use Rattle.named_draws.proofs.KeyLemmas.{draw-read, placed_at}
use Rattle.named_draws.proofs.draws.Draws.draw.Goals as goal

pub returns-clause-value : goal.returns-clause-value
returns-clause-value c =
    ap (λ r. r.0) c.next_u64_via_u32.ensures
    ∙ draw-read c.args.self.now c.args.n c.args.code c.set_word_pos-2.new.self c.requires (
    placed_at _ _ _ c.self.inside.rng _ _ _ c.self.invariant c.self.view_is c.set_word_pos.ensures
    c.set_stream.ensures c.set_word_pos-2.ensures
    )
