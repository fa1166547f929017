use Rattle.std.proofs.Common.{ap, ◌∙◌}
use Rattle.rand_chacha.specs.ChaCha.{key_of}
use Rattle.named_draws.specs.Draw.{key_words}
use Rattle.named_draws.proofs.KeyLemmas.{seed_of_made, key_of_made}
use Rattle.named_draws.proofs.draws.Draws.new.Goals as goal

pub invariant_of-result : goal.invariant_of-result
unfolding key_words
invariant_of-result c =
    key_of_made c.args.seed _ c.ranges.seed.fits (ap (λ g. g.key) c.from_seed.ensures ∙ ap key_of c.key_bytes.ensures)

pub returns : goal.returns
unfolding key_words
returns c =
    seed_of_made c.args.seed _ c.ranges.seed.fits (ap (λ g. g.key) c.from_seed.ensures ∙ ap key_of c.key_bytes.ensures)
