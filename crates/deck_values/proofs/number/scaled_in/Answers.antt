use Rattle.std.proofs.Common.{◌≤ℤ◌, ◌≡◌, ◌∙◌, rules, sym}
use Rattle.dec_text.specs.Scaled.{scaled_within}
use Rattle.deck_values.proofs.Ranges.{at_least, at_most}
use Rattle.deck_values.proofs.number.scaled_in.Goals as goal

pub returns-in-Ok-scaled-clause-range : goal.returns-in-Ok-scaled-clause-range
returns-in-Ok-scaled-clause-range c =
    let range = c.args.range in
    let n = c.in-Ok.n in
    let units = c.in-Ok-scaled.units in
    let scaled : c.scaled.result ≡ scaled_within n range.places range.least range.most = search rules in
    let low : range.least ≤ℤ units = at_least n range.places range.least range.most units (sym scaled ∙ c.in-Ok-scaled.is) in
    let high : units ≤ℤ range.most = at_most n range.places range.least range.most units (sym scaled ∙ c.in-Ok-scaled.is) in
    search rules
