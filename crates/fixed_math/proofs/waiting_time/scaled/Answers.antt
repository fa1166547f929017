use Rattle.std.proofs.lemmas.Int.{to_z-of_z}
use Rattle.fixed_math.proofs.TimeLemmas.{scaled_up, scaled_away}
use Rattle.fixed_math.proofs.waiting_time.scaled.Goals as goal

pub returns-then-exponent-ge0-clause-value : goal.returns-then-exponent-ge0-clause-value
returns-then-exponent-ge0-clause-value c =
    let in_range = c.ranges.exponent in
    let places = simp to_z-of_z at c.unsigned_abs-places.ensures.value in
    let not_below = simp to_z-of_z at c.if-exponent-ge0.true in
    (scaled_up c.args.number c.unsigned_abs-places.result c.args.exponent c.requires.number places not_below c.requires.exponent).0

pub returns-then-exponent-ge0-clause-small : goal.returns-then-exponent-ge0-clause-small
returns-then-exponent-ge0-clause-small c =
    let in_range = c.ranges.exponent in
    let places = simp to_z-of_z at c.unsigned_abs-places.ensures.value in
    let not_below = simp to_z-of_z at c.if-exponent-ge0.true in
    (scaled_up c.args.number c.unsigned_abs-places.result c.args.exponent c.requires.number places not_below c.requires.exponent).1

pub returns-else-places-lt128-clause-value : goal.returns-else-places-lt128-clause-value
returns-else-places-lt128-clause-value c =
    let in_range = c.ranges.exponent in
    let places = simp to_z-of_z at c.unsigned_abs-places.ensures.value in
    let below = simp to_z-of_z at c.if-exponent-ge0.false in
    scaled_away c.args.number c.unsigned_abs-places.result c.args.exponent c.requires.number places below c.if-places-lt128.false
