use Rattle.std.proofs.Common.{arith, refl, sym}
use Rattle.deck_shape.specs.Blocks.{item_at}
use Rattle.lattice_deck.specs.Sizes.{default_on}
use Rattle.lattice_deck.proofs.Readings.{is_ok}
use Rattle.lattice_deck.proofs.SizesSound.{AreDefault, default_bounds}
use Rattle.lattice_deck.proofs.values.named_part.Goals as goal

pub default_values-requires-clause-wide : goal.default_values-requires-clause-wide
default_values-requires-clause-wide c =
    let item = item_at c.args.bytes.now c.args.item.now in
    (is_ok AreDefault (default_on item) c.in-Ok.repeats (sym c.in-Ok.ensures) (default_bounds item)).wide

pub default_values-requires-clause-few : goal.default_values-requires-clause-few
default_values-requires-clause-few c =
    let item = item_at c.args.bytes.now c.args.item.now in
    let are = is_ok AreDefault (default_on item) c.in-Ok.repeats (sym c.in-Ok.ensures) (default_bounds item) in
    let few = are.few.few 1 refl in
    omega (arith, few)
