use Rattle.std.proofs.Common.{arith}
use Rattle.lattice_deck.proofs.SizesSound.{few_of}
use Rattle.lattice_deck.proofs.joins.crowds.Goals as goal

pub overflow_cast-nx : goal.overflow_cast-nx
overflow_cast-nx c =
    let parts = few_of c.args.sizes.now c.requires.sizes c.in-Some-Some.sites c.in-Some-Some.nx c.in-Some-Some.ny c.in-Some-Some.is-0
    c.in-Some-Some.is-1 in
    omega (arith, parts)

pub overflow_cast-ny : goal.overflow_cast-ny
overflow_cast-ny c =
    let parts = few_of c.args.sizes.now c.requires.sizes c.in-Some-Some.sites c.in-Some-Some.nx c.in-Some-Some.ny c.in-Some-Some.is-0
    c.in-Some-Some.is-1 in
    omega (arith, parts)
