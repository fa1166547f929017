use Rattle.std.proofs.Common.{◌≡◌, ◌==◌, Some, None}
use Rattle.lattice_core.specs.Lattice.{neighbours_of, slot_in}
use Rattle.lattice_core.proofs.Places.{is_some-position, slice_get-position}
use Rattle.lattice_core.proofs.graph.Graph.slot_of.Goals as goal

-- where the place was found
found : (c : goal.In_ok-place) → slot_in c.args.self.now c.args.s.0 c.args.t.0 ≡ Some c.in_ok-place.place
found c = cc (c.place_of.ensures, c.in_ok-place.was, c.neighbours.ensures.value)

pub returns-in_err-place-clause-neighbour : goal.returns-in_err-place-clause-neighbour
returns-in_err-place-clause-neighbour c =
    let k = is_some-position (λ u. u == c.args.t.0) (neighbours_of c.args.self.now c.args.s.0) in
    let none : slot_in c.args.self.now c.args.s.0 c.args.t.0 ≡ None = cc (c.place_of.ensures, c.in_err-place.was, c.neighbours.ensures.value) in
    rw c.from_residual.ensures (rw none at k)

pub returns-clause-neighbour : goal.returns-clause-neighbour
returns-clause-neighbour c =
    rw (found c) at (is_some-position (λ u. u == c.args.t.0) (neighbours_of c.args.self.now c.args.s.0))

pub returns-clause-inverse : goal.returns-clause-inverse
returns-clause-inverse c = slice_get-position (neighbours_of c.args.self.now c.args.s.0) c.args.t.0 c.in_ok-place.place (found c)
