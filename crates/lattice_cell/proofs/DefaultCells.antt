-- The cells of the default lattices have no fault where there are two cells or more in each direction.
use Rattle.std.proofs.Common.{◌≡◌, ◌∙◌, ap, ℕ, ◌+◌, ◌*◌, ◌%◌, ◌≤◌, false, eqb, length, refl, arith}
use Rattle.std.specs.List.{AllByRecursion, list_any}
use Rattle.std.proofs.Math.Nat.{mod-eq_of_lt}
use Rattle.std.proofs.lemmas.Bool.{ne_eqb}
use Rattle.std.proofs.lemmas.List.Elements.{All-from_recursion}
use Rattle.lattice_core.specs.declared.graph.TheConstants.{MAX_NEIGHBOURS}
use Rattle.lattice_cell.specs.Cells.{IsInCell, displaced}
use Rattle.lattice_cell.specs.Default.{default_joins}
use Rattle.lattice_cell.specs.Faultless.{IsFaultlessCell, joins_itself}
use Rattle.lattice_cell.specs.declared.cell.Toward.TheVariants.{North, Northeast, East}
use Rattle.lattice_cell.specs.declared.expand.DefaultLattice.{DefaultLattice}
use Rattle.lattice_cell.specs.declared.expand.DefaultLattice.TheVariants.{Rectangular, Hexagonal}
use Rattle.lattice_cell.proofs.Ends.{few_joins}
use Rattle.lattice_cell.proofs.Steps.{from_first}

module _ (nx ny : ℕ) (columns : 2 ≤ nx) (rows : 2 ≤ ny) where
  -- one step leads elsewhere
  north : eqb (displaced nx ny North 0) 0 ≡ false
  north =
      let first = from_first nx ny (omega arith) (omega arith) North in
      let up : 1 % ny ≡ 1 = mod-eq_of_lt (omega arith) in
      ne_eqb (displaced nx ny North 0) 0 (λ e. absurd (omega (arith, first, up, e)))

  northeast : eqb (displaced nx ny Northeast 0) 0 ≡ false
  northeast =
      let first = from_first nx ny (omega arith) (omega arith) Northeast in
      let up : 1 % ny ≡ 1 = mod-eq_of_lt (omega arith) in
      ne_eqb (displaced nx ny Northeast 0) 0 (λ e. absurd (omega (arith, first, up, e)))

  east : eqb (displaced nx ny East 0) 0 ≡ false
  east =
      let first = from_first nx ny (omega arith) (omega arith) East in
      let on : 1 % nx ≡ 1 = mod-eq_of_lt (omega arith) in
      let there : displaced nx ny East 0 ≡ 1 * ny + 0 % ny = first ∙ ap (λ x. x * ny + 0 % ny) on in
      ne_eqb (displaced nx ny East 0) 0 (λ e. absurd (omega (arith, there, e)))

  none_itself : (kind : DefaultLattice) → list_any (joins_itself nx ny) (default_joins kind) ≡ false
  none_itself Rectangular = rw (north, east) refl
  none_itself Hexagonal = rw (north, east, northeast) refl

  are_in_cell : (kind : DefaultLattice) → AllByRecursion (IsInCell 1) (default_joins kind)
  are_in_cell Rectangular = ((omega arith, omega arith), ((omega arith, omega arith), tt))
  are_in_cell Hexagonal = ((omega arith, omega arith), ((omega arith, omega arith), ((omega arith, omega arith), tt)))

  few : (kind : DefaultLattice) → 2 * length (default_joins kind) ≤ MAX_NEIGHBOURS
  few Rectangular = omega arith
  few Hexagonal = omega arith

  pub default_faultless : (kind : DefaultLattice) → IsFaultlessCell nx ny 1 (default_joins kind)
  default_faultless kind = record {
    none_itself = none_itself kind;
    none_crowded = few_joins nx ny 1 (default_joins kind) (All-from_recursion (IsInCell 1) (default_joins kind) (are_in_cell kind)) (few kind);
  }
