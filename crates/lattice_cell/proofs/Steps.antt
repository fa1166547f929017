-- A displacement looks alike from each cell.
use Rattle.std.proofs.Common.{◌≡◌, ◌∙◌, sym, ap, ℕ, ◌+◌, ◌-◌, ◌*◌, ◌/◌, ◌%◌, ◌<◌, ◌≤◌, inl, inr, refl, arith}
use Rattle.std.proofs.Math.Nat.{add-mod_left, add-mod_right, mod-eq_of_lt, mod_self, zero-mod}
use Rattle.std.proofs.lemmas.Bool.{cases_lt}
use Rattle.std.proofs.lemmas.Nat.{div-add-mod', div-mul-add, div_below, mod-mul-add, mod_below}
use Rattle.lattice_cell.specs.declared.cell.Toward.{Toward}
use Rattle.lattice_cell.specs.declared.cell.Toward.TheVariants.{Own, North, Northeast, East, Southeast}
use Rattle.lattice_cell.specs.Cells.{cell_at, displaced, steps_east, steps_north}

-- on a ring of m places, k steps from one place back to it are k steps from the first back to it
ring_back : (b k m : ℕ) → b < m → k ≤ m → (b + k) % m ≡ b → k % m ≡ 0
ring_back b k m low most is =
    elim (cases_lt (b + k) m) [
      | inl short ↦ let same : (b + k) % m ≡ b + k = mod-eq_of_lt short in
          let none : k ≡ 0 = omega (arith, same, is) in
          ap (λ j. j % m) none ∙ zero-mod m
      | inr around ↦ let rest : b + k ≡ m + (b + k - m) = omega arith in
          let inside : b + k - m < m = omega arith in
          let same : (b + k) % m ≡ b + k - m = ap (λ j. j % m) rest ∙ add-mod_left m (b + k - m) ∙ mod-eq_of_lt inside in
          let whole : k ≡ m = omega (arith, same, is) in
          ap (λ j. j % m) whole ∙ mod_self m
    ]

-- and the place before k steps is the one after the other steps of the ring
ring_before : (a k m b : ℕ) → a < m → k ≤ m → (a + k) % m ≡ b → a ≡ (b + (m - k)) % m
ring_before a k m b low most is =
    elim (cases_lt (a + k) m) [
      | inl short ↦ let same : (a + k) % m ≡ a + k = mod-eq_of_lt short in
          let around : b + (m - k) ≡ a + m = omega (arith, same, is) in
          sym (mod-eq_of_lt low) ∙ sym (add-mod_right a m) ∙ ap (λ j. j % m) (sym around)
      | inr around ↦ let rest : a + k ≡ m + (a + k - m) = omega arith in
          let inside : a + k - m < m = omega arith in
          let same : (a + k) % m ≡ a + k - m = ap (λ j. j % m) rest ∙ add-mod_left m (a + k - m) ∙ mod-eq_of_lt inside in
          let here : b + (m - k) ≡ a = omega (arith, same, is) in
          sym (mod-eq_of_lt low) ∙ ap (λ j. j % m) (sym here)
    ]

-- a number of a row and a place in it
pub first_part : (a b n w : ℕ) → b < w → a * w + b ≡ n → n / w ≡ a
first_part a b n w low is = ap (λ m. m / w) (sym is) ∙ div-mul-add a w b low

pub second_part : (a b n w : ℕ) → b < w → a * w + b ≡ n → n % w ≡ b
second_part a b n w low is = ap (λ m. m % w) (sym is) ∙ mod-mul-add a w b low

east_most : (nx : ℕ) (t : Toward) → 1 ≤ nx → steps_east t ≤ nx
east_most nx Own some = omega arith
east_most nx North some = omega arith
east_most nx Northeast some = omega arith
east_most nx East some = omega arith
east_most nx Southeast some = omega arith

north_most : (ny : ℕ) (t : Toward) → 1 ≤ ny → steps_north ny t ≤ ny
north_most ny Own some = omega arith
north_most ny North some = omega arith
north_most ny Northeast some = omega arith
north_most ny East some = omega arith
north_most ny Southeast some = omega arith

-- the cell from which a displacement leads to another
abbrev pub cell_before : ℕ → ℕ → Toward → ℕ → ℕ
cell_before nx ny t d = cell_at ny ((d / ny + (nx - steps_east t)) % nx) ((d % ny + (ny - steps_north ny t)) % ny)

module _ (nx ny : ℕ) (columns : 1 ≤ nx) (rows : 1 ≤ ny) (t : Toward) where
  -- where a displacement leads to
  pub column_of : (c : ℕ) → displaced nx ny t c / ny ≡ (c / ny + steps_east t) % nx
  unfolding displaced
  column_of c =
      div-mul-add ((c / ny + steps_east t) % nx) ny ((c % ny + steps_north ny t) % ny) (mod_below (c % ny + steps_north ny t) ny rows)

  pub row_of : (c : ℕ) → displaced nx ny t c % ny ≡ (c % ny + steps_north ny t) % ny
  unfolding displaced
  row_of c =
      mod-mul-add ((c / ny + steps_east t) % nx) ny ((c % ny + steps_north ny t) % ny) (mod_below (c % ny + steps_north ny t) ny rows)

  -- from the first cell
  pub from_first : displaced nx ny t 0 ≡ (steps_east t % nx) * ny + steps_north ny t % ny
  unfolding displaced
  from_first =
      let column : 0 / ny ≡ 0 = first_part 0 0 0 ny rows (omega arith) in
      let row : 0 % ny ≡ 0 = zero-mod ny in
      let e : 0 + steps_east t ≡ steps_east t = omega arith in
      let n : 0 + steps_north ny t ≡ steps_north ny t = omega arith in
      rw (column, row, e, n) refl

  -- back to a cell is back to the first
  pub back_to_first : (c : ℕ) → c < nx * ny → displaced nx ny t c ≡ c → displaced nx ny t 0 ≡ 0
  back_to_first c within is =
      let east = ring_back (c / ny) (steps_east t) nx (div_below c ny nx rows within) (east_most nx t columns)
      (sym (column_of c) ∙ ap (λ d. d / ny) is) in
      let north = ring_back (c % ny) (steps_north ny t) ny (mod_below c ny rows) (north_most ny t rows)
      (sym (row_of c) ∙ ap (λ d. d % ny) is) in
      from_first ∙ ap (λ x. x * ny + steps_north ny t % ny) east ∙ ap (λ y. 0 * ny + y) north ∙ omega arith

  -- a cell is known by the one to which the displacement leads
  pub led_from : (c d : ℕ) → c < nx * ny → displaced nx ny t c ≡ d → c ≡ cell_before nx ny t d
  led_from c d within is =
      let east = ring_before (c / ny) (steps_east t) nx (d / ny) (div_below c ny nx rows within) (east_most nx t columns)
      (sym (column_of c) ∙ ap (λ k. k / ny) is) in
      let north = ring_before (c % ny) (steps_north ny t) ny (d % ny) (mod_below c ny rows) (north_most ny t rows)
      (sym (row_of c) ∙ ap (λ k. k % ny) is) in
      sym (div-add-mod' c ny) ∙ ap (λ x. x * ny + c % ny) east ∙ ap (λ y. (d / ny + (nx - steps_east t)) % nx * ny + y) north
