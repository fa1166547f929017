-- which displacements lead from the first cell back to it
use Rattle.std.proofs.Common.{◌≡◌, ℕ, ◌+◌, ◌*◌, ◌-◌, ◌/◌, ◌%◌, ◌<◌, ◌≤◌, ◌==◌, ◌&&◌, Bool, true, false, if◌then◌else◌, inl, inr, ap, sym}
use Rattle.std.proofs.Common.{◌∙◌, arith, refl}
use Rattle.std.proofs.Math.Nat.{mul-le-mul_right}
use Rattle.std.proofs.lemmas.Nat.{mod-mul-add, div-mul-add, mod_below}
use Rattle.std.proofs.lemmas.Bool.{cases_eq, eq-eqb, ne_eqb}
use Rattle.lattice_cell.specs.Cells.{displaced, steps_east, steps_north}
use Rattle.lattice_cell.specs.declared.cell.Toward.{Toward}
use Rattle.lattice_cell.specs.declared.cell.Toward.TheVariants.{Own, North, Northeast, East, Southeast}

pub small_mod : (b w : ℕ) → b < w → b % w ≡ b
small_mod b w low = let e : 0 * w + b ≡ b = omega arith in rw e at (mod-mul-add 0 w b low)

zero_div : (w : ℕ) → 0 < w → 0 / w ≡ 0
zero_div w some = let e : 0 * w + 0 ≡ 0 = omega arith in rw e at (div-mul-add 0 w 0 some)

-- by the number of cells in each direction
abbrev pub is_back : ℕ → ℕ → Toward → Bool
is_back nx ny Own = true
is_back nx ny North = ny == 1
is_back nx ny Northeast = nx == 1 && ny == 1
is_back nx ny East = nx == 1
is_back nx ny Southeast = nx == 1 && ny == 1

-- a step in a direction with one cell leads nowhere, and else to the next
one_step : (w : ℕ) → 1 ≤ w → 1 % w ≡ (if w == 1 then 0 else 1)
one_step w some =
    elim (cases_eq w 1) [
      | inl e ↦ rw (eq-eqb w 1 e) (let h : 1 % w < w = mod_below 1 w some in omega arith)
      | inr n ↦ rw (ne_eqb w 1 n) (small_mod 1 w (omega arith))
    ]

-- the last of the cells of a direction
back_step : (w : ℕ) → 1 ≤ w → (w == 1) ≡ ((w - 1) % w == 0)
back_step w some =
    rw (small_mod (w - 1) w (omega arith))
    (elim (cases_eq w 1) [
      | inl e ↦ eq-eqb w 1 e ∙ sym (eq-eqb (w - 1) 0 (omega arith))
      | inr n ↦ ne_eqb w 1 n ∙ sym (ne_eqb (w - 1) 0 (λ h. n (omega arith)))
    ])

step_zero : (w : ℕ) → 1 ≤ w → (w == 1) ≡ (1 % w == 0)
step_zero w some = rw (one_step w some) (elim (w == 1) as (λ b. b ≡ ((if b then 0 else 1) == 0)) [ true ↦ refl | false ↦ refl ])

-- the number of a cell, by its column and its row
cell_zero : (a b w : ℕ) → 1 ≤ w → (a == 0 && b == 0) ≡ (a * w + b == 0)
cell_zero a b w some =
    elim (cases_eq a 0) [
      | inl e ↦ rw (eq-eqb a 0 e) (let s : a * w + b ≡ b = rw e (omega arith) in rw s refl)
      | inr n ↦ rw (ne_eqb a 0 n) (sym (ne_eqb (a * w + b) 0 (λ h. let k : 1 * w ≤ a * w = mul-le-mul_right w (omega arith) in absurd (omega arith))))
    ]

both : {a b x y : Bool} → a ≡ x → b ≡ y → (a && b) ≡ (x && y)
both {a} {b} {x} {y} first second = ap (λ p. p && b) first ∙ ap (λ p. x && p) second

and_true : (a : Bool) → (a && true) ≡ a
and_true true = refl
and_true false = refl

module _ (nx ny : ℕ) (columns : 1 ≤ nx) (rows : 1 ≤ ny) where
  from_first : (t : Toward) → displaced nx ny t 0 ≡ (steps_east t % nx) * ny + steps_north ny t % ny
  unfolding displaced
  from_first t =
      let q : 0 / ny ≡ 0 = zero_div ny (omega arith) in
      let r : 0 % ny ≡ 0 = small_mod 0 ny (omega arith) in
      let e : 0 + steps_east t ≡ steps_east t = omega arith in
      let n : 0 + steps_north ny t ≡ steps_north ny t = omega arith in
      rw (q, r, e, n) refl

  by_parts : (t : Toward) → (steps_east t % nx == 0 && steps_north ny t % ny == 0) ≡ (displaced nx ny t 0 == 0)
  by_parts t = cell_zero (steps_east t % nx) (steps_north ny t % ny) ny rows ∙ ap (λ n. n == 0) (sym (from_first t))

  still : (w : ℕ) → 1 ≤ w → true ≡ (0 % w == 0)
  still w some = sym (eq-eqb (0 % w) 0 (small_mod 0 w (omega arith)))

  pub leads : (t : Toward) → is_back nx ny t ≡ (displaced nx ny t 0 == 0)
  leads Own = both (still nx columns) (still ny rows) ∙ by_parts Own
  leads North = both (still nx columns) (step_zero ny rows) ∙ by_parts North
  leads Northeast = both (step_zero nx columns) (step_zero ny rows) ∙ by_parts Northeast
  leads East = sym (and_true (nx == 1)) ∙ both (step_zero nx columns) (still ny rows) ∙ by_parts East
  leads Southeast = both (step_zero nx columns) (back_step ny rows) ∙ by_parts Southeast
