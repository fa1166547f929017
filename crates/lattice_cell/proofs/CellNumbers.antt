-- The numbers of cells and sites are in range.
use Rattle.std.proofs.Common.{ℕ, zero, suc, ◌+◌, ◌*◌, ◌<◌, ◌≤◌, arith}
use Rattle.std.proofs.Math.Nat.{mul-le-mul_right, zero-mul, mul-zero, le-mul_of_pos_right}

-- a place of a row, in one of so many rows
pub place_below : (a b m n : ℕ) → a < m → b < n → a * n + b < m * n
place_below a b m n row place = let up : (a + 1) * n ≤ m * n = mul-le-mul_right n (omega arith) in omega (arith, up)

-- neither factor of a product that is not 0 is 0
pub first_factor : (a b : ℕ) → 1 ≤ a * b → 1 ≤ a
first_factor zero b some = absurd (let none = zero-mul b in omega (arith, none, some))
first_factor (suc a) b some = omega arith

pub second_factor : (a b : ℕ) → 1 ≤ a * b → 1 ≤ b
second_factor a zero some = absurd (let none = mul-zero a in omega (arith, none, some))
second_factor a (suc b) some = omega arith

-- there are no more cells than sites
pub cells_below : (cells sites : ℕ) → 1 ≤ cells * sites → cells ≤ cells * sites
cells_below cells sites some = le-mul_of_pos_right cells (second_factor cells sites some)

-- so a place in a row of cells is no number past the limit of the sites
pub cell_within : (a b nx ny sites limit : ℕ) → a < nx → b < ny → 1 ≤ nx * ny * sites → nx * ny * sites ≤ limit → a * ny + b ≤ limit
cell_within a b nx ny sites limit column row some few =
    let inside = place_below a b nx ny column row in
    let fewer = cells_below (nx * ny) sites some in
    omega (arith, inside, fewer, few)
