-- How often a file, an output or a screen has failed. A count has 64 bits, and stays at 2^64 - 1 once it is there.
use Rattle.std.specs.Prelude.{◌≡◌, ◌≢◌, ℕ, ◌+◌, ◌-◌, ◌^◌, ◌≤◌, Option, None, Some, min}

-- the count after one more fault
abbrev pub one_more : ℕ → ℕ
one_more count = min (count + 1) (2 ^ 64 - 1)

-- the count has risen: it is greater now, or it is at 2^64 - 1
abbrev pub Rose : ℕ → ℕ → Type 0
Rose before now = one_more before ≤ now

-- a count is at most 2^64 - 1
abbrev pub IsCount : ℕ → Type 0
IsCount count = count ≤ 2 ^ 64 - 1

-- all counts are as before
abbrev pub SameCounts : {K : Type 0} → (K → ℕ) → (K → ℕ) → Type 0
SameCounts {K} before now = (k : K) → now k ≡ before k

-- the counts of all but this one are as before
abbrev pub SameCountsBut : {K : Type 0} → K → (K → ℕ) → (K → ℕ) → Type 0
SameCountsBut {K} one before now = (k : K) → k ≢ one → now k ≡ before k

-- Only this one has failed, if any has: its count has risen, and all others are as before.
abbrev pub OnlyFailed : {K : Type 0} → Option K → (K → ℕ) → (K → ℕ) → Type 0
OnlyFailed None before now = SameCounts before now
OnlyFailed (Some one) before now = Rose (before one) (now one) × SameCountsBut one before now
