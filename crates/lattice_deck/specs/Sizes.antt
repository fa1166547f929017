-- How often the cells of a lattice are repeated.
use Rattle.std.specs.Prelude.{ℕ, ◌==◌, ◌≡◌, ◌||◌, ◌≤◌, ◌*◌, IfSome, Bool, false, List, [], ◌∷◌, Option, None, Some, Result, Ok, Err, nat_lt}
use Rattle.kmc_base.specs.declared.limits.TheConstants.{MAX_SITES}
use Rattle.deck_shape.specs.Blocks.{ItemLines}
use Rattle.deck_shape.specs.WordLines.{words_of}
use Rattle.deck_values.specs.Lists.{fault_if}
use Rattle.deck_values.specs.Numbers.{any_decimal, whole_in}
use Rattle.deck_words.specs.Faults.{at_line, both, fault_of, when_read, with_fault}
use Rattle.deck_words.specs.declared.fault.LineFault.{LineFault}
use Rattle.deck_words.specs.declared.kind.TheConstants.{ARGUMENT_COUNT, SELF_NEIGHBOUR, TOO_MANY_SITES}
use Rattle.lattice_deck.specs.declared.ranges.TheConstants.{REPEAT}
use Rattle.lattice_deck.specs.declared.sizes.Sizes.{Sizes}

-- the repeats in the two directions, each at least 1
abbrev pub two_repeats : ℕ → List (List ℕ) → Result (ℕ × ℕ) LineFault
two_repeats line [] = Err (record { line = line; kind = ARGUMENT_COUNT })
two_repeats line (x ∷ []) = Err (record { line = line; kind = ARGUMENT_COUNT })
two_repeats line (x ∷ y ∷ []) = both (at_line line (whole_in REPEAT x)) (at_line line (whole_in REPEAT y))
two_repeats line (x ∷ y ∷ next ∷ words) = Err (record { line = line; kind = ARGUMENT_COUNT })

-- repeats of a cell of so many sites give more than 65,536 sites, where that number is known
abbrev pub gives_too_many : Option ℕ → ℕ × ℕ → Bool
gives_too_many None repeats = false
gives_too_many (Some sites) repeats = nat_lt MAX_SITES (repeats.0 * repeats.1 * sites)

-- repeats of a cell of so many sites, unless they give too many
abbrev pub within_limit : Option ℕ → ℕ → ℕ × ℕ → Result (ℕ × ℕ) LineFault
within_limit sites line repeats = with_fault (fault_if (gives_too_many sites repeats) line TOO_MANY_SITES) (Ok repeats)

-- the repeats on a line, for a cell of so many sites
abbrev pub repeats_on : Option ℕ → ItemLines → Result (ℕ × ℕ) LineFault
repeats_on sites item = when_read (within_limit sites item.line.number) (two_repeats item.line.number (words_of item))

-- a direction with one cell makes each site of a default lattice its own neighbour
abbrev pub is_narrow : ℕ × ℕ → Bool
is_narrow repeats = repeats.0 == 1 || repeats.1 == 1

-- repeats of a cell of one site, each direction of which should have two cells
abbrev pub wide_enough : ℕ → ℕ × ℕ → Result (ℕ × ℕ) LineFault
wide_enough line repeats = with_fault (fault_if (is_narrow repeats) line SELF_NEIGHBOUR) (within_limit (Some 1) line repeats)

-- the repeats of a default lattice, behind its lattice constant, which is used for nothing
abbrev pub default_repeats : ℕ → List (List ℕ) → Result (ℕ × ℕ) LineFault
default_repeats line [] = Err (record { line = line; kind = ARGUMENT_COUNT })
default_repeats line (constant ∷ repeats) =
    with_fault (fault_of (at_line line (any_decimal constant))) (when_read (wide_enough line) (two_repeats line repeats))

-- the repeats of the default lattice on a line
abbrev pub default_on : ItemLines → Result (ℕ × ℕ) LineFault
default_on item = default_repeats item.line.number (words_of item)

-- each direction has a cell
abbrev pub AreRepeats : ℕ × ℕ → Type 0
AreRepeats repeats = (1 ≤ repeats.0) × (1 ≤ repeats.1)

-- each direction has two cells or more
abbrev pub AreWide : ℕ × ℕ → Type 0
AreWide repeats = (2 ≤ repeats.0) × (2 ≤ repeats.1)

-- what is true of the numbers of every file: each is at least 1, and the repeats give at most 65,536 sites
pub record IsSizes (sizes : Sizes) : Type 0 where
  pub sites : IfSome sizes.sites (λ n. (1 ≤ n) × (n ≤ MAX_SITES))
  pub repeats : IfSome sizes.repeats AreRepeats
  pub few : (sites nx ny : ℕ) → sizes.sites ≡ Some sites → sizes.repeats ≡ Some (nx, ny) → nx * ny * sites ≤ MAX_SITES
