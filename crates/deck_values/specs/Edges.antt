-- Edges, which name two sites.
use Rattle.std.specs.Prelude.{ℕ, ◌==◌, Bool, List, Option}
use Rattle.std.specs.Prelude.{option_and_then}
use Rattle.std.specs.List.{after_first, before_first}
use Rattle.std.specs.Option.{option_map}
use Rattle.std.specs.Result.{result_ok}
use Rattle.dec_text.specs.Wholes.{whole_number}

-- '-' (45)
abbrev pub is_dash : ℕ → Bool
is_dash b = b == 45

-- the two whole numbers of an edge `i-j`
abbrev pub edge_of : List ℕ → Option (ℕ × ℕ)
edge_of word =
    option_and_then (λ i. option_map (λ j. (i, j)) (result_ok (whole_number (after_first is_dash word))))
    (result_ok (whole_number (before_first is_dash word)))
