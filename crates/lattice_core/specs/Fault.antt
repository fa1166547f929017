-- The first fault of lists of neighbours: that of the least site that has one, and at one site the first of the
-- order no site, its own neighbour, too many, one-sided.
use Rattle.std.specs.Prelude.{ℕ, Bool, not, List, [], ◌∷◌, length, map, Option, Some, None, nat_lt, nat_le, find, is_some, if◌then◌else◌}
use Rattle.std.specs.List.{list_any, range_with_len}
use Rattle.std.specs.Option.{option_map}
use Rattle.lattice_core.specs.declared.fault.GraphFault.{GraphFault}
use Rattle.lattice_core.specs.declared.fault.GraphFault.TheVariants.{BadSite, SelfNeighbour, TooMany, OneSided}
use Rattle.lattice_core.specs.declared.graph.TheConstants.{MAX_NEIGHBOURS}
use Rattle.lattice_core.specs.SiteList.{is_listed, list_of, merged}
use Rattle.lattice_core.specs.Lattice.{Lattice}

-- the neighbours that a site lists, rising, each once
abbrev pub merged_of : List (List ℕ) → ℕ → List ℕ
merged_of lists s = merged (length lists) (list_of lists s)

-- a number in its list is that of no site
abbrev pub has_bad_site : List (List ℕ) → ℕ → Bool
has_bad_site lists s = list_any (λ t. nat_le (length lists) t) (list_of lists s)

-- it lists itself
abbrev pub has_itself : List (List ℕ) → ℕ → Bool
has_itself lists s = is_listed (list_of lists s) s

-- it lists too many different neighbours
abbrev pub has_too_many : List (List ℕ) → ℕ → Bool
has_too_many lists s = nat_lt MAX_NEIGHBOURS (length (merged_of lists s))

-- the least neighbour that it lists and that does not list it
abbrev pub one_sided : List (List ℕ) → ℕ → Option ℕ
one_sided lists s = find (λ t. not (is_listed (list_of lists t) s)) (merged_of lists s)

-- the first fault of one site
unfoldable pub site_fault : List (List ℕ) → ℕ → Option GraphFault
site_fault lists s =
    if has_bad_site lists s
    then Some (BadSite s)
    else
    (if has_itself lists s
    then Some (SelfNeighbour s)
    else (if has_too_many lists s then Some (TooMany s) else option_map (OneSided s) (one_sided lists s)))

-- the fault of the first of some sites that has one
abbrev pub fault_among : List (List ℕ) → List ℕ → Option GraphFault
fault_among lists [] = None
fault_among lists (s ∷ rest) = if is_some (site_fault lists s) then site_fault lists s else fault_among lists rest

-- the first fault of the lists of all sites
abbrev pub first_fault : List (List ℕ) → Option GraphFault
first_fault lists = fault_among lists (range_with_len 0 (length lists))

-- the lattice of these types and lists, each list rising with each neighbour once
abbrev pub lattice_from : List ℕ → List (List ℕ) → Lattice
lattice_from types lists = record { types = types; neighbours = map (merged (length types)) lists }
