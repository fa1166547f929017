-- Lists of sites, read as the numbers of the sites.
use Rattle.std.specs.Prelude.{ℕ, ◌≡◌, ◌==◌, ◌||◌, Bool, List, [], length, map, filter, take, slice_index_or}
use Rattle.std.specs.List.{list_any, range_with_len}
use Rattle.std.specs.List.Sorted.{IsStrictlyIncreasing}
use Rattle.std.specs.declared.vec.Vec.{Vec}
use Rattle.std.specs.declared.alloc.Global.{Global}
use Rattle.kmc_base.specs.declared.ids.SiteId.{SiteId}

-- the numbers of the sites of a list
abbrev pub site_numbers : List SiteId → List ℕ
site_numbers sites = map (λ s. s.0) sites

-- the numbers of the sites of each list
abbrev pub number_lists : List (Vec SiteId Global) → List (List ℕ)
number_lists lists = map (λ v. site_numbers v.items) lists

-- whether a list names a site
abbrev pub is_listed : List ℕ → ℕ → Bool
is_listed list s = list_any (λ t. t == s) list

-- the sites below a number that a list names, rising, each once
unfoldable pub merged : ℕ → List ℕ → List ℕ
merged count list = filter (is_listed list) (range_with_len 0 count)

-- the list of a site, which is empty past the last
abbrev pub list_of : List (List ℕ) → ℕ → List ℕ
list_of lists s = slice_index_or lists s []

-- each list of the second names what that of the first does, in rising order, each once
pub record AreMerged (before after : List (List ℕ)) : Type 0 where
  pub same_length : length after ≡ length before
  pub rising : (s : ℕ) → IsStrictlyIncreasing (list_of after s)
  pub same_sites : (s t : ℕ) → is_listed (list_of after s) t ≡ is_listed (list_of before s) t

-- the second list names what the first does, and what is added
abbrev pub Adds : List ℕ → List ℕ → (ℕ → Bool) → Type 0
Adds before after added = (s : ℕ) → is_listed after s ≡ (is_listed before s || added s)

-- the list begins with the other
abbrev pub BeginsWith : List ℕ → List ℕ → Type 0
BeginsWith list front = take (length front) list ≡ front
