-- What the lists of neighbours of all sites name while they grow. Not part of what is promised: no public contract cites this.
use Rattle.std.specs.Prelude.{ℕ, ◌≡◌, ◌||◌, Bool, List, length}
use Rattle.std.specs.declared.vec.Vec.{Vec}
use Rattle.std.specs.declared.alloc.Global.{Global}
use Rattle.kmc_base.specs.declared.ids.SiteId.{SiteId}
use Rattle.lattice_core.specs.Fault.{merged_of}
use Rattle.lattice_core.specs.SiteList.{number_lists, is_listed, list_of}

-- whether the list of a site names another
abbrev pub names : List (Vec SiteId Global) → ℕ → ℕ → Bool
names lists s t = is_listed (list_of (number_lists lists) s) t

-- the second lists name what the first do, and what is added
abbrev pub NamesMore : List (Vec SiteId Global) → List (Vec SiteId Global) → (ℕ → ℕ → Bool) → Type 0
NamesMore before after added = (s t : ℕ) → names after s t ≡ (names before s t || added s t)

-- each list is as long as it is once merged: it names no site twice
abbrev pub HasEachOnce : List (List ℕ) → Type 0
HasEachOnce lists = (s : ℕ) → length (list_of lists s) ≡ length (merged_of lists s)
