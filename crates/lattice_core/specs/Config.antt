-- Configurations (Stamatakis and Vlachos 2011): which dentate of which adsorbate is on each site of the lattice.
-- An adsorbate is named by its home, the site of its dentate 1.
use Rattle.std.specs.Prelude.{ℕ, ◌≡◌, ◌≤◌, ◌+◌, ◌*◌, ◌==◌, Bool, false, List, [], ◌∷◌, length, map, slice_index, slice_index_or, if◌then◌else◌}
use Rattle.std.specs.List.{range_with_len}
use Rattle.lattice_core.specs.declared.state.State.{State}
use Rattle.lattice_core.specs.declared.state.State.TheVariants.{Vacant, Holds}
use Rattle.lattice_core.specs.SiteList.{is_listed}

-- the state of a site, vacant past the last
abbrev pub state_at : List State → ℕ → State
state_at states s = slice_index_or states s Vacant

-- the class of a state: 0 where it is vacant, else 8 times the species plus the dentate
abbrev pub class_of : State → ℕ
class_of Vacant = 0
class_of (Holds species dentate home) = species.0 * 8 + dentate

-- a site that holds a dentate of the adsorbate of a species with this home
abbrev pub held : ℕ → ℕ → ℕ → State
held species dentate home = Holds (record { 0 = species }) dentate (record { 0 = home })

-- whether it holds a dentate of the adsorbate with this home
abbrev pub has_home : State → ℕ → Bool
has_home Vacant h = false
has_home (Holds species dentate home) h = home.0 == h

-- the state of a site once dentates, from this one on, stand on sites in their order: that of its dentate, or the old one
abbrev pub state_among : ℕ → ℕ → ℕ → List ℕ → ℕ → State → State
state_among species home dentate [] s old = old
state_among species home dentate (t ∷ sites) s old =
    if t == s then held species dentate home else state_among species home (dentate + 1) sites s old

-- the configuration with one more adsorbate: dentate 1 on the first of the sites, which is its home
unfoldable pub put : List State → ℕ → List ℕ → List State
put states species sites =
    map (λ s. state_among species (slice_index sites 0) 1 sites s (state_at states s)) (range_with_len 0 (length states))

-- the configuration with some sites vacant
unfoldable pub cleared : List State → List ℕ → List State
cleared states sites =
    map (λ s. if is_listed sites s then Vacant else state_at states s) (range_with_len 0 (length states))

-- the sites are all those of one adsorbate
pub record IsWholeAdsorbate (states : List State) (sites : List ℕ) : Type 0 where
  pub home : ℕ
  pub has_a_site : 1 ≤ length sites
  pub all_sites : (s : ℕ) → is_listed sites s ≡ has_home (state_at states s) home

-- the sites of one home hold one adsorbate: of one species, with each of its dentates once, and dentate 1 on the home
pub record IsAdsorbate (dentates : ℕ → ℕ) (states : List State) (species home : ℕ) : Type 0 where
  pub one_species : (s p d : ℕ) → state_at states s ≡ held p d home → (p ≡ species) × (1 ≤ d) × (d ≤ dentates species)
  pub each_once : (d : ℕ) → 1 ≤ d → d ≤ dentates species → (s : ℕ) × (state_at states s ≡ held species d home)
      × ((t : ℕ) → state_at states t ≡ held species d home → t ≡ s)
  pub first_on_home : state_at states home ≡ held species 1 home

-- a configuration is well formed, for these numbers of dentates of the species, where each home has one adsorbate
abbrev pub IsWellFormed : (ℕ → ℕ) → List State → Type 0
IsWellFormed dentates states = (s species d home : ℕ) → state_at states s ≡ held species d home → IsAdsorbate dentates states species home
