-- The two sides of an instance as what firing makes of a configuration.
use Rattle.std.proofs.Common.{◌≡◌, ◌≢◌, ℕ, ℤ, zero, ◌<◌, true, false, ◌&&◌, eqb, List, [], ◌∷◌, length, set}
use Rattle.std.proofs.Common.{zip, All, AllPairs, map, suc, inl, inr, refl, sym, ap, ◌∙◌, subst, arith, replicate}
use Rattle.std.proofs.Common.{None, unwrap_or}
use Rattle.std.proofs.Math.Path.{fun_ext}
use Rattle.std.proofs.lemmas.Bool.{and_parts, both_ways, cases_Bool, eq-eqb, eqb-true, false_from_ne_true, or_parts}
use Rattle.std.proofs.lemmas.List.{get_or_default, get_or-set_other, get_or-set_same, length-replicate, length-set}
use Rattle.firing.proofs.Placed.{with-length}
use Rattle.firing.specs.Firing.{CanFire}
use Rattle.firing.specs.Sides.{sites_from, state_for, states_for, with_states}
use Rattle.kmc_base.specs.declared.ids.SiteId.{SiteId}
use Rattle.lattice_core.proofs.Adsorbates.{later_different}
use Rattle.lattice_core.proofs.Members.{listed_place}
use Rattle.lattice_core.specs.Config.{state_at}
use Rattle.lattice_core.specs.Lattice.{Lattice, site_count}
use Rattle.lattice_core.specs.Shown.{given_at}
use Rattle.lattice_core.specs.SiteList.{is_listed, site_numbers}
use Rattle.lattice_core.specs.declared.state.State.{State}
use Rattle.lattice_core.specs.declared.state.State.TheVariants.{Vacant as Free}
use Rattle.pattern_list.proofs.Conditions.{different-places, sites-from}
use Rattle.pattern_list.specs.Placement.{all_different, are_sites, edges_fall, is_placement, types_agree}
use Rattle.pattern_types.specs.Parts.{PatternParts, vertex_count}
use Rattle.rate_rules.proofs.MatchedStates.{in_wanted_states}
use Rattle.rate_rules.specs.Reaction.{bare_reaction_energy, energy_difference, reaction_energy}
use Rattle.rate_rules.specs.Sides.{bare_side, other_side}
use Rattle.rate_rules.specs.Soundness.{IsInstance, IsSoundProcess}
use Rattle.rate_rules.specs.declared.chemistry.Chemistry.{Chemistry}
use Rattle.rate_rules.specs.declared.chemistry.Process.{Process}

-- ---- the sites of a placement

-- as many sites of the lattice as the pattern has vertices, which are different
pub record IsOn (lattice : Lattice) (p : PatternParts) (sites : List ℕ) : Type 0 where
  pub vertices : length sites ≡ vertex_count p
  pub inside : All (λ s. s < site_count lattice) sites
  pub different : AllPairs (λ s t. s ≢ t) sites

pub on-placement : (lattice : Lattice) (p : PatternParts) (sites : List ℕ) → is_placement lattice p sites ≡ true → IsOn lattice p sites
unfolding is_placement
on-placement lattice p sites placed =
    let edged = (and_parts (are_sites lattice p sites && all_different sites && edges_fall lattice p sites)
    (types_agree lattice p sites) placed).0 in
    let apart = (and_parts (are_sites lattice p sites && all_different sites) (edges_fall lattice p sites) edged).0 in
    let parts = and_parts (are_sites lattice p sites) (all_different sites) apart in
    let are = sites-from lattice p sites parts.0 in
    record {
      vertices = are.long;
      inside = are.inside;
      different = λ i j d below within e. different-places sites parts.1 i j below within
          (get_or_default sites i 0 d (omega arith) ∙ (e ∙ get_or_default sites j d 0 within));
    }

pub same-vertices : (dentates : ℕ → ℕ) (process : Process) → IsSoundProcess dentates process
    → vertex_count process.after ≡ vertex_count process.before
same-vertices dentates process sound =
    sym sound.after.pattern.typed ∙ ap length sound.types ∙ sound.before.pattern.typed

-- an instance can fire
pub can-fire : (chemistry : Chemistry) (process : Process) (states : List State) (sites : List ℕ)
    → IsInstance chemistry process states sites → CanFire process.before process.after sites states
can-fire chemistry process states sites is =
    let sound = is.placed.process_sound in
    let dentates = is.placed.dentates in
    let on = on-placement chemistry.graph process.before sites is.placed.placed in
    record {
      can_clear = record {
        sound = sound.before;
        placed = record {
          vertices = on.vertices;
          inside = subst (λ (n : ℕ). All (λ s. s < n) sites) (sym is.long) on.inside;
          different = on.different;
        };
        in_states = in_wanted_states dentates process.before sound.before states is.well_formed sites on.vertices is.matches;
        well_formed = (dentates, sound.dentates_before, is.well_formed);
      };
      sound_after = sound.after;
      same_vertices = same-vertices dentates process sound;
    }

-- ---- some sites with given states

given-none : (sites : List ℕ) (given : List State) (s : ℕ) → is_listed sites s ≡ false → given_at (zip (sites_from sites) given) s ≡ None
given-none [] given s none = refl
given-none (t ∷ sites) [] s none = refl
given-none (t ∷ sites) (x ∷ given) s none =
    let parts = or_parts (eqb t s) (is_listed sites s) none in
    rw parts.0 (given-none sites given s parts.1)

first-once : (t : ℕ) (sites : List ℕ) → AllPairs (λ s u. s ≢ u) (t ∷ sites) → is_listed sites t ≡ false
first-once t sites different =
    false_from_ne_true _ (λ h. let m = listed_place sites t h in different 0 (suc m.0) 0 (omega arith) (let low = m.1 in omega arith) (sym m.2))

shown : (sites : List ℕ) (given states : List State) → AllPairs (λ s t. s ≢ t) sites → All (λ s. s < length states) sites → (s : ℕ)
    → state_at (with_states (zip (sites_from sites) given) states) s ≡ unwrap_or (given_at (zip (sites_from sites) given) s) (state_at states s)
unfolding with_states
shown [] given states different inside s = refl
shown (t ∷ sites) [] states different inside s = refl
shown (t ∷ sites) (x ∷ given) states different inside s =
    let long = length-set states t x in
    let rest = shown sites given (set states t x) (later_different t sites different)
    (λ j d within. let there = inside (suc j) d (omega arith) in omega arith) s in
    elim (cases_Bool (eqb t s)) [
      | inl equal ↦
          let same = eqb-true t s equal in
          let none = given-none sites given s (subst (λ n. is_listed sites n ≡ false) same (first-once t sites different)) in
          let here : state_at (set states t x) s ≡ x = subst (λ n. state_at (set states t x) n ≡ x) same (get_or-set_same states t x Free
          (inside 0 0 (omega arith))) in
          rest ∙ rw (none, equal) here
      | inr other ↦
          let apart : s ≢ t = λ e. both_ways _ other (eq-eqb t s (sym e)) in
          rest ∙ rw (other, get_or-set_other states t s x Free apart) refl
    ]

-- the states of a side on its sites, over any states
pub over-states : (side : PatternParts) (sites : List ℕ) (states : List State) → AllPairs (λ s t. s ≢ t) sites
    → All (λ s. s < length states) sites
    → state_at (with_states (states_for side sites) states) ≡ (λ s. unwrap_or (given_at (states_for side sites) s) (state_at states s))
over-states side sites states different inside = fun_ext (shown sites (map (state_for side sites) side.wanted) states different inside)

-- the other side of an instance
fired-states : (chemistry : Chemistry) (process : Process) (states new : List State) (sites : List ℕ)
    → IsInstance chemistry process states sites → new ≡ with_states (states_for process.after sites) states
    → state_at new ≡ other_side process sites (state_at states)
fired-states chemistry process states new sites is made =
    let on = on-placement chemistry.graph process.before sites is.placed.placed in
    ap state_at made ∙ over-states process.after sites states on.different (subst (λ (n : ℕ). All (λ s. s < n) sites) (sym is.long) on.inside)

vacant-at : (count s : ℕ) → state_at (replicate count Free) s ≡ Free
vacant-at zero s = refl
vacant-at (suc count) zero = refl
vacant-at (suc count) (suc s) = vacant-at count s

-- over a vacant lattice
pub bare-states : (side : PatternParts) (sites : List ℕ) (count : ℕ) → AllPairs (λ s t. s ≢ t) sites → All (λ s. s < count) sites
    → state_at (with_states (states_for side sites) (replicate count Free)) ≡ bare_side side sites
bare-states side sites count different inside =
    over-states side sites (replicate count Free) different (subst (λ (n : ℕ). All (λ s. s < n) sites) (sym (length-replicate count Free)) inside)
    ∙ fun_ext (λ s. ap (unwrap_or (given_at (states_for side sites) s)) (vacant-at count s))

-- ---- what firing makes of a copy

pub copy-fired : (after : PatternParts) (new copy states : List State) (sites placement : List SiteId)
    → new ≡ with_states (states_for after (site_numbers sites)) copy → sites ≡ placement → copy ≡ states
    → new ≡ with_states (states_for after (site_numbers placement)) states
copy-fired after new copy states sites placement made same copied =
    made ∙ ap (λ (ss : List SiteId). with_states (states_for after (site_numbers ss)) copy) same
    ∙ ap (with_states (states_for after (site_numbers placement))) copied

pub long-as : (given : List (SiteId × State)) (states new : List State) (count : ℕ) → new ≡ with_states given states
    → length states ≡ count → length new ≡ count
long-as given states new count made long = ap length made ∙ with-length given states ∙ long

-- ---- the reaction energies by what the code has made

pub forward-is : (chemistry : Chemistry) (process : Process) (states new : List State) (sites : List ℕ) (gas : ℤ)
    → IsInstance chemistry process states sites → new ≡ with_states (states_for process.after sites) states → gas ≡ process.gas
    → process.forward ≡ true
    → energy_difference chemistry gas (state_at states) (state_at new) ≡ reaction_energy chemistry (state_at states) process sites
forward-is chemistry process states new sites gas is made same forward =
    rw (same, forward) (ap (energy_difference chemistry process.gas (state_at states)) (fired-states chemistry process states new sites is made))

pub reverse-is : (chemistry : Chemistry) (process : Process) (states new : List State) (sites : List ℕ) (gas : ℤ)
    → IsInstance chemistry process states sites → new ≡ with_states (states_for process.after sites) states → gas ≡ process.gas
    → process.forward ≡ false
    → energy_difference chemistry gas (state_at new) (state_at states) ≡ reaction_energy chemistry (state_at states) process sites
reverse-is chemistry process states new sites gas is made same reverse =
    rw (same, reverse)
    (ap (λ f. energy_difference chemistry process.gas f (state_at states)) (fired-states chemistry process states new sites is made))

pub bare-forward : (chemistry : Chemistry) (process : Process) (sites : List ℕ) (before after : ℕ → State) (gas : ℤ)
    → before ≡ bare_side process.before sites → after ≡ bare_side process.after sites → gas ≡ process.gas → process.forward ≡ true
    → energy_difference chemistry gas before after ≡ bare_reaction_energy chemistry process sites
bare-forward chemistry process sites before after gas one other same forward =
    rw (same, forward) (ap (λ f. energy_difference chemistry process.gas f after) one
    ∙ ap (energy_difference chemistry process.gas (bare_side process.before sites)) other)

pub bare-reverse : (chemistry : Chemistry) (process : Process) (sites : List ℕ) (before after : ℕ → State) (gas : ℤ)
    → before ≡ bare_side process.before sites → after ≡ bare_side process.after sites → gas ≡ process.gas → process.forward ≡ false
    → energy_difference chemistry gas after before ≡ bare_reaction_energy chemistry process sites
bare-reverse chemistry process sites before after gas one other same reverse =
    rw (same, reverse) (ap (λ f. energy_difference chemistry process.gas f before) other
    ∙ ap (energy_difference chemistry process.gas (bare_side process.after sites)) one)
