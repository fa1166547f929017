-- What is known of the sites of a listed placement: they match, and a step whose side before it is the pattern can fire there.
use Rattle.std.proofs.Common.{◌≡◌, ℕ, ◌<◌, true, ◌&&◌, List, Contains, length, map, get_or, subst, sym, ◌∙◌, arith}
use Rattle.std.proofs.lemmas.Bool.{and_parts}
use Rattle.std.proofs.lemmas.List.{get_or_default}
use Rattle.std.proofs.lemmas.List.Elements.{Contains-get_or}
use Rattle.std.specs.List.{All}
use Rattle.firing.specs.Firing.{CanFire}
use Rattle.firing.specs.Soundness.{HasDentates, IsSoundSide}
use Rattle.kmc_base.specs.declared.ids.SiteId.{SiteId}
use Rattle.lattice_core.specs.Config.{IsWellFormed, state_at}
use Rattle.lattice_core.specs.Lattice.{Lattice, all_sites, site_count}
use Rattle.lattice_core.specs.SiteList.{site_numbers}
use Rattle.lattice_core.specs.declared.state.State.{State}
use Rattle.pattern_list.proofs.Conditions.{different-places, sites-from}
use Rattle.pattern_list.proofs.Members.{in-map, passes-filter}
use Rattle.pattern_list.specs.Listing.{is_listed_placement, listing}
use Rattle.pattern_list.specs.Match.{is_match}
use Rattle.pattern_list.specs.Placement.{all_different, are_sites, edges_fall, is_placement, types_agree}
use Rattle.pattern_list.specs.Tuples.{tuples}
use Rattle.pattern_types.specs.Parts.{PatternParts, vertex_count}
use Rattle.rate_rules.proofs.MatchedStates.{in_wanted_states}

-- a placement of a listing is one, and matches
pub listed : (lattice : Lattice) (states : ℕ → State) (p : PatternParts) (found : List (List SiteId)) (k : ℕ) (sites : List SiteId)
    → map site_numbers found ≡ listing lattice states p → k < length found → sites ≡ get_or found k sites
    → (is_placement lattice p (site_numbers sites) ≡ true) × (is_match states p (site_numbers sites) ≡ true)
unfolding listing
listed lattice states p found k sites same inside is =
    let here : Contains found sites = subst (Contains found) (sym is) (Contains-get_or found k sites inside) in
    let there = subst (λ (l : List (List ℕ)). Contains l (site_numbers sites)) same (in-map site_numbers found sites here) in
    let passed = passes-filter (is_listed_placement lattice states p) (tuples (vertex_count p) (all_sites lattice)) (site_numbers sites) there in
    and_parts (is_placement lattice p (site_numbers sites)) (is_match states p (site_numbers sites)) passed

-- a step whose side before it matches a placement can fire there
pub can_fire : (lattice : Lattice) (before after : PatternParts) (states : List State) (dentates : ℕ → ℕ) (sites : List ℕ)
    → IsSoundSide before → HasDentates dentates before → IsSoundSide after → vertex_count after ≡ vertex_count before
    → length states ≡ site_count lattice → IsWellFormed dentates states → is_placement lattice before sites ≡ true
    → is_match (state_at states) before sites ≡ true → CanFire before after sites states
unfolding is_placement
can_fire lattice before after states dentates sites sound whole sound_after same len well_formed placed matches =
    let edged = (and_parts (are_sites lattice before sites && all_different sites && edges_fall lattice before sites)
    (types_agree lattice before sites) placed).0 in
    let apart = (and_parts (are_sites lattice before sites && all_different sites) (edges_fall lattice before sites) edged).0 in
    let parts = and_parts (are_sites lattice before sites) (all_different sites) apart in
    let are = sites-from lattice before sites parts.0 in
    record {
      can_clear = record {
        sound = sound;
        placed = record {
          vertices = are.long;
          inside = subst (λ (n : ℕ). All (λ s. s < n) sites) (sym len) are.inside;
          different = λ i j d below within e. different-places sites parts.1 i j below within
              (get_or_default sites i 0 d (omega arith) ∙ (e ∙ get_or_default sites j d 0 within));
        };
        in_states = in_wanted_states dentates before sound states well_formed sites are.long matches;
        well_formed = (dentates, whole, well_formed);
      };
      sound_after = sound_after;
      same_vertices = same;
    }
