use Rattle.std.proofs.Common.{ℕ, ◌+◌, ◌<◌, ◌∙◌, ◌++◌, ◌∷◌, [], length, map, take, ap, arith, sym}
use Rattle.std.specs.List.{range_with_len}
use Rattle.std.proofs.lemmas.List.{length-set, map-append, take_more_set}
use Rattle.std.proofs.lemmas.List.FromFn.{map-range_with_len_more}
use Rattle.firing.specs.Sides.{site_of}
use Rattle.kmc_base.specs.declared.ids.SiteId.{SiteId}
use Rattle.lattice_core.specs.SiteList.{site_numbers}
use Rattle.firing.proofs.entity.entity_sites.Goals as goal

pub loop-place-preserved : goal.loop-place-preserved
loop-place-preserved c =
    let i = c.loop-place.place in
    let own = c.loop-place.own in
    let f : ℕ → ℕ = λ d. site_of c.args.entity d c.args.side.now.wanted (site_numbers c.args.sites.now) in
    let number : SiteId → ℕ = λ s. s.0 in
    let low : i < length own = omega (arith, c.loop-place.invariant.count, c.from-size.ensures, c.size_of.ensures.few) in
    record {
      count = length-set _ _ _ ∙ c.loop-place.invariant.count;
      sites = ap site_numbers (take_more_set own i c.site_of.result low)
          ∙ map-append number (take i own) (c.site_of.result ∷ [])
          ∙ ap (λ l. l ++ (c.site_of.result.0 ∷ [])) c.loop-place.invariant.sites
          ∙ ap (λ n. map f (range_with_len 1 i) ++ (n ∷ [])) c.site_of.ensures
          ∙ sym (map-range_with_len_more f 1 i (i + 1) (omega arith));
    }
