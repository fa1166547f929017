use Rattle.std.proofs.Common.{◌≡◌, length, map, take}
use Rattle.std.specs.List.{range_with_len}
use Rattle.firing.specs.Sides.{site_of}
use Rattle.lattice_core.specs.SiteList.{site_numbers}
use Rattle.firing.proofs.entity.entity_sites.Given as goal

-- the sites of the dentates so far
abbrev pub invariant-loop-place : goal.invariant-loop-place
invariant-loop-place l = record {
  count : length l.own ≡ 8;
  sites : site_numbers (take l.place l.own) ≡ map (λ d. site_of l.entity d l.side.wanted (site_numbers l.sites)) (range_with_len 1 l.place);
}
