use Rattle.std.proofs.Common.{◌≡◌, ℕ, List, length}
use Rattle.lattice_core.specs.SiteList.{site_numbers}
use Rattle.pattern_list.specs.Code.{IsCode}
use Rattle.pattern_list.proofs.Coding.{AgreeTo}
use Rattle.pattern_list.proofs.code.decode.Given as goal

-- the vertices at the places that were looked at are on the sites of the code
abbrev pub invariant-loop-place : goal.invariant-loop-place
invariant-loop-place l = record {
  long : length l.sites ≡ 8;
  agrees : (process : ℕ) (sites : List ℕ) → IsCode l.graph l.pattern l.code process sites → AgreeTo l.pattern (site_numbers l.sites) sites l.place;
}
