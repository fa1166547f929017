use Rattle.std.proofs.Common.{◌≡◌, ◌+◌, ◌-◌}
use Rattle.lattice_core.specs.SiteList.{site_numbers}
use Rattle.pattern_types.specs.Parts.{vertex_count}
use Rattle.pattern_list.specs.Code.{slot_at, slots_code}
use Rattle.pattern_list.proofs.Digits.{tail}
use Rattle.pattern_list.proofs.code.slots_code.Given as goal

-- the slots of the places that are left complete the code
abbrev pub invariant-loop-place : goal.invariant-loop-place
invariant-loop-place l =
    l.code + tail (slot_at l.graph l.pattern (site_numbers l.sites)) l.place (vertex_count l.pattern - l.place)
    ≡ slots_code l.graph l.pattern (site_numbers l.sites)
