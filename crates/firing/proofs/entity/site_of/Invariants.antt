use Rattle.std.proofs.Common.{◌≡◌, ◌<◌, ◌-◌, ℕ, false}
use Rattle.firing.specs.Sides.{is_dentate}
use Rattle.firing.proofs.Wants.{want_at}
use Rattle.firing.proofs.entity.site_of.Given as goal

-- none of the vertices so far wants the dentate
abbrev pub invariant-loop-vertex : goal.invariant-loop-vertex
invariant-loop-vertex l = (m : ℕ) → m < l.vertex - 1 → is_dentate l.entity l.dentate (want_at l.side.wanted m) ≡ false
