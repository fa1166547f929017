-- Contents that a folder or a screen may report.
use Rattle.std.specs.Prelude.{Option, IfSome, IsSomeAnd}

-- Contents are reported after a call only if they were before it, and then this holds of the two.
abbrev pub Tells : {X : Type 0} → Option X → Option X → (X → X → Type 0) → Type 0
Tells before after P = IfSome after (λ now. IsSomeAnd before (λ then. P then now))
