-- The first of several loads that fails.
use Rattle.std.proofs.Common.{◌≡◌, ◌∙◌, ap, sym, false, List, ◌∷◌, Option, None, Some, IfSome, if◌then◌else◌}
use Rattle.std.specs.Option.{option_map}
use Rattle.kmc_base.specs.Numbered.{Numbered, next_fails, one_call_more}
use Rattle.kmc_base.specs.declared.ids.FileId.{FileId}
use Rattle.deck_join.specs.Loads.{FailsInOrder, first_failing}
use Rattle.deck_join.specs.declared.refusal.DeckRefusal.{DeckRefusal}

-- after a load that did not fail, the first that fails is the first of the others
pub earlier_passed : (loads next : Option Numbered) (file : FileId) (others : List FileId) (refusal : DeckRefusal)
    → next ≡ option_map one_call_more loads → IfSome loads (λ calls. next_fails calls ≡ false) → FailsInOrder others next refusal
    → FailsInOrder (file ∷ others) loads refusal
earlier_passed None next file others refusal counted passed order = tt
earlier_passed (Some calls) next file others refusal counted passed order =
    let later : FailsInOrder others (Some (one_call_more calls)) refusal = rw counted at order in
    λ enough. later enough ∙ ap (λ b. if b then Some file else first_failing (one_call_more calls) others) (sym passed)
