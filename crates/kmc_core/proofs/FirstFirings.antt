-- The firing that comes first among entries to which one is added at the end.
use Rattle.std.proofs.Common.{◌≡◌, List, [], ◌∷◌, ◌++◌, Option, None, Some, refl, ap, ◌∙◌, arith}
use Rattle.kmc_base.specs.Entries.{first_of_two, least, firing_of}
use Rattle.kmc_base.specs.declared.entry.Entry.{Entry}
use Rattle.kmc_base.specs.declared.entry.Firing.{Firing}

first-alone : (a : Option Firing) → first_of_two a None ≡ a
first-alone None = refl
first-alone (Some a) = refl

-- of three it does not matter which two are compared first
first-assoc : (a b c : Option Firing) → first_of_two a (first_of_two b c) ≡ first_of_two (first_of_two a b) c
first-assoc None b c = refl
first-assoc (Some a) None c = refl
first-assoc (Some a) (Some b) None = grind (arith, first-alone)
first-assoc (Some a) (Some b) (Some c) = grind (arith)

pub least-pushed : (es : List Entry) (e : Entry) → least (es ++ e ∷ []) ≡ first_of_two (least es) (firing_of e)
least-pushed [] e = first-alone (firing_of e)
least-pushed (d ∷ es) e = ap (first_of_two (firing_of d)) (least-pushed es e) ∙ first-assoc (firing_of d) (least es) (firing_of e)
