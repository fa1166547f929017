-- The tree over rooms of which one has changed.
use Rattle.std.proofs.Common.{◌≡◌, ◌≢◌, ℕ, ◌<◌, false, true, List, length, Option, None, sym, ap, ◌∙◌, subst, arith, inl, inr}
use Rattle.std.specs.Prelude.{IsSome, option_and_then, slice_index_or}
use Rattle.std.proofs.lemmas.Bool.{cases_eq, cases_lt}
use Rattle.kmc_base.specs.Entries.{firing_at, firing_of}
use Rattle.kmc_base.specs.declared.entry.Entry.{Entry}
use Rattle.kmc_base.specs.declared.entry.Firing.{Firing}
use Rattle.kmc_base.specs.declared.firing_time.When.{When}
use Rattle.kmc_base.specs.declared.firing_time.When.TheVariants.{At, Never}
use Rattle.slab.specs.Slab.{Slab, Updates, get}
use Rattle.process_queue.specs.LeadTree.{AreReal, IsReal, IsRight, IsTree}
use Rattle.process_queue.specs.declared.lead.TheConstants.{NO_CODE}

-- the firing of an entry has its code
pub real-entry : (e : Entry) → e.code ≢ NO_CODE → IsReal (firing_of e)
real-entry e other = real-at e.when
  where
    real-at : (when : When) → IsReal (firing_at when e.code)
    real-at (At t) = other
    real-at Never = tt

module _ (old new : Slab Entry) (room : ℕ) (slot : Option Entry) (updates : Updates old new room slot) where
  pub real-after : IsReal (option_and_then firing_of slot) → AreReal old.slots → AreReal new.slots
  real-after real all other =
      elim (cases_eq other room) [
        | inl same ↦ subst (λ s. IsReal (option_and_then firing_of s))
            (sym (ap (get new) same ∙ updates.changed)) real
        | inr differ ↦ subst (λ s. IsReal (option_and_then firing_of s)) (sym (updates.others other differ)) (all other)
      ]

  -- once it is mended
  pub tree-after : (leads mended : List (Option Firing)) → IsReal (option_and_then firing_of slot) → IsTree old.slots leads
      → room < length leads → IsRight new.slots mended → length mended ≡ length leads → IsTree new.slots mended
  tree-after leads mended real tree within right len = record {
    real = real-after real tree.real;
    right = right;
    within = λ other outside. updates.others other (λ same. absurd (omega arith)) ∙ tree.within other (omega arith);
  }

-- a room that has an entry has a node
pub taken-within : (slots : List (Option Entry)) (leads : List (Option Firing)) (room : ℕ) → IsTree slots leads
    → IsSome (slice_index_or slots room None) → room < length leads
taken-within slots leads room tree taken =
    elim (cases_lt room (length leads)) [
      | inl below ↦ below
      | inr outside ↦ let never : false ≡ true = subst IsSome (tree.within room outside) taken in cc
    ]
