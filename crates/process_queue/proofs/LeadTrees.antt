-- The tree over the rooms: what mending a node makes of it.
use Rattle.std.proofs.Common.{◌≡◌, ◌≢◌, ℕ, ◌+◌, ◌-◌, ◌*◌, ◌/◌, ◌<◌, zero, suc, List, [], ◌∷◌, ◌++◌, length, set, Option, None, refl, sym, ap, ◌∙◌, arith, inl, inr}
use Rattle.std.proofs.lemmas.Bool.{cases_eq}
use Rattle.kmc_base.specs.Entries.{first_of_two}
use Rattle.kmc_base.specs.declared.entry.Entry.{Entry}
use Rattle.kmc_base.specs.declared.entry.Firing.{Firing}
use Rattle.process_queue.specs.LeadTree.{IsRight, IsRightBut, lead_at, lead_from, room_firing}

-- ---- a node with another firing

lead_at-here : (leads : List (Option Firing)) (node : ℕ) (lead : Option Firing) → node < length leads → lead_at (set leads node lead) node ≡ lead
lead_at-here [] node lead within = absurd (omega arith)
lead_at-here (l ∷ ls) zero lead within = refl
lead_at-here (l ∷ ls) (suc node) lead within = lead_at-here ls node lead (omega arith)

lead_at-there : (leads : List (Option Firing)) (node other : ℕ) (lead : Option Firing) → other ≢ node
    → lead_at (set leads node lead) other ≡ lead_at leads other
lead_at-there [] node other lead differ = refl
lead_at-there (l ∷ ls) zero zero lead differ = absurd (differ refl)
lead_at-there (l ∷ ls) zero (suc other) lead differ = refl
lead_at-there (l ∷ ls) (suc node) zero lead differ = refl
lead_at-there (l ∷ ls) (suc node) (suc other) lead differ = lead_at-there ls node other lead (λ same. differ (ap suc same))

-- what a node should name, if the two nodes below it name what they named
lead_from-alike : (slots : List (Option Entry)) (one two : List (Option Firing)) (node : ℕ)
    → lead_at one (2 * node + 1) ≡ lead_at two (2 * node + 1) → lead_at one (2 * node + 2) ≡ lead_at two (2 * node + 2)
    → lead_from slots one node ≡ lead_from slots two node
lead_from-alike slots one two node left right =
    ap (λ l. first_of_two (first_of_two (room_firing slots node) l) (lead_at one (2 * node + 2))) left
    ∙ ap (λ l. first_of_two (first_of_two (room_firing slots node) (lead_at two (2 * node + 1))) l) right

-- ---- a mended node

pub right-everywhere : (slots : List (Option Entry)) (leads : List (Option Firing)) (wrong : ℕ) → IsRightBut slots leads wrong
    → lead_at leads wrong ≡ lead_from slots leads wrong → IsRight slots leads
right-everywhere slots leads wrong but here node =
    elim (cases_eq node wrong) [
      | inl same ↦ ap (lead_at leads) same ∙ here ∙ ap (lead_from slots leads) (sym same)
      | inr other ↦ but node other
    ]

right-below : (slots : List (Option Entry)) (leads : List (Option Firing)) (wrong : ℕ) (lead : Option Firing) → wrong < length leads
    → lead ≡ lead_from slots leads wrong → IsRightBut slots leads wrong → (node : ℕ) → 2 * node + 1 ≢ wrong → 2 * node + 2 ≢ wrong
    → lead_at (set leads wrong lead) node ≡ lead_from slots (set leads wrong lead) node
right-below slots leads wrong lead within is but node left right =
    let below = lead_from-alike slots leads (set leads wrong lead) node
    (sym (lead_at-there leads wrong (2 * node + 1) lead left)) (sym (lead_at-there leads wrong (2 * node + 2) lead right)) in
    elim (cases_eq node wrong) [
      | inl same ↦ ap (lead_at (set leads wrong lead)) same ∙ lead_at-here leads wrong lead within ∙ is
          ∙ ap (lead_from slots leads) (sym same) ∙ below
      | inr other ↦ lead_at-there leads wrong node lead other ∙ but node other ∙ below
    ]

-- if it is the root, all are right
pub right-root : (slots : List (Option Entry)) (leads : List (Option Firing)) (wrong : ℕ) (lead : Option Firing) → wrong < length leads
    → lead ≡ lead_from slots leads wrong → IsRightBut slots leads wrong → wrong ≡ 0 → IsRight slots (set leads wrong lead)
right-root slots leads wrong lead within is but root node =
    right-below slots leads wrong lead within is but node (λ e. omega arith) (λ e. omega arith)

-- or else all but the node above it
pub right-above : (slots : List (Option Entry)) (leads : List (Option Firing)) (wrong : ℕ) (lead : Option Firing) → wrong < length leads
    → lead ≡ lead_from slots leads wrong → IsRightBut slots leads wrong → 0 < wrong
    → IsRightBut slots (set leads wrong lead) ((wrong - 1) / 2)
right-above slots leads wrong lead within is but some node other =
    right-below slots leads wrong lead within is but node (λ e. other (omega arith)) (λ e. other (omega arith))

-- ---- more nodes that name none

pub lead_at-none : (leads : List (Option Firing)) (node : ℕ) → lead_at (leads ++ None ∷ []) node ≡ lead_at leads node
lead_at-none [] zero = refl
lead_at-none [] (suc node) = refl
lead_at-none (l ∷ ls) zero = refl
lead_at-none (l ∷ ls) (suc node) = lead_at-none ls node
