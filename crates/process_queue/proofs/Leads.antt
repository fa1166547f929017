-- The root of a tree that is right names the firing that comes first.
use Rattle.std.proofs.Common.{◌≡◌, ℕ, ◌+◌, ◌*◌, ◌/◌, ◌≤◌, zero, suc, List, [], ◌∷◌, length, Option, None, Some, refl, sym, ap, ◌∙◌, subst, arith, inl, inr, ◌⊎◌}
use Rattle.std.specs.Prelude.{filter_map, option_and_then}
use Rattle.std.proofs.lemmas.Bool.{cases_Bool, cases_eq}
use Rattle.process_queue.proofs.LeastFirings.{first-alone, first-assoc, first-comm}
use Rattle.kmc_base.specs.Entries.{comes_before, first_of_two, firing_of, least}
use Rattle.kmc_base.specs.declared.entry.Entry.{Entry}
use Rattle.kmc_base.specs.declared.entry.Firing.{Firing}
use Rattle.process_queue.specs.LeadTree.{IsRight, lead_at, room_firing}

-- ---- one firing comes first of two

-- of two, the first is the one that comes first
abbrev pub IsFirst : Option Firing → Option Firing → Type 0
IsFirst a b = first_of_two a b ≡ a

first-itself : (a : Option Firing) → IsFirst a a
first-itself None = refl
first-itself (Some a) =
    elim (cases_Bool (comes_before a a)) [
      | inl t ↦ rw t refl
      | inr f ↦ rw f refl
    ]

first-left : (a b : Option Firing) → IsFirst (first_of_two a b) a
first-left a b = first-comm (first_of_two a b) a ∙ first-assoc a a b ∙ ap (λ x. first_of_two x b) (first-itself a)

first-right : (a b : Option Firing) → IsFirst (first_of_two a b) b
first-right a b = sym (first-assoc a b b) ∙ ap (first_of_two a) (first-itself b)

first-trans : (a b c : Option Firing) → IsFirst a b → IsFirst b c → IsFirst a c
first-trans a b c one two =
    ap (λ x. first_of_two x c) (sym one) ∙ sym (first-assoc a b c) ∙ ap (first_of_two a) two ∙ one

first-both : (a b : Option Firing) → IsFirst a b → IsFirst b a → a ≡ b
first-both a b one two = sym one ∙ first-comm a b ∙ two

-- it is one of the two
one-of_two : (P : Option Firing → Type 0) (a b : Option Firing) → P a → P b → P (first_of_two a b)
one-of_two P None b p q = q
one-of_two P (Some a) None p q = p
one-of_two P (Some a) (Some b) p q =
    elim (cases_Bool (comes_before b a)) [
      | inl t ↦ rw t q
      | inr f ↦ rw f p
    ]

-- ---- all rooms, one after another

-- the firing of a room, or none
abbrev IsOfRoom : List (Option Entry) → Option Firing → Type 0
IsOfRoom slots lead = (lead ≡ None) ⊎ ((room : ℕ) × (room_firing slots room ≡ lead))

abbrev least_of_all : List (Option Entry) → Option Firing
least_of_all slots = least (filter_map (λ slot. slot) slots)

least-more : (slot : Option Entry) (slots : List (Option Entry))
    → least_of_all (slot ∷ slots) ≡ first_of_two (option_and_then firing_of slot) (least_of_all slots)
least-more None slots = refl
least-more (Some e) slots = refl

least-first : (slots : List (Option Entry)) (room : ℕ) → IsFirst (least_of_all slots) (room_firing slots room)
least-first [] zero = refl
least-first [] (suc room) = refl
least-first (slot ∷ slots) zero =
    subst (λ x. IsFirst x (option_and_then firing_of slot)) (sym (least-more slot slots))
    (first-left (option_and_then firing_of slot) (least_of_all slots))
least-first (slot ∷ slots) (suc room) =
    subst (λ x. IsFirst x (room_firing slots room)) (sym (least-more slot slots))
    (first-trans (first_of_two (option_and_then firing_of slot) (least_of_all slots)) (least_of_all slots) (room_firing slots room)
    (first-right (option_and_then firing_of slot) (least_of_all slots)) (least-first slots room))

least-of_room : (slots : List (Option Entry)) → IsOfRoom slots (least_of_all slots)
least-of_room [] = inl refl
least-of_room (slot ∷ slots) =
    subst (IsOfRoom (slot ∷ slots)) (sym (least-more slot slots))
    (one-of_two (IsOfRoom (slot ∷ slots)) (option_and_then firing_of slot) (least_of_all slots) (inr (0, refl))
    (elim (least-of_room slots) [
      | inl none ↦ inl none
      | inr some ↦ inr (suc some.0, some.1)
    ]))

-- ---- the tree

lead_at-outside : (leads : List (Option Firing)) (node : ℕ) → length leads ≤ node → lead_at leads node ≡ None
lead_at-outside [] zero outside = refl
lead_at-outside [] (suc node) outside = refl
lead_at-outside (l ∷ ls) zero outside = absurd (omega arith)
lead_at-outside (l ∷ ls) (suc node) outside = lead_at-outside ls node (omega arith)

module _ (slots : List (Option Entry)) (leads : List (Option Firing)) (right : IsRight slots leads) where
  lead-room : (node : ℕ) → IsFirst (lead_at leads node) (room_firing slots node)
  lead-room node =
      let room = room_firing slots node in
      let left = lead_at leads (2 * node + 1) in
      let both = first_of_two room left in
      subst (λ x. IsFirst x room) (sym (right node))
      (first-trans (first_of_two both (lead_at leads (2 * node + 2))) both room (first-left both (lead_at leads (2 * node + 2)))
      (first-left room left))

  lead-left : (node : ℕ) → IsFirst (lead_at leads node) (lead_at leads (2 * node + 1))
  lead-left node =
      let room = room_firing slots node in
      let left = lead_at leads (2 * node + 1) in
      let both = first_of_two room left in
      subst (λ x. IsFirst x left) (sym (right node))
      (first-trans (first_of_two both (lead_at leads (2 * node + 2))) both left (first-left both (lead_at leads (2 * node + 2)))
      (first-right room left))

  lead-right : (node : ℕ) → IsFirst (lead_at leads node) (lead_at leads (2 * node + 2))
  lead-right node =
      subst (λ x. IsFirst x (lead_at leads (2 * node + 2))) (sym (right node))
      (first-right (first_of_two (room_firing slots node) (lead_at leads (2 * node + 1))) (lead_at leads (2 * node + 2)))

  -- the root is first of all nodes
  root-first : (bound node : ℕ) → node ≤ bound → IsFirst (lead_at leads 0) (lead_at leads node)
  root-first bound zero low = first-itself (lead_at leads 0)
  root-first zero (suc below) low = absurd (omega arith)
  root-first (suc bound) (suc below) low =
      let above = below / 2 in
      let root = root-first bound above (omega arith) in
      elim (cases_eq (suc below) (2 * above + 1)) [
        | inl left ↦ subst (λ n. IsFirst (lead_at leads 0) (lead_at leads n)) (sym left)
            (first-trans (lead_at leads 0) (lead_at leads above) (lead_at leads (2 * above + 1)) root (lead-left above))
        | inr other ↦ let right_is : suc below ≡ 2 * above + 2 = omega arith in
            subst (λ n. IsFirst (lead_at leads 0) (lead_at leads n)) (sym right_is)
            (first-trans (lead_at leads 0) (lead_at leads above) (lead_at leads (2 * above + 2)) root (lead-right above))
      ]

  -- what a node names is the firing of a room
  lead-of_room : (left node : ℕ) → length leads ≤ node + left → IsOfRoom slots (lead_at leads node)
  lead-of_room zero node high = inl (lead_at-outside leads node (omega arith))
  lead-of_room (suc left) node high =
      subst (IsOfRoom slots) (sym (right node))
      (one-of_two (IsOfRoom slots) (first_of_two (room_firing slots node) (lead_at leads (2 * node + 1))) (lead_at leads (2 * node + 2))
      (one-of_two (IsOfRoom slots) (room_firing slots node) (lead_at leads (2 * node + 1)) (inr (node, refl))
      (lead-of_room left (2 * node + 1) (omega arith)))
      (lead-of_room left (2 * node + 2) (omega arith)))

  root-first_of_room : (lead : Option Firing) → IsOfRoom slots lead → IsFirst (lead_at leads 0) lead
  root-first_of_room lead one =
      elim one [
        | inl none ↦ subst (IsFirst (lead_at leads 0)) (sym none) (first-alone (lead_at leads 0))
        | inr some ↦ subst (IsFirst (lead_at leads 0)) some.1
            (first-trans (lead_at leads 0) (lead_at leads some.0) (room_firing slots some.0) (root-first some.0 some.0 (omega arith))
            (lead-room some.0))
      ]

  least-first_of_room : (lead : Option Firing) → IsOfRoom slots lead → IsFirst (least_of_all slots) lead
  least-first_of_room lead one =
      elim one [
        | inl none ↦ subst (IsFirst (least_of_all slots)) (sym none) (first-alone (least_of_all slots))
        | inr some ↦ subst (IsFirst (least_of_all slots)) some.1 (least-first slots some.0)
      ]

  -- the root names the firing that comes first of all rooms
  pub root-least : lead_at leads 0 ≡ least (filter_map (λ slot. slot) slots)
  root-least =
      first-both (lead_at leads 0) (least_of_all slots)
      (root-first_of_room (least_of_all slots) (least-of_room slots))
      (least-first_of_room (lead_at leads 0) (lead-of_room (length leads) 0 (omega arith)))
