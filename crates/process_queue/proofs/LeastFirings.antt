-- The firing that comes first does not depend on the order of the entries.
use Rattle.std.proofs.Common.{◌≡◌, ◌+◌, true, false, List, [], ◌∷◌, length, Option, None, Some, refl, sym, ap, ◌∙◌, arith, inl, inr}
use Rattle.std.specs.Prelude.{nat_lt}
use Rattle.std.proofs.lemmas.Bool.{cases_Bool}
use Rattle.std.proofs.lemmas.Bool.Decides.{nat_tests}
use Rattle.process_queue.specs.ByCode.{by_code, inserted}
use Rattle.kmc_base.specs.Entries.{comes_before, first_of_two, firing_of, least}
use Rattle.kmc_base.specs.declared.entry.Entry.{Entry}
use Rattle.kmc_base.specs.declared.entry.Firing.{Firing}

-- ---- of two firings

pub first-alone : (a : Option Firing) → first_of_two a None ≡ a
first-alone None = refl
first-alone (Some a) = refl

-- of three it does not matter which two are compared first
pub first-assoc : (a b c : Option Firing) → first_of_two a (first_of_two b c) ≡ first_of_two (first_of_two a b) c
first-assoc None b c = refl
first-assoc (Some a) None c = refl
first-assoc (Some a) (Some b) None = grind (arith, first-alone)
first-assoc (Some a) (Some b) (Some c) = grind (arith)

firing-is : (a b : Firing) → a.time ≡ b.time → a.code ≡ b.code → a ≡ b
firing-is a b times codes =
    ap (λ t. record { time = t; code = a.code }) times ∙ ap (λ c. record { time = b.time; code = c }) codes

-- two of which neither comes before the other are one
same_firing : (a b : Firing) → comes_before a b ≡ false → comes_before b a ≡ false → a ≡ b
same_firing a b one two = firing-is a b (grind (arith, nat_tests)) (grind (arith, nat_tests))

-- not both come before the other
one_before : (a b : Firing) → comes_before a b ≡ true → comes_before b a ≡ false
one_before a b one = grind (arith, nat_tests)

pub first-comm : (a b : Option Firing) → first_of_two a b ≡ first_of_two b a
first-comm None None = refl
first-comm None (Some b) = refl
first-comm (Some a) None = refl
first-comm (Some a) (Some b) =
    elim (cases_Bool (comes_before b a)) [
      | inl t ↦ let f = one_before b a t in rw (t, f) refl
      | inr f ↦ elim (cases_Bool (comes_before a b)) [
        | inl t ↦ rw (f, t) refl
        | inr g ↦ rw (f, g) (ap Some (same_firing a b g f))
      ]
    ]

-- ---- of entries in rising order of their codes

least-inserted : (e : Entry) (es : List Entry) → least (inserted (λ (x : Entry). x.code) e es) ≡ first_of_two (firing_of e) (least es)
least-inserted e [] = refl
least-inserted e (d ∷ ds) =
    elim (cases_Bool (nat_lt e.code d.code)) [
      | inl t ↦ rw t refl
      | inr f ↦ rw f (ap (first_of_two (firing_of d)) (least-inserted e ds)
          ∙ first-assoc (firing_of d) (firing_of e) (least ds)
          ∙ ap (λ first. first_of_two first (least ds)) (first-comm (firing_of d) (firing_of e))
          ∙ sym (first-assoc (firing_of e) (firing_of d) (least ds)))
    ]

pub least-by_code : (es : List Entry) → least (by_code (λ (x : Entry). x.code) es) ≡ least es
unfolding by_code
least-by_code [] = refl
least-by_code (e ∷ es) =
    least-inserted e (by_code (λ (x : Entry). x.code) es) ∙ ap (first_of_two (firing_of e)) (least-by_code es)

-- ---- there are as many

length-inserted : (e : Entry) (es : List Entry) → length (inserted (λ (x : Entry). x.code) e es) ≡ length es + 1
length-inserted e [] = omega arith
length-inserted e (d ∷ ds) =
    elim (cases_Bool (nat_lt e.code d.code)) [
      | inl t ↦ rw t (omega arith)
      | inr f ↦ rw f (omega (arith, length-inserted e ds))
    ]

pub length-by_code : (es : List Entry) → length (by_code (λ (x : Entry). x.code) es) ≡ length es
unfolding by_code
length-by_code [] = refl
length-by_code (e ∷ es) = omega (arith, length-inserted e (by_code (λ (x : Entry). x.code) es), length-by_code es)
