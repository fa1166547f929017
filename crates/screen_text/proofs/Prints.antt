-- Texts printed one after another.
use Rattle.std.proofs.Common.{◌≡◌, ℕ, ◌+◌, List, [], ◌++◌, Option, None, Some, refl, sym, ap, ◌∙◌, subst, length, min, take, rules, ◌≤◌, ◌<◌, drop, get_or}
use Rattle.std.proofs.lemmas.List.{append_assoc, append-nil, drop_more, take-append-le, take_min}
use Rattle.std.proofs.lemmas.List.Concat.{flat_map-cons}
use Rattle.std.proofs.Math.Seq.{take-append-add}
use Rattle.std.specs.List.{flat_map}
use Rattle.kmc_base.specs.Faults.{Rose}
use Rattle.kmc_base.specs.Told.{Tells}
use Rattle.screen_text.specs.Printing.{ScreenState, TookAll, TookFront}

-- what a screen tells that it took: all of a text, or a front of it
abbrev All : List ℕ → List ℕ → List ℕ → Type 0
All text then now = now ≡ then ++ text

abbrev Front : List ℕ → List ℕ → List ℕ → Type 0
Front text then now = (n : ℕ) × (now ≡ then ++ take n text)

none_taken : (o : Option (List ℕ)) → Tells o o (All [])
none_taken None = tt
none_taken (Some t) = sym (append-nil t)

all_then : (a b : List ℕ) (x y z : Option (List ℕ)) → Tells x y (All a) → Tells y z (All b) → Tells x z (All (a ++ b))
all_then a b x y None p q = tt
all_then a b x None (Some z) p q = absurd q
all_then a b None (Some y) (Some z) p q = absurd p
all_then a b (Some x) (Some y) (Some z) p q = q ∙ (ap (λ t. t ++ b) p ∙ append_assoc x a b)

front_then : (a b : List ℕ) (x y z : Option (List ℕ)) → Tells x y (All a) → Tells y z (Front b) → Tells x z (Front (a ++ b))
front_then a b x y None p q = tt
front_then a b x None (Some z) p q = absurd q
front_then a b None (Some y) (Some z) p q = absurd p
front_then a b (Some x) (Some y) (Some z) p q =
    (length a + q.0, q.1 ∙ (ap (λ t. t ++ take q.0 b) p ∙ (append_assoc x a (take q.0 b) ∙ ap (λ t. x ++ t) (sym (take-append-add a b q.0)))))

-- nothing is printed
pub took_none : (x : ScreenState) → TookAll [] x x
took_none x = record { no_fault = refl; taken = none_taken x.taken }

-- a text, and then another
pub took_then : (a b : List ℕ) (x y z : ScreenState) → TookAll a x y → TookAll b y z → TookAll (a ++ b) x z
took_then a b x y z p q = record {
  no_fault = q.no_fault ∙ p.no_fault;
  taken = all_then a b x.taken y.taken z.taken p.taken q.taken;
}

-- a text, and then a front of another
pub front_after : (a b : List ℕ) (x y z : ScreenState) → TookAll a x y → TookFront b y z → TookFront (a ++ b) x z
front_after a b x y z p q = record {
  fault = subst (λ n. Rose n z.faults) p.no_fault q.fault;
  taken = front_then a b x.taken y.taken z.taken p.taken q.taken;
}

-- a front of a text is one of a longer text
front_more : (a b : List ℕ) (x y : Option (List ℕ)) → Tells x y (Front a) → Tells x y (Front (a ++ b))
front_more a b x None p = tt
front_more a b None (Some y) p = absurd p
front_more a b (Some x) (Some y) p =
    let short : min p.0 (length a) ≤ length a = search rules in
    (min p.0 (length a), p.1 ∙ ap (λ t. x ++ t) (sym (take-append-le (min p.0 (length a)) a b short ∙ take_min p.0 a)))

pub front_of_more : (a b : List ℕ) (x y : ScreenState) → TookFront a x y → TookFront (a ++ b) x y
front_of_more a b x y p = record { fault = p.fault; taken = front_more a b x.taken y.taken p.taken }

-- a piece of a text with the rest to come, after those before it
pub took_piece : (done piece rest all : List ℕ) (x y z : ScreenState) → done ++ (piece ++ rest) ≡ all → TookAll done x y → TookAll piece y z
    → (more : List ℕ) × (more ++ rest ≡ all) × TookAll more x z
took_piece done piece rest all x y z e p q = (done ++ piece, append_assoc done piece rest ∙ e, took_then done piece x y z p q)

-- the same of a piece of which only a front was taken
pub front_of_piece : (done piece rest all : List ℕ) (x y z : ScreenState) → done ++ (piece ++ rest) ≡ all → TookAll done x y
    → TookFront piece y z → TookFront all x z
front_of_piece done piece rest all x y z e p q =
    subst (λ (text : List ℕ). TookFront text x z) e (front_after done (piece ++ rest) x y z p (front_of_more piece rest y z q))

-- the first of the pieces that are left, before the others
pub next_piece : {X : Type 0} (f : X → List ℕ) (xs : List X) (i : ℕ) (d : X) (piece : List ℕ) → i < length xs → piece ≡ f (get_or xs i d)
    → piece ++ flat_map f (drop (i + 1) xs) ≡ flat_map f (drop i xs)
next_piece f xs i d piece lt is =
    ap (λ t. t ++ flat_map f (drop (i + 1) xs)) is ∙ sym (ap (flat_map f) (drop_more xs i d lt) ∙ flat_map-cons f _ _)
