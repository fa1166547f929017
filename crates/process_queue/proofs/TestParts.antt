-- What the tests owe of the parts that they make.
use Rattle.std.proofs.Common.{◌≡◌, ◌≢◌, ℕ, ◌+◌, ◌*◌, ◌^◌, ◌<◌, ◌≤◌, zero, suc, List, [], ◌∷◌, ◌++◌, get_or, arith}
use Rattle.std.specs.List.{All, AllByRecursion}
use Rattle.std.proofs.lemmas.List.Elements.{All-from_recursion}
use Rattle.kmc_base.specs.Entries.{IsRising, codes_of}
use Rattle.process_queue.specs.Renewal.{AreAnchors, IsPart, anchor_in}
use Rattle.process_queue.specs.declared.part.AnchorEntries.{AnchorEntries}
use Rattle.kmc_base.specs.declared.entry.Entry.{Entry}

-- ---- two parts

two-differ : (a b : ℕ) → a < b → (i j d : ℕ) → i < j → j < 2 → get_or (a ∷ b ∷ []) i d ≢ get_or (a ∷ b ∷ []) j d
two-differ a b low zero zero d less within = absurd (omega arith)
two-differ a b low zero (suc zero) d less within = λ same. omega arith
two-differ a b low zero (suc (suc j)) d less within = absurd (omega arith)
two-differ a b low (suc i) zero d less within = absurd (omega arith)
two-differ a b low (suc i) (suc zero) d less within = absurd (omega arith)
two-differ a b low (suc i) (suc (suc j)) d less within = absurd (omega arith)

pub two-anchors : (sites a b : ℕ) → a < b → b < sites → AreAnchors sites (a ∷ b ∷ [])
two-anchors sites a b low high = record {
  differ = λ i j d less within. two-differ a b low i j d less (omega arith);
  within = All-from_recursion (λ n. n < sites) (a ∷ b ∷ []) (omega arith, (omega arith, tt));
}

pub two-parts : (one two : AnchorEntries) → IsPart one → IsPart two → All IsPart (one ∷ two ∷ [])
two-parts one two is also = All-from_recursion IsPart (one ∷ two ∷ []) (is, (also, tt))

-- ---- one more entry of a part

pub rising-more : (es : List Entry) (e : Entry) → IsRising (codes_of es) → AllByRecursion (λ n. n < e.code) (codes_of es)
    → IsRising (codes_of (es ++ e ∷ []))
rising-more [] e rising below = (tt, tt)
rising-more (d ∷ ds) e rising below = (first d.code ds rising.0 below.0, rising-more ds e rising.1 below.1)
  where
    first : (low : ℕ) (xs : List Entry) → AllByRecursion (λ n. low < n) (codes_of xs) → low < e.code
        → AllByRecursion (λ n. low < n) (codes_of (xs ++ e ∷ []))
    first low [] all last = (last, tt)
    first low (x ∷ xs) all last = (all.0, first low xs all.1 last)

pub below-more : (es : List Entry) (e : Entry) (old new : ℕ) → AllByRecursion (λ n. n < old) (codes_of es) → old ≤ new → e.code < new
    → AllByRecursion (λ n. n < new) (codes_of (es ++ e ∷ []))
below-more [] e old new all up last = (last, tt)
below-more (d ∷ ds) e old new all up last = (omega (arith, all.0), below-more ds e old new all.1 up last)

pub below-weaker : (es : List Entry) (old new : ℕ) → AllByRecursion (λ n. n < old) (codes_of es) → old ≤ new
    → AllByRecursion (λ n. n < new) (codes_of es)
below-weaker [] old new all up = tt
below-weaker (d ∷ ds) old new all up = (omega (arith, all.0), below-weaker ds old new all.1 up)

pub anchored-more : (es : List Entry) (e : Entry) (anchor : ℕ) → AllByRecursion (λ (x : Entry). anchor_in x.code ≡ anchor) es
    → anchor_in e.code ≡ anchor → AllByRecursion (λ (x : Entry). anchor_in x.code ≡ anchor) (es ++ e ∷ [])
anchored-more [] e anchor all last = (last, tt)
anchored-more (d ∷ ds) e anchor all last = (all.0, anchored-more ds e anchor all.1 last)

-- the anchor of a code
pub anchor-of : (code process anchor : ℕ) → anchor < 6 → code ≡ process * 2 ^ 55 + anchor * 2 ^ 35 → anchor_in code ≡ anchor
anchor-of code process anchor few is = omega arith
