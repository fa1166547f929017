-- The parts of a renewal, one after another.
use Rattle.std.proofs.Common.{◌≡◌, ℕ, ◌+◌, ◌<◌, ◌≤◌, List, ◌∷◌, length, get_or, take, drop, sym, ap, ◌∙◌, subst, arith}
use Rattle.std.proofs.lemmas.List.{drop_more, get_or-map, length-map}
use Rattle.std.proofs.lemmas.List.Elements.{All-more, All-weaker}
use Rattle.process_queue.specs.Renewal.{AreAnchors, anchors_of}
use Rattle.process_queue.specs.declared.part.AnchorEntries.{AnchorEntries}
use Rattle.process_queue.specs.Memory.{HaveListMemory}

-- the anchor of each part is a site
pub anchor-within : (sites : ℕ) (parts : List AnchorEntries) (i : ℕ) (part : AnchorEntries) → AreAnchors sites (anchors_of parts)
    → i < length parts → part ≡ get_or parts i part → part.anchor.0 < sites
anchor-within sites parts i part are within is =
    let at : get_or (anchors_of parts) i 0 ≡ part.anchor.0
    = get_or-map (λ (p : AnchorEntries). p.anchor.0) parts i part 0 within ∙ ap (λ (p : AnchorEntries). p.anchor.0) (sym is) in
    let below = are.within i 0 (omega (arith, length-map parts (λ (p : AnchorEntries). p.anchor.0))) in
    subst (λ n. n < sites) at below

-- the parts that are left, with the next one first
pub next-part : (parts : List AnchorEntries) (i : ℕ) (part : AnchorEntries) → i < length parts → part ≡ get_or parts i part
    → drop i parts ≡ part ∷ drop (i + 1) parts
next-part parts i part within is = drop_more parts i part within ∙ ap (λ p. p ∷ drop (i + 1) parts) (sym is)

-- one more part that there is memory for
pub more-memory : (was now : List ℕ) (parts : List AnchorEntries) (i : ℕ) (part : AnchorEntries) → i < length parts → part ≡ get_or parts i part
    → ((site : ℕ) → get_or was site 0 ≤ get_or now site 0) → length part.entries ≤ get_or now part.anchor.0 0
    → HaveListMemory was (take i parts) → HaveListMemory now (take (i + 1) parts)
more-memory was now parts i part within is more here before =
    All-more (λ (p : AnchorEntries). length p.entries ≤ get_or now p.anchor.0 0) parts i part within
    (All-weaker (λ (p : AnchorEntries). length p.entries ≤ get_or was p.anchor.0 0) (λ (p : AnchorEntries). length p.entries ≤ get_or now p.anchor.0 0)
    (λ p enough. let grown = more p.anchor.0 in omega arith) (take i parts) before)
    (subst (λ (p : AnchorEntries). length p.entries ≤ get_or now p.anchor.0 0) is here)
