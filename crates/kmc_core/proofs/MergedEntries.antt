-- The entries after an event, one instance after another.
use Rattle.std.proofs.Common.{◌≡◌, ℕ, ◌<◌, ◌≤◌, List, [], ◌∷◌, ◌++◌, Option, None, map, get_or, refl, sym, ap, ◌∙◌, arith, IfSome, slice_get}
use Rattle.std.proofs.lemmas.List.{append_assoc, append-nil, map-append}
use Rattle.std.specs.List.{AllByRecursion}
use Rattle.kmc_base.proofs.EntryLists.{entry_at-behind}
use Rattle.kmc_base.specs.Entries.{IsRising, codes_of, entry_at, chosen, kept_or}
use Rattle.kmc_base.specs.declared.entry.Entry.{Entry}
use Rattle.rate_rules.proofs.CodeOrder.{all-by_code, by_code-append}
use Rattle.trajectory.specs.ByCode.{by_code}
use Rattle.trajectory.specs.Trajectory.{fresh, renewed}
use Rattle.kmc_core.specs.declared.renewal.Renewal.{Renewal}
use Rattle.trajectory.specs.declared.instance.Instance.{Instance}

-- a code that is not the first of rising entries, and not above it, has no entry
pub no_entry : (code : ℕ) (d : Entry) (es : List Entry) → IsRising (codes_of es)
    → IfSome (slice_get es 0) (λ e. code ≤ e.code) → ((get_or es 0 d).code ≡ code → ⊥) → None ≡ entry_at code es
no_entry code d [] rising reached ne = refl
no_entry code d (e ∷ es) rising reached ne =
    let lt : code < e.code = grind (arith, ne) in
    let none = entry_at-behind code e es lt rising in
    grind (arith, none)

-- what is found from some code on is found of all greater codes
pub found_later : (old rest next : List Entry) (first : ℕ) (offers : List Instance) →
    AllByRecursion (λ n. first < n) (map (λ (o : Instance). o.code) offers) →
    ((c : ℕ) → first ≤ c → entry_at c next ≡ entry_at c rest) →
    AllByRecursion (λ (o : Instance). entry_at o.code rest ≡ entry_at o.code old) offers →
    AllByRecursion (λ (o : Instance). entry_at o.code next ≡ entry_at o.code old) offers
found_later old rest next first [] above same found = tt
found_later old rest next first (o ∷ offers) above same found =
    (same o.code (omega (arith, above.0)) ∙ found.0, found_later old rest next first offers above.1 same found.1)

-- one more entry, and those of the instances after it
pub renewed_more : (seed event time : ℕ) (fired : Option ℕ) (old : List Entry) (done now all : List Entry) (e : Entry)
    (o : Instance) (offers : List Instance) →
    now ≡ done ++ e ∷ [] → e ≡ chosen old fired (fresh seed event time o) →
    done ++ renewed seed event time fired old (o ∷ offers) ≡ all → now ++ renewed seed event time fired old offers ≡ all
renewed_more seed event time fired old done now all e o offers more is whole =
    ap (λ es. es ++ renewed seed event time fired old offers) more
    ∙ (append_assoc done (e ∷ []) (renewed seed event time fired old offers)
    ∙ (ap (λ x. done ++ (x ∷ renewed seed event time fired old offers)) is ∙ whole))

-- old entries that have the same from a code on give instances of such codes the same entries
pub renewed-alike : (seed event time : ℕ) (fired : Option ℕ) (rest old : List Entry) (from : ℕ)
    → ((c : ℕ) → from ≤ c → entry_at c rest ≡ entry_at c old) → (offers : List Instance) →
    AllByRecursion (λ (o : Instance). from ≤ o.code) offers → renewed seed event time fired rest offers ≡ renewed seed event time fired old offers
renewed-alike seed event time fired rest old from same [] above = refl
renewed-alike seed event time fired rest old from same (o ∷ offers) above =
    ap (λ e. kept_or fired e (fresh seed event time o) ∷ renewed seed event time fired rest offers) (same o.code above.0)
    ∙ ap (λ es. chosen old fired (fresh seed event time o) ∷ es) (renewed-alike seed event time fired rest old from same offers above.1)

-- the entries of a part of the instances, whose codes stand between two numbers, and those of the parts after it
pub renewed-part : (seed event time : ℕ) (fired : Option ℕ) (old rest : List Entry) (from to : ℕ) (done now all : List Entry)
    (here later : List Instance) →
    ((c : ℕ) → from ≤ c → entry_at c rest ≡ entry_at c old) →
    AllByRecursion (λ (o : Instance). from ≤ o.code) here → AllByRecursion (λ (o : Instance). o.code < to) here
    → AllByRecursion (λ (o : Instance). to ≤ o.code) later →
    now ≡ done ++ renewed seed event time fired rest (by_code here) →
    done ++ renewed seed event time fired old (by_code (here ++ later)) ≡ all → now ++ renewed seed event time fired old (by_code later) ≡ all
renewed-part seed event time fired old rest from to done now all here later same above below after more whole =
    ap (λ es. es ++ renewed seed event time fired old (by_code later))
    (more ∙ ap (λ es. done ++ es)
    (renewed-alike seed event time fired rest old from same (by_code here)
    (all-by_code (λ (o : Instance). from ≤ o.code) here above)))
    ∙ append_assoc done (renewed seed event time fired old (by_code here)) (renewed seed event time fired old (by_code later))
    ∙ ap (λ es. done ++ es)
    (sym (ap (renewed seed event time fired old) (by_code-append to here later below after)
    ∙ map-append (λ (o : Instance). chosen old fired (fresh seed event time o)) (by_code here)
    (by_code later)))
    ∙ whole

-- what was added at the same event for the same instances
pub added-alike : (event other : Renewal) (done now rest : List Entry) (offers others : List Instance) → event ≡ other → offers ≡ others →
    now ≡ done ++ renewed event.draws event.event event.time event.fired rest offers
    → now ≡ done ++ renewed other.draws other.event other.time other.fired rest others
added-alike event other done now rest offers others same are more =
    more ∙ ap (λ (e : Renewal). done ++ renewed e.draws e.event e.time e.fired rest offers) same
    ∙ ap (λ os. done ++ renewed other.draws other.event other.time other.fired rest os) are

-- if no part is left
pub none-left : (seed event time : ℕ) (fired : Option ℕ) (old : List Entry) (done all : List Entry)
    (left : List Instance) → left ≡ [] → done ++ renewed seed event time fired old (by_code left) ≡ all → done ≡ all
unfolding by_code
none-left seed event time fired old done all left none whole =
    sym (append-nil done) ∙ ap (λ os. done ++ renewed seed event time fired old (by_code os)) (sym none) ∙ whole
