-- Instances whose codes differ, in rising order of these.
use Rattle.std.proofs.Common.{◌≡◌, ◌≢◌, ℕ, suc, ◌<◌, ◌≤◌, true, false, cond, eqb, List, [], ◌∷◌, ◌++◌, map, get_or, length}
use Rattle.std.proofs.Common.{Contains, refl, sym, ap, ◌∙◌, subst, arith, inl, inr}
use Rattle.std.specs.Prelude.{nat_lt}
use Rattle.std.specs.List.{AllByRecursion, sum_by}
use Rattle.std.specs.List.Sorted.{IsPermutation, IsNonDecreasingBy}
use Rattle.std.proofs.lemmas.Bool.{cases_Bool, cases_lt, lt-ltb, eq-eqb, eqb-true, ne_eqb, ltb-true, ltb-false}
use Rattle.std.proofs.lemmas.List.Elements.{All-contains, All-from_recursion, recursion_from_All}
use Rattle.std.proofs.lemmas.List.Sorted.{Contains-permutation, sum_by-IsPermutation, IsPermutation-refl, IsPermutation-sym}
use Rattle.std.proofs.lemmas.List.Sorted.{IsPermutation-cons, IsPermutation-middle, IsPermutation-trans}
use Rattle.std.proofs.lemmas.List.Sums.{sum_by-cons, get_or-le-sum_by}
use Rattle.kmc_base.proofs.EntryLists.{below-all}
use Rattle.kmc_base.specs.Entries.{IsRising}
use Rattle.pattern_list.proofs.Members.{in-none, in-first, in-rest, in-cases}
use Rattle.rate_rules.proofs.AllLemmas.{all-map, all-from_map, all-weaker}
use Rattle.trajectory.specs.ByCode.{inserted, by_code}
use Rattle.trajectory.specs.declared.instance.Instance.{Instance}

-- the codes of instances
abbrev pub codes : List Instance → List ℕ
codes offers = map (λ (offer : Instance). offer.code) offers

-- no number twice
abbrev pub AreApart : List ℕ → Type 0
AreApart [] = Unit {0}
AreApart (n ∷ ns) = AllByRecursion (λ m. n ≢ m) ns × AreApart ns

-- ---- one more instance in its place

pub all-inserted : (P : Instance → Type 0) (offer : Instance) (offers : List Instance) → P offer
    → AllByRecursion P offers → AllByRecursion P (inserted offer offers)
all-inserted P offer [] p all = (p, tt)
all-inserted P offer (next ∷ rest) p all =
    elim (nat_lt offer.code next.code) as (λ t. AllByRecursion P (cond t (offer ∷ next ∷ rest) (next ∷ inserted offer rest))) [
      | true ↦ (p, all)
      | false ↦ (all.0, all-inserted P offer rest p all.1)
    ]

rising-inserted : (offer : Instance) (offers : List Instance) → IsRising (codes offers)
    → AllByRecursion (λ (other : Instance). offer.code ≢ other.code) offers → IsRising (codes (inserted offer offers))
rising-inserted offer [] rising apart = (tt, tt)
rising-inserted offer (next ∷ rest) rising apart =
    elim (cases_Bool (nat_lt offer.code next.code)) [
      | inl low ↦ let below : offer.code < next.code = ltb-true _ _ low in
          rw low ((below, below-all offer.code next.code (codes rest) (omega arith) rising.0), rising)
      | inr high ↦ let above : next.code ≤ offer.code = ltb-false _ _ high in
          let other : offer.code ≢ next.code = apart.0 in
          rw high (
            all-map (λ (o : Instance). next.code < o.code) (λ m. next.code < m) (λ (o : Instance). o.code) (inserted offer rest) (λ o low. low)
                (all-inserted (λ (o : Instance). next.code < o.code) offer rest (omega arith)
                (all-from_map (λ m. next.code < m) (λ (o : Instance). o.code) rest rising.0)),
            rising-inserted offer rest rising.1 apart.1,
          )
    ]

moved-inserted : (offer : Instance) (offers : List Instance) → IsPermutation (offer ∷ offers) (inserted offer offers)
moved-inserted offer [] = IsPermutation-refl (offer ∷ [])
moved-inserted offer (next ∷ rest) =
    elim (nat_lt offer.code next.code) as (λ t. IsPermutation (offer ∷ next ∷ rest) (cond t (offer ∷ next ∷ rest) (next ∷ inserted offer rest))) [
      | true ↦ IsPermutation-refl (offer ∷ next ∷ rest)
      | false ↦ IsPermutation-trans (offer ∷ next ∷ rest) (next ∷ offer ∷ rest) (next ∷ inserted offer rest)
          (IsPermutation-sym (next ∷ offer ∷ rest) (offer ∷ next ∷ rest) (IsPermutation-middle (next ∷ []) offer rest))
          (IsPermutation-cons next (offer ∷ rest) (inserted offer rest) (moved-inserted offer rest))
    ]

-- ---- all of them

pub all-by_code : (P : Instance → Type 0) (offers : List Instance) → AllByRecursion P offers → AllByRecursion P (by_code offers)
unfolding by_code
all-by_code P [] all = tt
all-by_code P (offer ∷ offers) all = all-inserted P offer (by_code offers) all.0 (all-by_code P offers all.1)

pub rising-by_code : (offers : List Instance) → AreApart (codes offers) → IsRising (codes (by_code offers))
unfolding by_code
rising-by_code [] apart = tt
rising-by_code (offer ∷ offers) apart =
    rising-inserted offer (by_code offers) (rising-by_code offers apart.1)
    (all-by_code (λ (other : Instance). offer.code ≢ other.code) offers
    (all-from_map (λ m. offer.code ≢ m) (λ (o : Instance). o.code) offers apart.0))

pub moved-by_code : (offers : List Instance) → IsPermutation offers (by_code offers)
unfolding by_code
moved-by_code [] = IsPermutation-refl []
moved-by_code (offer ∷ offers) =
    IsPermutation-trans (offer ∷ offers) (offer ∷ by_code offers) (inserted offer (by_code offers))
    (IsPermutation-cons offer offers (by_code offers) (moved-by_code offers))
    (moved-inserted offer (by_code offers))

-- ---- one part after another

-- an instance whose code is below those of a later part comes before them
inserted-before : (offer : Instance) (here later : List Instance)
    → AllByRecursion (λ (o : Instance). offer.code < o.code) later
    → inserted offer (here ++ later) ≡ inserted offer here ++ later
inserted-before offer [] [] below = refl
inserted-before offer [] (next ∷ rest) below = let low = lt-ltb offer.code next.code below.0 in rw low refl
inserted-before offer (next ∷ rest) later below =
    elim (nat_lt offer.code next.code) as
    (λ t. cond t (offer ∷ next ∷ rest ++ later) (next ∷ inserted offer (rest ++ later))
    ≡ cond t (offer ∷ next ∷ rest) (next ∷ inserted offer rest) ++ later) [
      | true ↦ refl
      | false ↦ ap (λ offers. next ∷ offers) (inserted-before offer rest later below)
    ]

-- two parts, of which the first has all codes below a number and the second none
pub by_code-append : (to : ℕ) (here later : List Instance)
    → AllByRecursion (λ (o : Instance). o.code < to) here → AllByRecursion (λ (o : Instance). to ≤ o.code) later
    → by_code (here ++ later) ≡ by_code here ++ by_code later
unfolding by_code
by_code-append to [] later low high = refl
by_code-append to (offer ∷ here) later low high =
    let first = low.0 in
    ap (inserted offer) (by_code-append to here later low.1 high)
    ∙ inserted-before offer (by_code here) (by_code later)
    (all-by_code (λ (o : Instance). offer.code < o.code) later
    (all-weaker (λ (o : Instance). to ≤ o.code) (λ (o : Instance). offer.code < o.code) later
    (λ o above. omega arith) high))

-- ---- sorted by code

-- 1 if an instance has a code
abbrev hit : ℕ → Instance → ℕ
hit code offer = cond (eqb code offer.code) 1 0

hit-same : (code : ℕ) (offer : Instance) → code ≡ offer.code → hit code offer ≡ 1
hit-same code offer same = let t = eq-eqb code offer.code same in rw t refl

hit-other : (code : ℕ) (offer : Instance) → code ≢ offer.code → hit code offer ≡ 0
hit-other code offer other = let f = ne_eqb code offer.code other in rw f refl

none-there : (code : ℕ) (offers : List Instance) → AllByRecursion (λ m. code ≢ m) (codes offers) → sum_by (hit code) offers ≡ 0
none-there code [] other = refl
none-there code (offer ∷ offers) other =
    let here = hit-other code offer other.0 in
    let rest = none-there code offers other.1 in
    omega (arith, sum_by-cons (hit code) offer offers)

once-there : (code : ℕ) (offers : List Instance) → AreApart (codes offers) → sum_by (hit code) offers ≤ 1
once-there code [] apart = omega arith
once-there code (offer ∷ offers) apart =
    let more = sum_by-cons (hit code) offer offers in
    elim (cases_Bool (eqb code offer.code)) [
      | inl t ↦ let same : code ≡ offer.code = eqb-true _ _ t in
          let here = hit-same code offer same in
          let rest = none-there code offers (subst (λ c. AllByRecursion (λ m. c ≢ m) (codes offers)) (sym same) apart.0) in
          omega arith
      | inr f ↦ let here : hit code offer ≡ 0 = rw f refl in
          let rest = once-there code offers apart.1 in
          omega arith
    ]

-- codes that do not fall, and of which none is there twice, rise
rising-sorted : (offers : List Instance) → IsNonDecreasingBy (λ (o : Instance). o.code) offers
    → ((code : ℕ) → sum_by (hit code) offers ≤ 1) → IsRising (codes offers)
rising-sorted [] order once = tt
rising-sorted (offer ∷ offers) order once = (
  all-map (λ (o : Instance). offer.code < o.code) (λ m. offer.code < m) (λ (o : Instance). o.code) offers (λ o low. low)
      (recursion_from_All (λ (o : Instance). offer.code < o.code) offers (λ k d within. above k d within)),
  rising-sorted offers (λ i j d le within. order (suc i) (suc j) d (omega arith) (omega arith))
      (λ code. omega (arith, once code, sum_by-cons (hit code) offer offers)),
)
  where
    above : (k : ℕ) (d : Instance) → k < length offers → offer.code < (get_or offers k d).code
    above k d within =
        let later = get_or offers k d in
        let up : offer.code ≤ later.code = order 0 (suc k) d (omega arith) (omega arith) in
        elim (cases_lt offer.code later.code) [
          | inl low ↦ low
          | inr high ↦
              let here = hit-same offer.code offer refl in
              let there = hit-same offer.code later (omega arith) in
              let some = get_or-le-sum_by (hit offer.code) offers k d within in
              let few = once offer.code in
              absurd (omega (arith, sum_by-cons (hit offer.code) offer offers))
        ]

-- the first code is below the others
first-below : (offer : Instance) (offers : List Instance) → IsRising (codes (offer ∷ offers))
    → (other : Instance) → Contains offers other → offer.code < other.code
first-below offer offers rising other c =
    All-contains (λ (o : Instance). offer.code < o.code) offers other
    (All-from_recursion (λ (o : Instance). offer.code < o.code) offers
    (all-from_map (λ m. offer.code < m) (λ (o : Instance). o.code) offers rising.0)) c

same-first : (x y : Instance) (xs ys : List Instance) → IsRising (codes (x ∷ xs))
    → IsRising (codes (y ∷ ys)) → Contains (y ∷ ys) x → Contains (x ∷ xs) y → x ≡ y
same-first x y xs ys first second there back =
    elim (in-cases y ys x there) [
      | inl e ↦ sym e
      | inr later ↦ elim (in-cases x xs y back) [
        | inl e ↦ e
        | inr after ↦ let one = first-below x xs first y after in let two = first-below y ys second x later in absurd (omega arith)
      ]
    ]

same-later : (x : Instance) (xs ys : List Instance) → IsRising (codes (x ∷ xs))
    → ((z : Instance) → Contains (x ∷ xs) z → Contains (x ∷ ys) z) → (z : Instance) → Contains xs z
    → Contains ys z
same-later x xs ys rising there z c =
    elim (in-cases x ys z (there z (in-rest x xs z c))) [
      | inl e ↦ let below = first-below x xs rising z c in let same : x.code ≡ z.code = ap (λ (o : Instance). o.code) e in absurd (omega arith)
      | inr later ↦ later
    ]

-- instances whose codes rise are given by which they are
same-rising : (xs ys : List Instance) → IsRising (codes xs) → IsRising (codes ys)
    → ((z : Instance) → Contains xs z → Contains ys z) → ((z : Instance) → Contains ys z → Contains xs z)
    → xs ≡ ys
same-rising [] [] first second there back = refl
same-rising [] (y ∷ ys) first second there back = absurd (in-none y (back y (in-first y ys)))
same-rising (x ∷ xs) [] first second there back = absurd (in-none x (there x (in-first x xs)))
same-rising (x ∷ xs) (y ∷ ys) first second there back =
    let e : x ≡ y = same-first x y xs ys first second (there x (in-first x xs)) (back y (in-first y ys)) in
    let second' = subst (λ (z : Instance). IsRising (codes (z ∷ ys))) (sym e) second in
    let there' = subst (λ (z : Instance). (w : Instance) → Contains (x ∷ xs) w → Contains (z ∷ ys) w) (sym e) there in
    let back' = subst (λ (z : Instance). (w : Instance) → Contains (z ∷ ys) w → Contains (x ∷ xs) w) (sym e) back in
    subst (λ (z : Instance). x ∷ xs ≡ z ∷ ys) e
    (ap (λ l. x ∷ l) (same-rising xs ys first.1 second'.1 (same-later x xs ys first there')
    (same-later x ys xs second' back')))

-- a sort by code puts instances whose codes differ into the order of their codes
pub sorted-is : (offers sorted : List Instance) → AreApart (codes offers) → IsPermutation offers sorted
    → IsNonDecreasingBy (λ (o : Instance). o.code) sorted → sorted ≡ by_code offers
sorted-is offers sorted apart moved order =
    let back = IsPermutation-sym offers sorted moved in
    let other = moved-by_code offers in
    same-rising sorted (by_code offers)
    (rising-sorted sorted order (λ code. let once = once-there code offers apart in
    omega (arith, sum_by-IsPermutation (hit code) offers sorted moved)))
    (rising-by_code offers apart)
    (λ z c. Contains-permutation offers (by_code offers) z other (Contains-permutation sorted offers z back c))
    (λ z c. Contains-permutation offers sorted z moved
    (Contains-permutation (by_code offers) offers z (IsPermutation-sym offers (by_code offers) other) c))
