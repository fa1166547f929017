-- The entry of a code, in lists that are made from others.
use Rattle.std.proofs.Common.{◌≡◌, ◌≢◌, ℕ, ◌<◌, ◌≤◌, Bool, true, false, List, [], ◌∷◌, ◌++◌, None, Some, map, refl, sym, ap, ◌∙◌, subst, arith, inl, inr, ◌⊎◌}
use Rattle.std.specs.Prelude.{filter, nat_lt}
use Rattle.std.specs.List.{AllByRecursion}
use Rattle.std.specs.Option.{option_map}
use Rattle.std.proofs.lemmas.Bool.{cases_Bool, cases_eq, cases_order, eq-eqb, ltb-true, ltb-false, ne_eqb}
use Rattle.kmc_base.proofs.EntryLists.{below-all, entry_at-below}
use Rattle.process_queue.specs.ByCode.{by_code, inserted}
use Rattle.kmc_base.specs.Entries.{IsRising, codes_of, entry_at}
use Rattle.kmc_base.specs.declared.entry.Entry.{Entry}

-- ---- one entry after another

pub entry_at-here : (code : ℕ) (e : Entry) (es : List Entry) → e.code ≡ code → entry_at code (e ∷ es) ≡ Some e
entry_at-here code e es same = let t = eq-eqb e.code code same in rw t refl

pub entry_at-there : (code : ℕ) (e : Entry) (es : List Entry) → e.code ≢ code → entry_at code (e ∷ es) ≡ entry_at code es
entry_at-there code e es other = let f = ne_eqb e.code code other in rw f refl

-- what is found has the code
pub entry_at-code : (code : ℕ) (es : List Entry) (e : Entry) → entry_at code es ≡ Some e → e.code ≡ code
entry_at-code code [] e found = cc
entry_at-code code (d ∷ ds) e found =
    elim (cases_eq d.code code) [
      | inl same ↦ let here = entry_at-here code d ds same in let is : d ≡ e = cc in ap (λ (x : Entry). x.code) (sym is) ∙ same
      | inr other ↦ entry_at-code code ds e (sym (entry_at-there code d ds other) ∙ found)
    ]

-- if a first entry is not found, it has another code
other-code : (code : ℕ) (e : Entry) (es : List Entry) → entry_at code (e ∷ es) ≡ None → e.code ≢ code
other-code code e es none same = let here = entry_at-here code e es same in cc

-- ---- one list after another

pub entry_at-append_found : (code : ℕ) (xs ys : List Entry) (e : Entry) → entry_at code xs ≡ Some e → entry_at code (xs ++ ys) ≡ Some e
entry_at-append_found code [] ys e found = cc
entry_at-append_found code (x ∷ xs) ys e found =
    elim (cases_eq x.code code) [
      | inl same ↦ entry_at-here code x (xs ++ ys) same ∙ sym (entry_at-here code x xs same) ∙ found
      | inr other ↦ entry_at-there code x (xs ++ ys) other
          ∙ entry_at-append_found code xs ys e (sym (entry_at-there code x xs other) ∙ found)
    ]

pub entry_at-append_none : (code : ℕ) (xs ys : List Entry) → entry_at code xs ≡ None → entry_at code (xs ++ ys) ≡ entry_at code ys
entry_at-append_none code [] ys none = refl
entry_at-append_none code (x ∷ xs) ys none =
    let other = other-code code x xs none in
    entry_at-there code x (xs ++ ys) other ∙ entry_at-append_none code xs ys (sym (entry_at-there code x xs other) ∙ none)

-- ---- a part of a list, and a list of other entries with the same codes

pub entry_at-filter_kept : (test : ℕ → Bool) (code : ℕ) (es : List Entry) → test code ≡ true
    → entry_at code (filter (λ e. test e.code) es) ≡ entry_at code es
entry_at-filter_kept test code [] kept = refl
entry_at-filter_kept test code (e ∷ es) kept =
    elim (cases_eq e.code code) [
      | inl same ↦ let t : test e.code ≡ true = ap test same ∙ kept in
          rw t (entry_at-here code e (filter (λ e. test e.code) es) same ∙ sym (entry_at-here code e es same))
      | inr other ↦ elim (cases_Bool (test e.code)) [
        | inl t ↦ rw t (entry_at-there code e (filter (λ e. test e.code) es) other ∙ entry_at-filter_kept test code es kept
            ∙ sym (entry_at-there code e es other))
        | inr f ↦ rw f (entry_at-filter_kept test code es kept ∙ sym (entry_at-there code e es other))
      ]
    ]

pub entry_at-filter_dropped : (test : ℕ → Bool) (code : ℕ) (es : List Entry) → test code ≡ false
    → entry_at code (filter (λ e. test e.code) es) ≡ None
entry_at-filter_dropped test code [] dropped = refl
entry_at-filter_dropped test code (e ∷ es) dropped =
    elim (cases_eq e.code code) [
      | inl same ↦ let f : test e.code ≡ false = ap test same ∙ dropped in rw f (entry_at-filter_dropped test code es dropped)
      | inr other ↦ elim (cases_Bool (test e.code)) [
        | inl t ↦ rw t (entry_at-there code e (filter (λ e. test e.code) es) other ∙ entry_at-filter_dropped test code es dropped)
        | inr f ↦ rw f (entry_at-filter_dropped test code es dropped)
      ]
    ]

pub entry_at-map : (change : Entry → Entry) → ((e : Entry) → (change e).code ≡ e.code) → (code : ℕ) (es : List Entry)
    → entry_at code (map change es) ≡ option_map change (entry_at code es)
entry_at-map change same code [] = refl
entry_at-map change same code (e ∷ es) =
    elim (cases_eq e.code code) [
      | inl here ↦ entry_at-here code (change e) (map change es) (same e ∙ here)
          ∙ sym (ap (option_map change) (entry_at-here code e es here))
      | inr other ↦ entry_at-there code (change e) (map change es) (λ is. other (sym (same e) ∙ is))
          ∙ entry_at-map change same code es ∙ sym (ap (option_map change) (entry_at-there code e es other))
    ]

-- ---- no code twice

-- of each entry, none of those after it has the code
abbrev pub AreApart : List Entry → Type 0
AreApart [] = Unit {0}
AreApart (e ∷ es) = (entry_at e.code es ≡ None) × AreApart es

pub apart-rising : (es : List Entry) → IsRising (codes_of es) → AreApart es
apart-rising [] rising = tt
apart-rising (e ∷ es) rising = (entry_at-below e.code es rising.0, apart-rising es rising.1)

pub apart-filter : (test : ℕ → Bool) (es : List Entry) → AreApart es → AreApart (filter (λ e. test e.code) es)
apart-filter test [] apart = tt
apart-filter test (e ∷ es) apart =
    elim (cases_Bool (test e.code)) [
      | inl t ↦ rw t (entry_at-filter_kept test e.code es t ∙ apart.0, apart-filter test es apart.1)
      | inr f ↦ rw f (apart-filter test es apart.1)
    ]

pub apart-map : (change : Entry → Entry) → ((e : Entry) → (change e).code ≡ e.code) → (es : List Entry) → AreApart es
    → AreApart (map change es)
apart-map change same [] apart = tt
apart-map change same (e ∷ es) apart = (
  entry_at-map change same (change e).code es
      ∙ ap (option_map change) (ap (λ code. entry_at code es) (same e) ∙ apart.0),
  apart-map change same es apart.1,
)

-- none that is there comes again
pub apart-append : (xs ys : List Entry) → AreApart xs → AreApart ys
    → ((code : ℕ) → (entry_at code xs ≡ None) ⊎ (entry_at code ys ≡ None)) → AreApart (xs ++ ys)
apart-append [] ys one two disjoint = two
apart-append (x ∷ xs) ys one two disjoint = (
  entry_at-append_none x.code xs ys one.0 ∙ elim (disjoint x.code) [
    | inl none ↦ let here = entry_at-here x.code x xs refl in cc
    | inr none ↦ none
  ],
  apart-append xs ys one.1 two (λ code. elim (disjoint code) [
    | inl none ↦ inl (sym (entry_at-there code x xs (other-code code x xs none)) ∙ none)
    | inr none ↦ inr none
  ]),
)

-- ---- in rising order of codes

all-inserted : (low : ℕ) (e : Entry) (es : List Entry) → low < e.code → AllByRecursion (λ n. low < n) (codes_of es)
    → AllByRecursion (λ n. low < n) (codes_of (inserted (λ (x : Entry). x.code) e es))
all-inserted low e [] below all = (below, tt)
all-inserted low e (d ∷ ds) below all =
    elim (cases_Bool (nat_lt e.code d.code)) [
      | inl t ↦ rw t (below, all)
      | inr f ↦ rw f (all.0, all-inserted low e ds below all.1)
    ]

rising-inserted : (e : Entry) (es : List Entry) → IsRising (codes_of es) → entry_at e.code es ≡ None
    → IsRising (codes_of (inserted (λ (x : Entry). x.code) e es))
rising-inserted e [] rising none = (tt, tt)
rising-inserted e (d ∷ ds) rising none =
    let other = other-code e.code d ds none in
    elim (cases_Bool (nat_lt e.code d.code)) [
      | inl t ↦ let below : e.code < d.code = ltb-true _ _ t in
          rw t ((below, below-all e.code d.code (codes_of ds) (omega arith) rising.0), rising)
      | inr f ↦ let above : d.code ≤ e.code = ltb-false _ _ f in
          rw f (
            all-inserted d.code e ds (omega arith) rising.0,
            rising-inserted e ds rising.1 (sym (entry_at-there e.code d ds other) ∙ none),
          )
    ]

entry_at-inserted : (code : ℕ) (e : Entry) (es : List Entry) → entry_at e.code es ≡ None
    → entry_at code (inserted (λ (x : Entry). x.code) e es) ≡ entry_at code (e ∷ es)
entry_at-inserted code e [] none = refl
entry_at-inserted code e (d ∷ ds) none =
    let apart = other-code e.code d ds none in
    let rest = sym (entry_at-there e.code d ds apart) ∙ none in
    elim (cases_Bool (nat_lt e.code d.code)) [
      | inl t ↦ rw t refl
      | inr f ↦ rw f (elim (cases_eq e.code code) [
        | inl same ↦ entry_at-there code d (inserted (λ (x : Entry). x.code) e ds) (λ is. apart (is ∙ sym same))
            ∙ entry_at-inserted code e ds rest ∙ entry_at-here code e ds same ∙ sym (entry_at-here code e (d ∷ ds) same)
        | inr other ↦ elim (cases_eq d.code code) [
          | inl same ↦ entry_at-here code d (inserted (λ (x : Entry). x.code) e ds) same
              ∙ sym (entry_at-here code d ds same) ∙ sym (entry_at-there code e (d ∷ ds) other)
          | inr also ↦ entry_at-there code d (inserted (λ (x : Entry). x.code) e ds) also ∙ entry_at-inserted code e ds rest
              ∙ entry_at-there code e ds other ∙ sym (entry_at-there code d ds also) ∙ sym (entry_at-there code e (d ∷ ds) other)
        ]
      ])
    ]

-- entries in rising order of their codes have the same entry at each code
pub entry_at-by_code : (code : ℕ) (es : List Entry) → AreApart es → entry_at code (by_code (λ (x : Entry). x.code) es) ≡ entry_at code es
unfolding by_code
entry_at-by_code code [] apart = refl
entry_at-by_code code (e ∷ es) apart =
    entry_at-inserted code e (by_code (λ (x : Entry). x.code) es) (entry_at-by_code e.code es apart.1 ∙ apart.0) ∙
    elim (cases_eq e.code code) [
      | inl same ↦ entry_at-here code e (by_code (λ (x : Entry). x.code) es) same ∙ sym (entry_at-here code e es same)
      | inr other ↦ entry_at-there code e (by_code (λ (x : Entry). x.code) es) other ∙ entry_at-by_code code es apart.1
          ∙ sym (entry_at-there code e es other)
    ]

pub rising-by_code : (es : List Entry) → AreApart es → IsRising (codes_of (by_code (λ (x : Entry). x.code) es))
unfolding by_code
rising-by_code [] apart = tt
rising-by_code (e ∷ es) apart =
    rising-inserted e (by_code (λ (x : Entry). x.code) es) (rising-by_code es apart.1) (entry_at-by_code e.code es apart.1 ∙ apart.0)

-- two lists with rising codes that have the same entry at each code are equal
pub same_entries : (xs ys : List Entry) → IsRising (codes_of xs) → IsRising (codes_of ys)
    → ((code : ℕ) → entry_at code xs ≡ entry_at code ys) → xs ≡ ys
same_entries [] [] one two same = refl
same_entries [] (y ∷ ys) one two same = let here = entry_at-here y.code y ys refl in let is = same y.code in cc
same_entries (x ∷ xs) [] one two same = let here = entry_at-here x.code x xs refl in let is = same x.code in cc
same_entries (x ∷ xs) (y ∷ ys) one two same =
    elim (cases_order x.code y.code) [
      | inl equal ↦
          let first = entry_at-here x.code x xs refl in
          let second = entry_at-here x.code y ys (sym equal) in
          let is = same x.code in
          let heads : x ≡ y = cc in
          let tails : xs ≡ ys = same_entries xs ys one.1 two.1 (λ code. elim (cases_eq x.code code) [
            | inl at ↦ subst (λ c. entry_at c xs ≡ entry_at c ys) at
                (entry_at-below x.code xs one.0 ∙ sym (subst (λ c. entry_at c ys ≡ None) (sym equal) (entry_at-below y.code ys two.0)))
            | inr other ↦ sym (entry_at-there code x xs other) ∙ same code ∙ entry_at-there code y ys (λ at. other (equal ∙ at))
          ]) in
          ap (λ e. e ∷ xs) heads ∙ ap (λ es. y ∷ es) tails
      | inr apart ↦ elim apart [
        | inl low ↦ let here = entry_at-here x.code x xs refl in
            let none = entry_at-below x.code (y ∷ ys) (low, below-all x.code y.code (codes_of ys) (omega arith) two.0) in
            let is = same x.code in cc
        | inr high ↦ let here = entry_at-here y.code y ys refl in
            let none = entry_at-below y.code (x ∷ xs) (high, below-all y.code x.code (codes_of xs) (omega arith) one.0) in
            let is = same y.code in cc
      ]
    ]
