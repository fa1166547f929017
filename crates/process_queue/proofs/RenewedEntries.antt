-- The entries after those of some anchors are renewed.
use Rattle.std.proofs.Common.{◌≡◌, ◌≢◌, ℕ, suc, true, false, cond, eqb, List, [], ◌∷◌, ◌++◌, Option, None, Some, map, refl, sym, ap, ◌∙◌, subst, arith, inl, inr, ◌&&◌}
use Rattle.std.specs.Prelude.{filter, not}
use Rattle.std.specs.List.{AllByRecursion, AllPairs, flat_map}
use Rattle.std.specs.Option.{option_map}
use Rattle.std.proofs.lemmas.Bool.{cases_Bool, cases_eq, eq-eqb, ne_eqb}
use Rattle.std.proofs.lemmas.List.Elements.{recursion_from_All}
use Rattle.process_queue.proofs.EntrySearch.{AreApart, apart-append, apart-filter, apart-map, apart-rising, entry_at-append_found, entry_at-append_none}
use Rattle.process_queue.proofs.EntrySearch.{entry_at-by_code, entry_at-code, entry_at-filter_dropped, entry_at-filter_kept, entry_at-map, entry_at-there}
use Rattle.process_queue.proofs.EntrySearch.{rising-by_code, same_entries}
use Rattle.kmc_base.specs.Entries.{IsRising, chosen, codes_of, entry_at, is_fired, kept_or, same_rate}
use Rattle.process_queue.specs.Renewal.{IsPart, anchor_in, anchors_of, is_at_one_of, renewed_at}
use Rattle.process_queue.specs.declared.part.AnchorEntries.{AnchorEntries}
use Rattle.kmc_base.specs.declared.entry.Entry.{Entry}

-- ---- parts whose anchors differ

-- no number is one of those after it
abbrev pub AreDifferent : List ℕ → Type 0
AreDifferent [] = Unit {0}
AreDifferent (a ∷ ns) = AllByRecursion (λ b. a ≢ b) ns × AreDifferent ns

pub different-from_pairs : (ns : List ℕ) → AllPairs (λ a b. a ≢ b) ns → AreDifferent ns
different-from_pairs [] pairs = tt
different-from_pairs (a ∷ ns) pairs = (
  recursion_from_All (λ b. a ≢ b) ns (λ k d within. pairs 0 (suc k) d (omega arith) (omega arith)),
  different-from_pairs ns (λ i j d less within. pairs (suc i) (suc j) d (omega arith) (omega arith)),
)

-- the entries of the part with an anchor
abbrev pub part_at : ℕ → List AnchorEntries → List Entry
part_at anchor [] = []
part_at anchor (part ∷ parts) = cond (eqb part.anchor.0 anchor) part.entries (part_at anchor parts)

part_at-here : (anchor : ℕ) (part : AnchorEntries) (parts : List AnchorEntries) → part.anchor.0 ≡ anchor
    → part_at anchor (part ∷ parts) ≡ part.entries
part_at-here anchor part parts same = let t = eq-eqb part.anchor.0 anchor same in rw t refl

part_at-there : (anchor : ℕ) (part : AnchorEntries) (parts : List AnchorEntries) → part.anchor.0 ≢ anchor
    → part_at anchor (part ∷ parts) ≡ part_at anchor parts
part_at-there anchor part parts other = let f = ne_eqb part.anchor.0 anchor other in rw f refl

part_at-none : (anchor : ℕ) (parts : List AnchorEntries) → AllByRecursion (λ b. anchor ≢ b) (anchors_of parts) → part_at anchor parts ≡ []
part_at-none anchor [] other = refl
part_at-none anchor (part ∷ parts) other =
    part_at-there anchor part parts (λ is. other.0 (sym is)) ∙ part_at-none anchor parts other.1

-- whether the anchor of a code is one of those of some parts
at-here : (code : ℕ) (part : AnchorEntries) (parts : List AnchorEntries) → anchor_in code ≡ part.anchor.0
    → is_at_one_of (anchors_of (part ∷ parts)) code ≡ true
at-here code part parts same = let t = eq-eqb (anchor_in code) part.anchor.0 same in rw t refl

at-there : (code : ℕ) (part : AnchorEntries) (parts : List AnchorEntries) → anchor_in code ≢ part.anchor.0
    → is_at_one_of (anchors_of (part ∷ parts)) code ≡ is_at_one_of (anchors_of parts) code
at-there code part parts other = let f = ne_eqb (anchor_in code) part.anchor.0 other in rw f refl

at-none : (code : ℕ) (parts : List AnchorEntries) → AllByRecursion (λ b. anchor_in code ≢ b) (anchors_of parts)
    → is_at_one_of (anchors_of parts) code ≡ false
at-none code [] other = refl
at-none code (part ∷ parts) other = at-there code part parts other.0 ∙ at-none code parts other.1

part_at-not_one : (code : ℕ) (parts : List AnchorEntries) → is_at_one_of (anchors_of parts) code ≡ false
    → part_at (anchor_in code) parts ≡ []
part_at-not_one code [] not_one = refl
part_at-not_one code (part ∷ parts) not_one =
    elim (cases_eq (anchor_in code) part.anchor.0) [
      | inl same ↦ let is = at-here code part parts same in cc
      | inr other ↦ part_at-there (anchor_in code) part parts (λ is. other (sym is))
          ∙ part_at-not_one code parts (sym (at-there code part parts other) ∙ not_one)
    ]

-- an entry of a part has its anchor
anchored : (anchor : ℕ) (es : List Entry) → AllByRecursion (λ (e : Entry). anchor_in e.code ≡ anchor) es → (code : ℕ)
    → anchor_in code ≢ anchor → entry_at code es ≡ None
anchored anchor [] all code other = refl
anchored anchor (e ∷ es) all code other =
    entry_at-there code e es (λ is. other (ap anchor_in (sym is) ∙ all.0)) ∙ anchored anchor es all.1 code other

pub not_of_part : (part : AnchorEntries) → IsPart part → (code : ℕ) → anchor_in code ≢ part.anchor.0 → entry_at code part.entries ≡ None
not_of_part part is code other =
    anchored part.anchor.0 part.entries
    (recursion_from_All (λ (e : Entry). anchor_in e.code ≡ part.anchor.0) part.entries is.anchored) code other

-- ---- what is chosen

pub chosen-code : (old : List Entry) (fired : Option ℕ) (e : Entry) → (chosen old fired e).code ≡ e.code
chosen-code old fired e = kept-code (entry_at e.code old) refl
  where
    kept-code : (found : Option Entry) → entry_at e.code old ≡ found → (kept_or fired found e).code ≡ e.code
    kept-code None is = refl
    kept-code (Some o) is =
        let code = entry_at-code e.code old o is in
        elim (cases_Bool (same_rate o.lg e.lg && not (is_fired fired e.code))) [
          | inl t ↦ rw t code
          | inr f ↦ rw f refl
        ]

-- entries of old lists that have the same at a code are chosen alike
pub chosen-alike : (one two : List Entry) (fired : Option ℕ) (e : Entry) → entry_at e.code one ≡ entry_at e.code two
    → chosen one fired e ≡ chosen two fired e
chosen-alike one two fired e same = ap (λ found. kept_or fired found e) same

-- ---- the entries of all parts

abbrev pub chosen_of_all : List Entry → Option ℕ → List AnchorEntries → List Entry
chosen_of_all old fired parts = flat_map (λ (part : AnchorEntries). map (chosen old fired) part.entries) parts

none-chosen : (old : List Entry) (fired : Option ℕ) (code : ℕ) (es : List Entry) → entry_at code es ≡ None
    → entry_at code (map (chosen old fired) es) ≡ None
none-chosen old fired code es none =
    entry_at-map (chosen old fired) (chosen-code old fired) code es ∙ ap (option_map (chosen old fired)) none

entry_at-parts : (old : List Entry) (fired : Option ℕ) (code : ℕ) (parts : List AnchorEntries) → AllByRecursion IsPart parts
    → AreDifferent (anchors_of parts)
    → entry_at code (chosen_of_all old fired parts) ≡ option_map (chosen old fired) (entry_at code (part_at (anchor_in code) parts))
entry_at-parts old fired code [] are different = refl
entry_at-parts old fired code (part ∷ parts) are different =
    let here = map (chosen old fired) part.entries in
    let rest = chosen_of_all old fired parts in
    let mapped = entry_at-map (chosen old fired) (chosen-code old fired) code part.entries in
    elim (cases_eq part.anchor.0 (anchor_in code)) [
      | inl same ↦
          let later : entry_at code rest ≡ None = entry_at-parts old fired code parts are.1 different.1
          ∙ ap (λ es. option_map (chosen old fired) (entry_at code es))
          (part_at-none (anchor_in code) parts (subst (λ a. AllByRecursion (λ b. a ≢ b) (anchors_of parts)) same different.0)) in
          in_first here rest code later ∙ mapped
          ∙ ap (λ es. option_map (chosen old fired) (entry_at code es)) (sym (part_at-here (anchor_in code) part parts same))
      | inr other ↦
          entry_at-append_none code here rest (none-chosen old fired code part.entries (not_of_part part are.0 code (λ is. other (sym is))))
          ∙ entry_at-parts old fired code parts are.1 different.1
          ∙ ap (λ es. option_map (chosen old fired) (entry_at code es)) (sym (part_at-there (anchor_in code) part parts other))
    ]
  where
    in_first : (xs ys : List Entry) (code : ℕ) → entry_at code ys ≡ None → entry_at code (xs ++ ys) ≡ entry_at code xs
    in_first xs ys code none = found_or (entry_at code xs) refl
      where
        found_or : (found : Option Entry) → entry_at code xs ≡ found → entry_at code (xs ++ ys) ≡ entry_at code xs
        found_or None is = entry_at-append_none code xs ys is ∙ none ∙ sym is
        found_or (Some e) is = entry_at-append_found code xs ys e is ∙ sym is

apart-parts : (old : List Entry) (fired : Option ℕ) (parts : List AnchorEntries) → AllByRecursion IsPart parts
    → AreDifferent (anchors_of parts) → AreApart (chosen_of_all old fired parts)
apart-parts old fired [] are different = tt
apart-parts old fired (part ∷ parts) are different =
    apart-append (map (chosen old fired) part.entries) (chosen_of_all old fired parts)
    (apart-map (chosen old fired) (chosen-code old fired) part.entries (apart-rising part.entries are.0.rising))
    (apart-parts old fired parts are.1 different.1)
    (λ code. elim (cases_eq (anchor_in code) part.anchor.0) [
      | inl same ↦ inr (entry_at-parts old fired code parts are.1 different.1
          ∙ ap (λ es. option_map (chosen old fired) (entry_at code es))
          (part_at-none (anchor_in code) parts (subst (λ a. AllByRecursion (λ b. a ≢ b) (anchors_of parts)) (sym same) different.0)))
      | inr other ↦ inl (none-chosen old fired code part.entries (not_of_part part are.0 code other))
    ])

-- ---- the entries afterwards

-- what there is before they are sorted
abbrev unsorted : List AnchorEntries → Option ℕ → List Entry → List Entry
unsorted parts fired old =
    filter (λ (e : Entry). not (is_at_one_of (anchors_of parts) e.code)) old ++ chosen_of_all old fired parts

kept-code : (parts : List AnchorEntries) (code : ℕ) → is_at_one_of (anchors_of parts) code ≡ false
    → not (is_at_one_of (anchors_of parts) code) ≡ true
kept-code parts code is = ap not is

dropped-code : (parts : List AnchorEntries) (code : ℕ) → is_at_one_of (anchors_of parts) code ≡ true
    → not (is_at_one_of (anchors_of parts) code) ≡ false
dropped-code parts code is = ap not is

module _ (parts : List AnchorEntries) (fired : Option ℕ) (old : List Entry) (are : AllByRecursion IsPart parts)
    (different : AreDifferent (anchors_of parts)) where
  apart-unsorted : IsRising (codes_of old) → AreApart (unsorted parts fired old)
  apart-unsorted rising =
      apart-append (filter (λ (e : Entry). not (is_at_one_of (anchors_of parts) e.code)) old) (chosen_of_all old fired parts)
      (apart-filter (λ code. not (is_at_one_of (anchors_of parts) code)) old (apart-rising old rising))
      (apart-parts old fired parts are different)
      (λ code. elim (cases_Bool (is_at_one_of (anchors_of parts) code)) [
        | inl one ↦ inl (entry_at-filter_dropped (λ c. not (is_at_one_of (anchors_of parts) c)) code old (dropped-code parts code one))
        | inr not_one ↦ inr (entry_at-parts old fired code parts are different
            ∙ ap (λ es. option_map (chosen old fired) (entry_at code es)) (part_at-not_one code parts not_one))
      ])

  -- their codes rise
  pub rising-renewed_at : IsRising (codes_of old) → IsRising (codes_of (renewed_at parts fired old))
  unfolding renewed_at
  rising-renewed_at rising = rising-by_code (unsorted parts fired old) (apart-unsorted rising)

  -- a code of another anchor has the entry that it had
  pub renewed_at-others : IsRising (codes_of old) → (code : ℕ) → is_at_one_of (anchors_of parts) code ≡ false
      → entry_at code (renewed_at parts fired old) ≡ entry_at code old
  unfolding renewed_at
  renewed_at-others rising code not_one =
      let kept = filter (λ (e : Entry). not (is_at_one_of (anchors_of parts) e.code)) old in
      let stays = entry_at-filter_kept (λ c. not (is_at_one_of (anchors_of parts) c)) code old (kept-code parts code not_one) in
      let none = entry_at-parts old fired code parts are different
      ∙ ap (λ es. option_map (chosen old fired) (entry_at code es)) (part_at-not_one code parts not_one) in
      entry_at-by_code code (unsorted parts fired old) (apart-unsorted rising) ∙ in_first kept (chosen_of_all old fired parts) code none ∙ stays
    where
      in_first : (xs ys : List Entry) (code : ℕ) → entry_at code ys ≡ None → entry_at code (xs ++ ys) ≡ entry_at code xs
      in_first xs ys code none = found_or (entry_at code xs) refl
        where
          found_or : (found : Option Entry) → entry_at code xs ≡ found → entry_at code (xs ++ ys) ≡ entry_at code xs
          found_or None is = entry_at-append_none code xs ys is ∙ none ∙ sym is
          found_or (Some e) is = entry_at-append_found code xs ys e is ∙ sym is

  -- a code of one of the anchors has what is chosen of the entry of its part, or none where it has none there
  pub renewed_at-parts : IsRising (codes_of old) → (code : ℕ) → is_at_one_of (anchors_of parts) code ≡ true
      → entry_at code (renewed_at parts fired old) ≡ option_map (chosen old fired) (entry_at code (part_at (anchor_in code) parts))
  unfolding renewed_at
  renewed_at-parts rising code one =
      let kept = filter (λ (e : Entry). not (is_at_one_of (anchors_of parts) e.code)) old in
      entry_at-by_code code (unsorted parts fired old) (apart-unsorted rising)
      ∙ entry_at-append_none code kept (chosen_of_all old fired parts)
      (entry_at-filter_dropped (λ c. not (is_at_one_of (anchors_of parts) c)) code old (dropped-code parts code one))
      ∙ entry_at-parts old fired code parts are different

-- ---- one part after another

-- if no anchor is renewed, all entries stay
pub renewed_at-nothing : (fired : Option ℕ) (old : List Entry) → IsRising (codes_of old) → renewed_at [] fired old ≡ old
renewed_at-nothing fired old rising =
    same_entries (renewed_at [] fired old) old (rising-renewed_at [] fired old tt tt rising) rising
    (λ code. renewed_at-others [] fired old tt tt rising code refl)

-- one anchor: a code of another one, and a code of this one
pub renewed_at-one_others : (part : AnchorEntries) (fired : Option ℕ) (old : List Entry) → IsPart part → IsRising (codes_of old)
    → (code : ℕ) → anchor_in code ≢ part.anchor.0 → entry_at code (renewed_at (part ∷ []) fired old) ≡ entry_at code old
renewed_at-one_others part fired old is rising code other =
    renewed_at-others (part ∷ []) fired old (is, tt) (tt, tt) rising code (at-there code part [] other)

pub renewed_at-one_part : (part : AnchorEntries) (fired : Option ℕ) (old : List Entry) → IsPart part → IsRising (codes_of old)
    → (code : ℕ) → anchor_in code ≡ part.anchor.0
    → entry_at code (renewed_at (part ∷ []) fired old) ≡ entry_at code (map (chosen old fired) part.entries)
renewed_at-one_part part fired old is rising code same =
    renewed_at-parts (part ∷ []) fired old (is, tt) (tt, tt) rising code (at-here code part [] same)
    ∙ ap (λ es. option_map (chosen old fired) (entry_at code es)) (part_at-here (anchor_in code) part [] (sym same))
    ∙ sym (entry_at-map (chosen old fired) (chosen-code old fired) code part.entries)

pub rising-renewed_at_one : (part : AnchorEntries) (fired : Option ℕ) (old : List Entry) → IsPart part → IsRising (codes_of old)
    → IsRising (codes_of (renewed_at (part ∷ []) fired old))
rising-renewed_at_one part fired old is rising = rising-renewed_at (part ∷ []) fired old (is, tt) (tt, tt) rising

-- an entry that is found is chosen alike by old lists that have the same at its code
alike-found : (one two : List Entry) (fired : Option ℕ) (code : ℕ) (es : List Entry) → entry_at code one ≡ entry_at code two
    → option_map (chosen one fired) (entry_at code es) ≡ option_map (chosen two fired) (entry_at code es)
alike-found one two fired code es same = each (entry_at code es) refl
  where
    each : (found : Option Entry) → entry_at code es ≡ found → option_map (chosen one fired) found ≡ option_map (chosen two fired) found
    each None is = refl
    each (Some e) is =
        ap Some (chosen-alike one two fired e (subst (λ c. entry_at c one ≡ entry_at c two) (sym (entry_at-code code es e is)) same))

-- the rest after one anchor, at each code
more-at : (part : AnchorEntries) (parts : List AnchorEntries) (fired : Option ℕ) (old : List Entry)
    → AllByRecursion IsPart (part ∷ parts) → AreDifferent (anchors_of (part ∷ parts)) → IsRising (codes_of old) → (code : ℕ)
    → entry_at code (renewed_at parts fired (renewed_at (part ∷ []) fired old)) ≡ entry_at code (renewed_at (part ∷ parts) fired old)
more-at part parts fired old are different rising code =
    let mid = renewed_at (part ∷ []) fired old in
    let mid-rises = rising-renewed_at_one part fired old are.0 rising in
    elim (cases_eq (anchor_in code) part.anchor.0) [
      | inl same ↦
          let none = at-none code parts (subst (λ a. AllByRecursion (λ b. a ≢ b) (anchors_of parts)) (sym same) different.0) in
          renewed_at-others parts fired mid are.1 different.1 mid-rises code none
          ∙ renewed_at-one_part part fired old are.0 rising code same
          ∙ entry_at-map (chosen old fired) (chosen-code old fired) code part.entries
          ∙ ap (λ es. option_map (chosen old fired) (entry_at code es)) (sym (part_at-here (anchor_in code) part parts (sym same)))
          ∙ sym (renewed_at-parts (part ∷ parts) fired old are different rising code (at-here code part parts same))
      | inr other ↦
          let stays = renewed_at-one_others part fired old are.0 rising code other in
          elim (cases_Bool (is_at_one_of (anchors_of parts) code)) [
            | inl one ↦ renewed_at-parts parts fired mid are.1 different.1 mid-rises code one
                ∙ alike-found mid old fired code (part_at (anchor_in code) parts) stays
                ∙ ap (λ es. option_map (chosen old fired) (entry_at code es))
                (sym (part_at-there (anchor_in code) part parts (λ is. other (sym is))))
                ∙ sym (renewed_at-parts (part ∷ parts) fired old are different rising code (at-there code part parts other ∙ one))
            | inr not_one ↦ renewed_at-others parts fired mid are.1 different.1 mid-rises code not_one ∙ stays
                ∙ sym (renewed_at-others (part ∷ parts) fired old are different rising code (at-there code part parts other ∙ not_one))
          ]
    ]

-- renewing one anchor and then the others is renewing all of them
pub renewed_at-more : (part : AnchorEntries) (parts : List AnchorEntries) (fired : Option ℕ) (old : List Entry)
    → AllByRecursion IsPart (part ∷ parts) → AreDifferent (anchors_of (part ∷ parts)) → IsRising (codes_of old)
    → renewed_at parts fired (renewed_at (part ∷ []) fired old) ≡ renewed_at (part ∷ parts) fired old
renewed_at-more part parts fired old are different rising =
    let mid-rises = rising-renewed_at_one part fired old are.0 rising in
    same_entries (renewed_at parts fired (renewed_at (part ∷ []) fired old)) (renewed_at (part ∷ parts) fired old)
    (rising-renewed_at parts fired (renewed_at (part ∷ []) fired old) are.1 different.1 mid-rises)
    (rising-renewed_at (part ∷ parts) fired old are different rising) (more-at part parts fired old are different rising)
