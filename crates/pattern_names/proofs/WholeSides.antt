-- A side of a step, where none of its names has a fault: each entity is there as a whole, and has as many dentates as its
-- species.
use Rattle.std.proofs.Common.{◌≡◌, ◌∙◌, ◌+◌, ◌-◌, ◌≤◌, ◌<◌, ◌==◌, ◌&&◌, ℕ, suc, Bool, true, false, not, IfOk, List, [], ◌∷◌, Option, None, Some}
use Rattle.std.proofs.Common.{Ok, Err, Result, length, map, get_or, eqb, refl, sym, ap, subst, arith, inl, inr}
use Rattle.std.specs.Prelude.{slice_index_or, unwrap_or, replicate, codes, filter, is_some, IsSome}
use Rattle.std.specs.Option.{option_map, option_map_or}
use Rattle.std.specs.List.{All, AllByRecursion, AllPairs, Contains, IsDistinct, list_any}
use Rattle.std.proofs.lemmas.Bool.{and_from, and_parts, and_right, both_ways, cases_Bool, cond-false, eq-eqb, eqb-true, false_from_ne_true}
use Rattle.std.proofs.lemmas.Bool.{false≢true, ne_eqb, not_from_false, or_cases, or_left, or_right, true_from_ne_false}
use Rattle.std.proofs.lemmas.List.{get_or-map, length-map, length-replicate}
use Rattle.std.proofs.lemmas.List.Elements.{All-from_get_or, All-from_recursion, All-map, All-weaker, recursion_from_All}
use Rattle.std.proofs.lemmas.List.Folds.{Any-from_list_any, list_any_at, list_any_none}
use Rattle.std.proofs.lemmas.List.Sums.{length-filter}
use Rattle.std.proofs.lemmas.Map.Steps.{le-length_from_below, length-le_from_distinct_below}
use Rattle.std.proofs.lemmas.Result.{IfOk-weaker}
use Rattle.std.proofs.lemmas.Slice.Eq.{bytes_eq-Decides}
use Rattle.deck_values.proofs.Values.{unless-holds}
use Rattle.deck_words.proofs.HeldValues.{both-holds, value_map-holds}
use Rattle.deck_words.specs.Faults.{both, with_fault}
use Rattle.deck_words.specs.Tables.{same_word}
use Rattle.deck_words.specs.declared.fault.LineFault.{LineFault}
use Rattle.deck_words.specs.declared.kind.TheConstants.{MISSING_DENTATE}
use Rattle.firing.proofs.Wants.{is_dentate-holds, one_species, want_at}
use Rattle.firing.specs.Entities.{is_of, size_of}
use Rattle.firing.specs.Sides.{is_dentate}
use Rattle.firing.specs.Soundness.{HasItsDentates, IsWholeWant}
use Rattle.kmc_base.specs.declared.ids.SpeciesId.{SpeciesId}
use Rattle.pattern_names.proofs.WantedRows.{IsOfSpecies, species_are, wanted_are}
use Rattle.pattern_names.specs.Sides.{is_faulty_row, lacks_dentate, lacks_one, side_in, wants_dentate_of}
use Rattle.pattern_names.specs.Species.{all_wanted, dentate_fault, dentates_of, row_fault, species_fault, species_in, wanted_in}
use Rattle.pattern_rows.specs.Patterns.{MakePattern, wanted_of}
use Rattle.pattern_rows.specs.States.{EntityWords, StateWords}
use Rattle.pattern_types.proofs.RangeLemmas.{any-range}
use Rattle.pattern_types.specs.Parts.{PatternParts, parts}
use Rattle.pattern_types.specs.Soundness.{IsSound as IsPattern}
use Rattle.pattern_types.specs.Wants.{same_dentate}
use Rattle.pattern_types.specs.declared.wanted.Wanted.{Wanted}
use Rattle.pattern_types.specs.declared.wanted.Wanted.TheVariants.{Any, Holds, Vacant}
use Rattle.species_book.specs.Book.{Book, place_of, species}

-- a row wants an entity, and does not take any state
abbrev pub IsEntity : StateWords → Type 0
IsEntity row = IsSome row

-- each entity is there as a whole, and has as many dentates as its species has in the book
pub record IsWholeSide (book : Book) (wanted : List Wanted) : Type 0 where
  pub whole : All (IsWholeWant wanted) wanted
  pub dentates : All (HasItsDentates (λ species. slice_index_or book.dentates species 0) wanted) wanted

-- ---- the dentates of an entity, counted

-- the dentate that a vertex wants, numbered from 0
abbrev number : Wanted → ℕ
number Any = 0
number Vacant = 0
number (Holds entity species dentate) = dentate - 1

abbrev numbers : ℕ → List Wanted → List ℕ
numbers entity wanted = map number (filter (is_of entity) wanted)

numbers_count : (entity : ℕ) (wanted : List Wanted) → length (numbers entity wanted) ≡ size_of entity wanted
numbers_count entity wanted = length-map (filter (is_of entity) wanted) number ∙ length-filter (is_of entity) wanted

-- a dentate that a vertex wants of the entity is from 1 to n
abbrev IsWithin : ℕ → ℕ → Wanted → Type 0
IsWithin entity n Any = Unit {0}
IsWithin entity n Vacant = Unit {0}
IsWithin entity n (Holds e species dentate) = e ≡ entity → (1 ≤ dentate) × (dentate ≤ n)

-- so each of the numbers is below n
below : (entity n : ℕ) (wanted : List Wanted) → AllByRecursion (IsWithin entity n) wanted → (q : ℕ) → list_any (eqb q) (numbers entity wanted) ≡ true
    → q < n
below entity n [] within q found = absurd (false≢true found)
below entity n (Any ∷ ws) within q found = below entity n ws within.1 q found
below entity n (Vacant ∷ ws) within q found = below entity n ws within.1 q found
below entity n (Holds e p d ∷ ws) within q found =
    elim (cases_Bool (eqb e entity)) [
      | inl own ↦ elim (or_cases (eqb q (d - 1)) (list_any (eqb q) (numbers entity ws)) (rw own at found)) [
        | inl here ↦
            let range = within.0 (eqb-true e entity own) in
            let is : q ≡ d - 1 = eqb-true q (d - 1) here in
            omega (arith, range.0, range.1)
        | inr later ↦ below entity n ws within.1 q later
      ]
      | inr other ↦ below entity n ws within.1 q (rw other at found)
    ]

-- the number of a vertex is not that of a later one that wants another dentate
apart : (entity n e d : ℕ) (p : SpeciesId) (ws : List Wanted) → e ≡ entity → 1 ≤ d
    → AllByRecursion (λ w. same_dentate (Holds e p d) w ≡ false) ws → AllByRecursion (IsWithin entity n) ws
    → AllByRecursion (λ y. eqb (d - 1) y ≡ false) (numbers entity ws)
apart entity n e d p [] own some differ within = tt
apart entity n e d p (Any ∷ ws) own some differ within = apart entity n e d p ws own some differ.1 within.1
apart entity n e d p (Vacant ∷ ws) own some differ within = apart entity n e d p ws own some differ.1 within.1
apart entity n e d p (Holds f q g ∷ ws) own some differ within =
    elim (cases_Bool (eqb f entity)) [
      | inl too ↦
          let name : e ≡ f = own ∙ sym (eqb-true f entity too) in
          let range = within.0 (eqb-true f entity too) in
          rw too (
            ne_eqb (d - 1) (g - 1)
                (λ same. both_ways (eqb e f && eqb d g) differ.0
                (and_from (eqb e f) (eqb d g) (eq-eqb e f name) (eq-eqb d g (omega (arith, same, some, range.0))))),
            apart entity n e d p ws own some differ.1 within.1,
          )
      | inr other ↦ rw other (apart entity n e d p ws own some differ.1 within.1)
    ]

-- no number is there twice
distinct : (entity n : ℕ) (wanted : List Wanted) → AllPairs (λ a b. same_dentate a b ≡ false) wanted → AllByRecursion (IsWithin entity n) wanted
    → IsDistinct eqb (numbers entity wanted)
unfolding IsDistinct
distinct entity n [] differ within = tt
distinct entity n (Any ∷ ws) differ within = distinct entity n ws (λ i j d before low. differ (suc i) (suc j) d (omega arith) (omega arith)) within.1
distinct entity n (Vacant ∷ ws) differ within = distinct entity n ws (λ i j d before low. differ (suc i) (suc j) d (omega arith) (omega arith)) within.1
distinct entity n (Holds e p d ∷ ws) differ within =
    let rest : IsDistinct eqb (numbers entity ws)
    = distinct entity n ws (λ i j x before low. differ (suc i) (suc j) x (omega arith) (omega arith)) within.1 in
    let later : AllByRecursion (λ w. same_dentate (Holds e p d) w ≡ false) ws
    = recursion_from_All (λ w. same_dentate (Holds e p d) w ≡ false) ws (λ k x low. differ 0 (suc k) x (omega arith) (omega arith)) in
    elim (cases_Bool (eqb e entity)) [
      | inl own ↦
          let same = eqb-true e entity own in
          rw own (apart entity n e d p ws same (within.0 same).0 later within.1, rest)
      | inr other ↦ rw other rest
    ]

-- the number of a dentate that some vertex wants is there
numbered : (entity q : ℕ) (wanted : List Wanted) → list_any (is_dentate entity (q + 1)) wanted ≡ true → list_any (eqb q) (numbers entity wanted) ≡ true
numbered entity q [] found = absurd (false≢true found)
numbered entity q (Any ∷ ws) found = numbered entity q ws found
numbered entity q (Vacant ∷ ws) found = numbered entity q ws found
numbered entity q (Holds e p d ∷ ws) found =
    elim (or_cases (eqb e entity && eqb d (q + 1)) (list_any (is_dentate entity (q + 1)) ws) found) [
      | inl here ↦
          let both = and_parts (eqb e entity) (eqb d (q + 1)) here in
          let is : d ≡ q + 1 = eqb-true d (q + 1) both.1 in
          let own = both.0 in
          rw own (or_left (eqb q (d - 1)) (list_any (eqb q) (numbers entity ws)) (eq-eqb q (d - 1) (omega arith)))
      | inr later ↦
          let rest : list_any (eqb q) (numbers entity ws) ≡ true = numbered entity q ws later in
          elim (cases_Bool (eqb e entity)) [
            | inl own ↦ rw own (or_right (eqb q (d - 1)) (list_any (eqb q) (numbers entity ws)) rest)
            | inr other ↦ rw other rest
          ]
    ]

-- an entity of which each dentate from 1 to n is wanted, once, and no other, is of size n
size_is : (entity n : ℕ) (wanted : List Wanted) → AllPairs (λ a b. same_dentate a b ≡ false) wanted → AllByRecursion (IsWithin entity n) wanted
    → ((d : ℕ) → 1 ≤ d → d ≤ n → list_any (is_dentate entity d) wanted ≡ true) → size_of entity wanted ≡ n
size_is entity n wanted differ within each =
    let most = length-le_from_distinct_below (numbers entity wanted) n (distinct entity n wanted differ within) (below entity n wanted within) in
    let least = le-length_from_below (numbers entity wanted) n
    (λ q low. numbered entity q wanted (each (q + 1) (omega arith) (omega arith))) in
    omega (arith, most, least, numbers_count entity wanted)

-- ---- rows without a fault

no_fault : {X : Type 0} (fault : Option LineFault) (r : Result X LineFault) → IfOk (with_fault fault r) (λ x. fault ≡ None)
no_fault None (Ok x) = refl
no_fault None (Err g) = tt
no_fault (Some f) (Ok x) = tt
no_fault (Some f) (Err g) = tt

abbrev HasNoFault : Book → StateWords → Type 0
HasNoFault book row = row_fault book row ≡ None

-- where each row has a value, none has a fault
no_faults : (book : Book) (rows : List StateWords) → IfOk (all_wanted book rows) (λ wanted. AllByRecursion (HasNoFault book) rows)
no_faults book [] = tt
no_faults book (row ∷ rows) =
    let first = wanted_in book row in
    let rest = all_wanted book rows in
    value_map-holds (λ wanted. AllByRecursion (HasNoFault book) (row ∷ rows)) (λ found. found.0 ∷ found.1) (both first rest)
    (both-holds (λ x. HasNoFault book row) (λ xs. AllByRecursion (HasNoFault book) rows) first rest
    (no_fault (row_fault book row) (Ok (wanted_of (species_in book) row))) (no_faults book rows))

both_hold : {X F : Type 0} (P Q : X → Type 0) (r : Result X F) → IfOk r P → IfOk r Q → IfOk r (λ x. P x × Q x)
both_hold P Q (Ok x) p q = (p, q)
both_hold P Q (Err f) p q = tt

not_faulty : (book : Book) (entity : ℕ) (row : StateWords) → HasNoFault book row → is_faulty_row book entity row ≡ false
not_faulty book entity None none = refl
not_faulty book entity (Some e) none = and_right (e.entity == entity) (is_some (row_fault book (Some e))) (ap is_some none)

-- a name of a species that has no fault is in the book
placed : (book : Book) (place : Option ℕ) (line dentate : ℕ) (unknown : LineFault)
    → option_map_or (λ dentates. dentate_fault line dentates dentate) (option_map (λ p. slice_index_or book.dentates p 0) place) (Some unknown) ≡ None
    → option_map (λ p. slice_index_or book.dentates p 0) place ≡ Some (slice_index_or book.dentates (unwrap_or place 0) 0)
placed book None line dentate unknown none = absurd (cc)
placed book (Some p) line dentate unknown none = refl

-- how many dentates the book has for a name
abbrev count_in : Book → List ℕ → ℕ
count_in book word = slice_index_or book.dentates (species_in book word).0 0

has_count : (book : Book) (e : EntityWords) → same_word (codes "*") e.species.word.bytes ≡ false → HasNoFault book (Some e)
    → dentates_of book e.species.word.bytes ≡ Some (count_in book e.species.word.bytes)
has_count book e holds none =
    let line = e.species.line in
    rw holds (placed book (place_of book.surface e.species.word.bytes) line e.dentate (species_fault line) (rw holds at none))

-- what a row wants that wants a dentate of an entity of a species
row_wants : (book : Book) (entity dentate : ℕ) (word : List ℕ) (row : StateWords) → same_word (codes "*") word ≡ false
    → wants_dentate_of entity word dentate row ≡ true → wanted_of (species_in book) row ≡ Holds entity (species_in book word) dentate
row_wants book entity dentate word None holds is = absurd (false≢true is)
row_wants book entity dentate word (Some e) holds is =
    let own = e.species.word.bytes in
    let outer = and_parts (e.entity == entity) (same_word own word && e.dentate == dentate) is in
    let inner = and_parts (same_word own word) (e.dentate == dentate) outer.1 in
    let same : own ≡ word = (bytes_eq-Decides own word).0 inner.0 in
    cond-false (same_word (codes "*") own) Vacant (Holds e.entity (species_in book own) e.dentate) (ap (same_word (codes "*")) same ∙ holds)
    ∙ ap (λ n. Holds n (species_in book own) e.dentate) (eqb-true e.entity entity outer.0)
    ∙ ap (λ w. Holds entity (species_in book w) e.dentate) same
    ∙ ap (λ n. Holds entity (species_in book word) n) (eqb-true e.dentate dentate inner.1)

-- ---- whole entities

module _ (book : Book) (edges : List (ℕ × ℕ)) (types : List (Option ℕ)) (rows : List StateWords) where
  abbrev wants : StateWords → Wanted
  wants = wanted_of (species_in book)

  abbrev side : PatternParts
  side = parts edges types (map wants rows)

  -- some entity lacks a dentate
  abbrev is_incomplete : Bool
  is_incomplete = list_any (λ row. option_map_or (lacks_dentate book rows) row false) rows

  module _ (pattern : IsPattern side) (none : All (HasNoFault book) rows) (complete : is_incomplete ≡ false)
      (of_species : All (IsOfSpecies book) side.wanted) where
    -- a row of an entity of a species
    module _ (k : ℕ) (within : k < length rows) (e : EntityWords) (here : get_or rows k None ≡ Some e)
        (holds : same_word (codes "*") e.species.word.bytes ≡ false) where
      abbrev word : List ℕ
      word = e.species.word.bytes

      abbrev own : SpeciesId
      own = species_in book word

      abbrev n : ℕ
      n = count_in book word

      want_here : want_at side.wanted k ≡ Holds e.entity own e.dentate
      want_here =
          get_or-map wants rows k None Any within ∙ ap wants here
          ∙ cond-false (same_word (codes "*") word) Vacant (Holds e.entity own e.dentate) holds

      lacks_none : lacks_one rows e.entity word n ≡ false
      lacks_none =
          let kept : row_fault book (Some e) ≡ None = subst (HasNoFault book) here (none k None within) in
          let count = has_count book e holds kept in
          let faultless : list_any (is_faulty_row book e.entity) rows ≡ false
          = list_any_none (is_faulty_row book e.entity) rows
          (All-weaker (HasNoFault book) (λ row. is_faulty_row book e.entity row ≡ false) (not_faulty book e.entity) rows none) in
          let whole : lacks_dentate book rows e ≡ false
          = false_from_ne_true (lacks_dentate book rows e) (λ lacks.
          both_ways is_incomplete complete
          (list_any_at (λ row. option_map_or (lacks_dentate book rows) row false) rows k None within
          (ap (λ row. option_map_or (lacks_dentate book rows) row false) here ∙ lacks))) in
          rw (faultless, count) at whole

      -- each dentate of the entity is wanted
      wanted_somewhere : (d : ℕ) → 1 ≤ d → d ≤ n → Contains side.wanted (Holds e.entity own d)
      wanted_somewhere d low high =
          let found : list_any (wants_dentate_of e.entity word d) rows ≡ true
          = true_from_ne_false (list_any (wants_dentate_of e.entity word d) rows) (λ fails.
          both_ways (lacks_one rows e.entity word n) lacks_none
          (any-range (λ m. not (list_any (wants_dentate_of e.entity word m) rows)) 1 n d low (omega arith) (not_from_false _ fails))) in
          let row = Any-from_list_any (wants_dentate_of e.entity word d) rows found in
          let long = length-map rows wants in (
            row.0,
            omega (arith, long, row.2),
            get_or-map wants rows row.0 row.1 (Holds e.entity own d) row.2 ∙ ap wants row.3 ∙ row_wants book e.entity d word row.1 holds row.4,
          )

      dentate_found : (d : ℕ) → 1 ≤ d → d ≤ n → list_any (is_dentate e.entity d) side.wanted ≡ true
      dentate_found d low high =
          let place = wanted_somewhere d low high in
          let want = Holds e.entity own d in
          list_any_at (is_dentate e.entity d) side.wanted place.0 want place.1 (is_dentate-holds e.entity d own _ place.2)

      -- no other dentate is
      in_size : (i : ℕ) → i < length side.wanted → (w : Wanted) → want_at side.wanted i ≡ w → IsWithin e.entity n w
      in_size i low Any is = tt
      in_size i low Vacant is = tt
      in_size i low (Holds f q g) is = λ same.
          let range : IsOfSpecies book (Holds f q g) = subst (IsOfSpecies book) is (of_species i Any low) in
          let one : q.0 ≡ own.0 = one_species side pattern i k e.entity g e.dentate q own (is ∙ ap (λ m. Holds m q g) same) want_here in
          (range.0, subst (λ m. g ≤ slice_index_or book.dentates m 0) one range.1)

      size_here : size_of e.entity side.wanted ≡ n
      size_here =
          size_is e.entity n side.wanted pattern.dentates
          (recursion_from_All (IsWithin e.entity n) side.wanted
          (All-from_get_or (IsWithin e.entity n) side.wanted Any (λ i low. in_size i low (want_at side.wanted i) refl)))
          dentate_found

      whole_here : IsWholeWant side.wanted (Holds e.entity own e.dentate)
      whole_here =
          let long = length-map rows wants in
          let range : IsOfSpecies book (Holds e.entity own e.dentate)
          = subst (IsOfSpecies book) want_here (of_species k Any (omega (arith, long, within))) in
          let size = size_here in
          (range.0, omega (arith, size, range.1), λ d low high. wanted_somewhere d low (omega (arith, size, high)))

    -- what a row wants is whole, and of the size of its species
    row_whole : (k : ℕ) → k < length rows → (row : StateWords) → get_or rows k None ≡ row → IsEntity row
        → IsWholeWant side.wanted (wants row) × HasItsDentates (λ species. slice_index_or book.dentates species 0) side.wanted (wants row)
    row_whole k within None here entity = absurd (false≢true entity)
    row_whole k within (Some e) here entity =
        elim (cases_Bool (same_word (codes "*") e.species.word.bytes)) [
          | inl vacant ↦ rw vacant (tt, tt)
          | inr holds ↦ rw holds (whole_here k within e here holds, size_here k within e here holds)
        ]

    all_whole : All IsEntity rows → IsWholeSide book side.wanted
    all_whole entities =
        let dentates = λ (species : ℕ). slice_index_or book.dentates species 0 in
        let each = λ (k : ℕ) (within : k < length rows). row_whole k within (get_or rows k None) refl (entities k None within) in
        record {
          whole = All-map (IsWholeWant side.wanted) wants rows
              (All-from_get_or (λ row. IsWholeWant side.wanted (wants row)) rows None (λ k within. (each k within).0));
          dentates = All-map (HasItsDentates dentates side.wanted) wants rows
              (All-from_get_or (λ row. HasItsDentates dentates side.wanted (wants row)) rows None (λ k within. (each k within).1));
        }

-- A side without a fault, whose rows make a pattern and take no site in any state, is whole.
pub side_is_whole : (book : Book) (sites : ℕ) (edges : List (ℕ × ℕ)) (line : ℕ) (rows : List StateWords) → MakePattern sites edges rows
    → AllByRecursion IsEntity rows → IfOk (side_in book line rows) (IsWholeSide book)
side_is_whole book sites edges line rows make entities =
    let found = all_wanted book rows in
    let types = replicate sites None in
    let pattern = make (species_in book) types (length-replicate sites None) in
    let IsWanted : List Wanted → Type 0 = λ wanted. wanted ≡ map (wanted_of (species_in book)) rows in
    let AreNamed : List Wanted → Type 0 = λ wanted. AllByRecursion (HasNoFault book) rows × All (IsOfSpecies book) wanted in
    unless-holds (IsWholeSide book) (is_incomplete book edges types rows) line MISSING_DENTATE found (λ complete.
    IfOk-weaker found (λ wanted. IsWanted wanted × AreNamed wanted) (IsWholeSide book)
    (λ wanted so.
    subst (IsWholeSide book) (sym so.0)
    (all_whole book edges types rows pattern (All-from_recursion (HasNoFault book) rows so.1.0) complete
    (subst (All (IsOfSpecies book)) so.0 so.1.1) (All-from_recursion IsEntity rows entities)))
    (both_hold IsWanted AreNamed found (wanted_are book rows)
    (both_hold (λ wanted. AllByRecursion (HasNoFault book) rows) (All (IsOfSpecies book)) found (no_faults book rows) (species_are book rows))))
