-- All rooms, found by the lists of the sites.
use Rattle.std.proofs.Common.{◌≡◌, ◌≢◌, ℕ, ◌<◌, zero, suc, true, false, List, [], ◌∷◌, length, set, map, Option, None, Some, refl, sym, ap, ◌∙◌, subst, arith, inl, inr}
use Rattle.std.specs.Prelude.{IsSome, filter_map}
use Rattle.std.specs.List.{AllByRecursion}
use Rattle.std.proofs.lemmas.Bool.{cases_Bool, cases_eq}
use Rattle.std.proofs.lemmas.List.{get_or-set_other, get_or-set_same, length-set}
use Rattle.std.proofs.lemmas.List.Elements.{recursion_from_All}
use Rattle.process_queue.proofs.EntrySearch.{AreApart, apart-rising, entry_at-by_code, entry_at-code, entry_at-here, entry_at-there, rising-by_code, same_entries}
use Rattle.process_queue.proofs.RenewedEntries.{chosen-alike, renewed_at-one_others, renewed_at-one_part, rising-renewed_at_one}
use Rattle.process_queue.specs.ByCode.{by_code}
use Rattle.kmc_base.specs.Entries.{IsRising, chosen as chosen_of, codes_of, entry_at}
use Rattle.process_queue.specs.Renewal.{IsPart, anchor_in, renewed_at}
use Rattle.process_queue.specs.declared.part.AnchorEntries.{AnchorEntries}
use Rattle.kmc_base.specs.declared.entry.Entry.{Entry}
use Rattle.process_queue.proofs.RoomLists.{is_in-there, taken-among, taken-kept}
use Rattle.process_queue.proofs.SiteRooms.{chosen-anchored, codes-chosen, entries-alike, entries-taken, filed-entries, filed-taken, found-in, holds-in, room-found, same_entry, slot_cases}
use Rattle.process_queue.specs.Filing.{AreTaken, IsIndexed, IsOfSite, IsRefiled, entries_in, in_room, is_in, rooms_at}

-- the entries of all rooms
abbrev pub entries_in_all : List (Option Entry) → List Entry
entries_in_all slots = filter_map (λ slot. slot) slots

-- no code is in two rooms
abbrev pub AreCodesApart : List (Option Entry) → Type 0
AreCodesApart slots = (one two : ℕ) (d e : Entry) → in_room slots one ≡ Some d → in_room slots two ≡ Some e → d.code ≡ e.code → one ≡ two

-- ---- rooms whose codes differ

some_first : (e : Entry) (slots : List (Option Entry)) (room : ℕ) (d : Entry) → in_room slots room ≡ Some d → in_room (Some e ∷ slots) (suc room) ≡ Some d
some_first e slots room d is = is

-- an entry in a room is found, or another one with its code
found-in_all : (slots : List (Option Entry)) (room : ℕ) (e : Entry) → in_room slots room ≡ Some e → IsSome (entry_at e.code (entries_in_all slots))
found-in_all [] zero e is = absurd (let z : None ≡ Some e = is in cc)
found-in_all [] (suc room) e is = absurd (let z : None ≡ Some e = is in cc)
found-in_all (None ∷ slots) zero e is = absurd (let z : None ≡ Some e = is in cc)
found-in_all (Some d ∷ slots) zero e is =
    let same : d ≡ e = cc in
    subst IsSome (sym (entry_at-here e.code d (entries_in_all slots) (ap (λ (x : Entry). x.code) same))) refl
found-in_all (None ∷ slots) (suc room) e is = found-in_all slots room e is
found-in_all (Some d ∷ slots) (suc room) e is =
    elim (cases_eq d.code e.code) [
      | inl same ↦ subst IsSome (sym (entry_at-here e.code d (entries_in_all slots) same)) refl
      | inr other ↦ subst IsSome (sym (entry_at-there e.code d (entries_in_all slots) other)) (found-in_all slots room e is)
    ]

-- what is found is in a room
room-found_in_all : (slots : List (Option Entry)) (code : ℕ) (e : Entry) → entry_at code (entries_in_all slots) ≡ Some e
    → (room : ℕ) × (in_room slots room ≡ Some e)
room-found_in_all [] code e found = absurd (let z : None ≡ Some e = found in cc)
room-found_in_all (None ∷ slots) code e found = let some = room-found_in_all slots code e found in (suc some.0, some.1)
room-found_in_all (Some d ∷ slots) code e found =
    elim (cases_eq d.code code) [
      | inl same ↦ (0, sym (entry_at-here code d (entries_in_all slots) same) ∙ found)
      | inr other ↦
          let some = room-found_in_all slots code e (sym (entry_at-there code d (entries_in_all slots) other) ∙ found) in
          (suc some.0, some.1)
    ]

apart-rest : (slot : Option Entry) (slots : List (Option Entry)) → AreCodesApart (slot ∷ slots) → AreCodesApart slots
apart-rest slot slots apart one two d e is_one is_two same =
    let z : suc one ≡ suc two = apart (suc one) (suc two) d e is_one is_two same in omega arith

apart-in_all : (slots : List (Option Entry)) → AreCodesApart slots → AreApart (entries_in_all slots)
apart-in_all [] apart = tt
apart-in_all (None ∷ slots) apart = apart-in_all slots (apart-rest None slots apart)
apart-in_all (Some e ∷ slots) apart = (
  elim (slot_cases (entry_at e.code (entries_in_all slots))) [
    | inl none ↦ none
    | inr some ↦
        let room = room-found_in_all slots e.code some.0 some.1 in
        let code = entry_at-code e.code (entries_in_all slots) some.0 some.1 in
        let z : 0 ≡ suc room.0 = apart 0 (suc room.0) e some.0 refl room.1 (sym code) in absurd (omega arith)
  ],
  apart-in_all slots (apart-rest (Some e) slots apart),
)

-- so the entry in a room is found by its code
found-by_code : (slots : List (Option Entry)) → AreCodesApart slots → (room : ℕ) (e : Entry) → in_room slots room ≡ Some e
    → entry_at e.code (entries_in_all slots) ≡ Some e
found-by_code slots apart room e is =
    elim (slot_cases (entry_at e.code (entries_in_all slots))) [
      | inl none ↦ let z : false ≡ true = subst IsSome none (found-in_all slots room e is) in cc
      | inr some ↦
          let there = room-found_in_all slots e.code some.0 some.1 in
          let code = entry_at-code e.code (entries_in_all slots) some.0 some.1 in
          let same : there.0 ≡ room = apart there.0 room some.0 e there.1 is code in
          some.1 ∙ sym there.1 ∙ ap (in_room slots) same ∙ is
    ]

-- ---- rooms that are indexed

-- of the rooms of a site, no two have one code
one-room : (slots : List (Option Entry)) (rooms : List ℕ) → AreTaken slots rooms → AreApart (entries_in slots rooms) → (one two : ℕ) (d e : Entry)
    → is_in rooms one ≡ true → is_in rooms two ≡ true → in_room slots one ≡ Some d → in_room slots two ≡ Some e → d.code ≡ e.code → one ≡ two
one-room slots [] taken apart one two d e there also is_one is_two same = absurd (let z : false ≡ true = there in cc)
one-room slots (r ∷ rs) taken apart one two d e there also is_one is_two same =
    elim (slot_cases (in_room slots r)) [
      | inl vacant ↦ absurd (let z : false ≡ true = subst IsSome vacant taken.0 in cc)
      | inr first ↦
          let f = first.0 in
          let both = subst AreApart (entries-taken slots r rs f first.1) apart in
          elim (cases_eq r one) [
            | inl r_one ↦ elim (cases_eq r two) [
              | inl r_two ↦ sym r_one ∙ r_two
              | inr not_two ↦
                  let code : f.code ≡ e.code = ap (λ (x : Entry). x.code)
                  (same_entry (in_room slots r) f d first.1 (ap (in_room slots) r_one ∙ is_one)) ∙ same in
                  let some = found-in slots rs two e (sym (is_in-there r rs two not_two) ∙ also) is_two in
                  absurd (let z : false ≡ true = subst IsSome (ap (λ c. entry_at c (entries_in slots rs)) (sym code) ∙ both.0) some in cc)
            ]
            | inr not_one ↦ elim (cases_eq r two) [
              | inl r_two ↦
                  let code : f.code ≡ d.code = ap (λ (x : Entry). x.code)
                  (same_entry (in_room slots r) f e first.1 (ap (in_room slots) r_two ∙ is_two)) ∙ sym same in
                  let some = found-in slots rs one d (sym (is_in-there r rs one not_one) ∙ there) is_one in
                  absurd (let z : false ≡ true = subst IsSome (ap (λ c. entry_at c (entries_in slots rs)) (sym code) ∙ both.0) some in cc)
              | inr not_two ↦ one-room slots rs taken.1 both.1 one two d e (sym (is_in-there r rs one not_one) ∙ there)
                  (sym (is_in-there r rs two not_two) ∙ also) is_one is_two same
            ]
          ]
    ]

module _ (slots : List (Option Entry)) (lists : List (List ℕ)) (index : IsIndexed slots lists) where
  codes-apart : AreCodesApart slots
  codes-apart one two d e is_one is_two same =
      let site = anchor_in d.code in
      let rooms = rooms_at lists site in
      let of_site = index.sites site in
      let also : is_in rooms two ≡ true = ap (λ c. is_in (rooms_at lists (anchor_in c)) two) same ∙ index.complete two e is_two in
      one-room slots rooms of_site.taken (apart-rising (entries_in slots rooms) of_site.rising) one two d e (index.complete one d is_one) also
      is_one is_two same

  -- the codes of all entries rise
  pub rising-all : IsRising (codes_of (by_code (λ (e : Entry). e.code) (entries_in_all slots)))
  rising-all = rising-by_code (entries_in_all slots) (apart-in_all slots codes-apart)

  -- the entry of a code is found in the rooms of its anchor
  pub found-at : (code : ℕ) → entry_at code (by_code (λ (e : Entry). e.code) (entries_in_all slots))
      ≡ entry_at code (entries_in slots (rooms_at lists (anchor_in code)))
  found-at code =
      let rooms = rooms_at lists (anchor_in code) in
      let apart = codes-apart in
      entry_at-by_code code (entries_in_all slots) (apart-in_all slots apart) ∙
      elim (slot_cases (entry_at code (entries_in slots rooms))) [
        | inr some ↦
            let e = some.0 in
            let room = room-found slots rooms code e some.1 in
            let has = entry_at-code code (entries_in slots rooms) e some.1 in
            subst (λ c. entry_at c (entries_in_all slots) ≡ Some e) has (found-by_code slots apart room.0 e room.2) ∙ sym some.1
        | inl none ↦ elim (slot_cases (entry_at code (entries_in_all slots))) [
          | inl also ↦ also ∙ sym none
          | inr some ↦
              let e = some.0 in
              let room = room-found_in_all slots code e some.1 in
              let has = entry_at-code code (entries_in_all slots) e some.1 in
              let there : is_in rooms room.0 ≡ true = subst (λ c. is_in (rooms_at lists (anchor_in c)) room.0 ≡ true) has
              (index.complete room.0 e room.1) in
              let found = subst (λ c. IsSome (entry_at c (entries_in slots rooms))) has (found-in slots rooms room.0 e there room.1) in
              absurd (let z : false ≡ true = subst IsSome none found in cc)
        ]
      ]

-- ---- the rooms of one site are filled again

module _ (old new : List (Option Entry)) (lists : List (List ℕ)) (index : IsIndexed old lists) (site : ℕ) (inside : site < length lists)
    (after : List ℕ) (entries : List Entry) (is : IsRefiled old new (rooms_at lists site) after entries) (rising : IsRising (codes_of entries))
    (anchored : AllByRecursion (λ (e : Entry). anchor_in e.code ≡ site) entries) where
  rooms-here : rooms_at (set lists site after) site ≡ after
  rooms-here = get_or-set_same lists site after [] inside

  rooms-there : (other : ℕ) → other ≢ site → rooms_at (set lists site after) other ≡ rooms_at lists other
  rooms-there other differ = get_or-set_other lists site other after [] differ

  -- a room of another site keeps what it has
  kept-elsewhere : (other : ℕ) → other ≢ site → (room : ℕ) → is_in (rooms_at lists other) room ≡ true → in_room new room ≡ in_room old room
  kept-elsewhere other differ room one =
      let of_other = index.sites other in
      let some = taken-among old (rooms_at lists other) room of_other.taken one in
      let before : is_in (rooms_at lists site) room ≡ false = elim (cases_Bool (is_in (rooms_at lists site) room)) [
        | inr none ↦ none
        | inl also ↦ elim (slot_cases (in_room old room)) [
          | inl vacant ↦ let z : false ≡ true = subst IsSome vacant some in cc
          | inr entry ↦
              let e = entry.0 in
              let first = holds-in (λ (x : Entry). anchor_in x.code ≡ other) old (rooms_at lists other) room e of_other.anchored one entry.1 in
              let second = holds-in (λ (x : Entry). anchor_in x.code ≡ site) old (rooms_at lists site) room e (index.sites site).anchored also entry.1 in
              absurd (differ (sym first ∙ second))
        ]
      ] in
      elim (cases_Bool (is_in after room)) [
        | inl fresh ↦ absurd (let z : false ≡ true = subst IsSome (is.fresh room before fresh) some in cc)
        | inr none ↦ is.others room before none
      ]

  of_site-after : (other : ℕ) → IsOfSite new other (rooms_at (set lists site after) other)
  of_site-after other =
      elim (cases_eq other site) [
        | inl same ↦
            let has = filed-entries new after entries is.filed in
            subst (λ s. IsOfSite new s (rooms_at (set lists site after) s)) (sym same)
            (subst (IsOfSite new site) (sym rooms-here) (record {
              taken = filed-taken new after entries is.filed;
              rising = subst (λ es. IsRising (codes_of es)) (sym has) rising;
              anchored = subst (λ es. AllByRecursion (λ (e : Entry). anchor_in e.code ≡ site) es) (sym has) anchored;
            }))
        | inr differ ↦
            let rooms = rooms_at lists other in
            let of_other = index.sites other in
            let alike = entries-alike old new rooms (kept-elsewhere other differ) in
            subst (IsOfSite new other) (sym (rooms-there other differ)) (record {
              taken = taken-kept old new rooms of_other.taken (kept-elsewhere other differ);
              rising = subst (λ es. IsRising (codes_of es)) (sym alike) of_other.rising;
              anchored = subst (λ es. AllByRecursion (λ (e : Entry). anchor_in e.code ≡ other) es) (sym alike) of_other.anchored;
            })
      ]

  complete-after : (room : ℕ) (e : Entry) → in_room new room ≡ Some e
      → is_in (rooms_at (set lists site after) (anchor_in e.code)) room ≡ true
  complete-after room e taken =
      elim (cases_Bool (is_in after room)) [
        | inl one ↦
            let all = subst (λ es. AllByRecursion (λ (x : Entry). anchor_in x.code ≡ site) es) (sym (filed-entries new after entries is.filed)) anchored in
            let here = holds-in (λ (x : Entry). anchor_in x.code ≡ site) new after room e all one taken in
            ap (λ s. is_in (rooms_at (set lists site after) s) room) here ∙ ap (λ rooms. is_in rooms room) rooms-here ∙ one
        | inr none ↦ elim (cases_Bool (is_in (rooms_at lists site) room)) [
          | inl before ↦ absurd (let z : None ≡ Some e = sym (is.gone room before none) ∙ taken in cc)
          | inr not_before ↦
              let there = index.complete room e (sym (is.others room not_before none) ∙ taken) in
              let differ : anchor_in e.code ≢ site = λ same.
              let z : is_in (rooms_at lists site) room ≡ true = ap (λ s. is_in (rooms_at lists s) room) (sym same) ∙ there in cc in
              ap (λ rooms. is_in rooms room) (rooms-there (anchor_in e.code) differ) ∙ there
        ]
      ]

  pub indexed-after : IsIndexed new (set lists site after)
  indexed-after = record {
    few_sites = let few = index.few_sites in omega (arith, length-set lists site after);
    sites = of_site-after;
    complete = complete-after;
  }

  -- what is found there, and elsewhere
  found-here : (code : ℕ) → anchor_in code ≡ site → entry_at code (by_code (λ (e : Entry). e.code) (entries_in_all new)) ≡ entry_at code entries
  found-here code same =
      found-at new (set lists site after) indexed-after code
      ∙ ap (λ s. entry_at code (entries_in new (rooms_at (set lists site after) s))) same
      ∙ ap (λ rooms. entry_at code (entries_in new rooms)) rooms-here ∙ ap (entry_at code) (filed-entries new after entries is.filed)

  found-there : (code : ℕ) → anchor_in code ≢ site → entry_at code (by_code (λ (e : Entry). e.code) (entries_in_all new))
      ≡ entry_at code (by_code (λ (e : Entry). e.code) (entries_in_all old))
  found-there code differ =
      found-at new (set lists site after) indexed-after code
      ∙ ap (λ rooms. entry_at code (entries_in new rooms)) (rooms-there (anchor_in code) differ)
      ∙ ap (entry_at code) (entries-alike old new (rooms_at lists (anchor_in code)) (kept-elsewhere (anchor_in code) differ))
      ∙ sym (found-at old lists index code)

-- ---- the entries of one anchor are renewed

-- an old list and all entries give the same, if they have the same entry at each code of the anchor
chosen-of_site : (some all : List Entry) (fired : Option ℕ) (site : ℕ)
    → ((code : ℕ) → anchor_in code ≡ site → entry_at code some ≡ entry_at code all) → (es : List Entry)
    → AllByRecursion (λ (e : Entry). anchor_in e.code ≡ site) es → map (chosen_of some fired) es ≡ map (chosen_of all fired) es
chosen-of_site some all fired site same [] anchored = refl
chosen-of_site some all fired site same (e ∷ es) anchored =
    ap (λ x. x ∷ map (chosen_of some fired) es) (chosen-alike some all fired e (same e.code anchored.0))
    ∙ ap (λ xs. chosen_of all fired e ∷ xs) (chosen-of_site some all fired site same es anchored.1)

module _ (old new : List (Option Entry)) (lists : List (List ℕ)) (index : IsIndexed old lists) (part : AnchorEntries) (fired : Option ℕ)
    (is_part : IsPart part) (inside : part.anchor.0 < length lists) (after : List ℕ)
    (is : IsRefiled old new (rooms_at lists part.anchor.0) after
    (map (chosen_of (entries_in old (rooms_at lists part.anchor.0)) fired) part.entries)) where
  abbrev chosen_here : List Entry
  chosen_here = map (chosen_of (entries_in old (rooms_at lists part.anchor.0)) fired) part.entries

  part-anchored : AllByRecursion (λ (e : Entry). anchor_in e.code ≡ part.anchor.0) part.entries
  part-anchored = recursion_from_All (λ (e : Entry). anchor_in e.code ≡ part.anchor.0) part.entries is_part.anchored

  chosen-rises : IsRising (codes_of chosen_here)
  chosen-rises =
      subst IsRising (sym (codes-chosen (entries_in old (rooms_at lists part.anchor.0)) fired part.entries)) is_part.rising

  chosen-here : AllByRecursion (λ (e : Entry). anchor_in e.code ≡ part.anchor.0) chosen_here
  chosen-here = chosen-anchored (entries_in old (rooms_at lists part.anchor.0)) fired part.anchor.0 part.entries part-anchored

  pub indexed-renewed : IsIndexed new (set lists part.anchor.0 after)
  indexed-renewed = indexed-after old new lists index part.anchor.0 inside after chosen_here is chosen-rises chosen-here

  pub entries-renewed : by_code (λ (e : Entry). e.code) (entries_in_all new)
      ≡ renewed_at (part ∷ []) fired (by_code (λ (e : Entry). e.code) (entries_in_all old))
  entries-renewed =
      let all = by_code (λ (e : Entry). e.code) (entries_in_all old) in
      let rises = rising-all old lists index in
      same_entries (by_code (λ (e : Entry). e.code) (entries_in_all new)) (renewed_at (part ∷ []) fired all)
      (rising-all new (set lists part.anchor.0 after) indexed-renewed) (rising-renewed_at_one part fired all is_part rises)
      (λ code. elim (cases_eq (anchor_in code) part.anchor.0) [
        | inl same ↦
            found-here old new lists index part.anchor.0 inside after chosen_here is chosen-rises chosen-here code same
            ∙ ap (entry_at code) (chosen-of_site (entries_in old (rooms_at lists part.anchor.0)) all fired part.anchor.0
            (λ c of_site. ap (λ s. entry_at c (entries_in old (rooms_at lists s))) (sym of_site) ∙ sym (found-at old lists index c))
            part.entries part-anchored)
            ∙ sym (renewed_at-one_part part fired all is_part rises code same)
        | inr differ ↦
            found-there old new lists index part.anchor.0 inside after chosen_here is chosen-rises chosen-here code differ
            ∙ sym (renewed_at-one_others part fired all is_part rises code differ)
      ])
