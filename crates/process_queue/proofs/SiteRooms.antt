-- The rooms of a site, and the entries in them.
use Rattle.std.proofs.Common.{◌≡◌, ◌≢◌, ℕ, ◌<◌, true, false, List, [], ◌∷◌, map, Option, None, Some, refl, sym, ap, ◌∙◌, subst, arith, inl, inr, ◌⊎◌}
use Rattle.std.specs.Prelude.{IsSome}
use Rattle.std.specs.List.{All, AllByRecursion, cons_option}
use Rattle.std.proofs.lemmas.Bool.{cases_Bool, cases_eq}
use Rattle.std.proofs.lemmas.List.Elements.{All-from_recursion, recursion_from_All}
use Rattle.process_queue.proofs.EntrySearch.{AreApart, apart-rising, entry_at-here, entry_at-there}
use Rattle.process_queue.proofs.RenewedEntries.{chosen-code}
use Rattle.kmc_base.specs.Entries.{chosen as chosen_of, codes_of, entry_at}
use Rattle.process_queue.specs.Renewal.{IsPart, anchor_in}
use Rattle.process_queue.specs.declared.part.AnchorEntries.{AnchorEntries}
use Rattle.kmc_base.specs.declared.entry.Entry.{Entry}
use Rattle.kmc_base.specs.declared.limits.TheConstants.{MAX_SITES}
use Rattle.process_queue.proofs.RoomLists.{is_in-here, is_in-there}
use Rattle.process_queue.specs.Filing.{AreDistinct, AreFiled, AreTaken, IsOfSite, entries_in, in_room, is_in}
use Rattle.process_queue.specs.declared.lead.TheConstants.{NO_CODE}

-- ---- the entries in some rooms

pub entries-taken : (slots : List (Option Entry)) (r : ℕ) (rs : List ℕ) (e : Entry) → in_room slots r ≡ Some e
    → entries_in slots (r ∷ rs) ≡ e ∷ entries_in slots rs
entries-taken slots r rs e is = ap (λ slot. cons_option slot (entries_in slots rs)) is

pub entries-vacant : (slots : List (Option Entry)) (r : ℕ) (rs : List ℕ) → in_room slots r ≡ None
    → entries_in slots (r ∷ rs) ≡ entries_in slots rs
entries-vacant slots r rs is = ap (λ slot. cons_option slot (entries_in slots rs)) is

-- a room has no entry, or one
pub slot_cases : (slot : Option Entry) → (slot ≡ None) ⊎ ((e : Entry) × (slot ≡ Some e))
slot_cases None = inl refl
slot_cases (Some e) = inr (e, refl)

-- a room with an entry is not one that has none
not_none : (slot : Option Entry) (e : Entry) → slot ≡ Some e → slot ≡ None → ⊥
not_none slot e some none = cc

pub same_entry : (slot : Option Entry) (d e : Entry) → slot ≡ Some d → slot ≡ Some e → d ≡ e
same_entry slot d e one two = cc

is_in-more : (r : ℕ) (rs : List ℕ) (room : ℕ) → is_in rs room ≡ true → is_in (r ∷ rs) room ≡ true
is_in-more r rs room one =
    elim (cases_eq r room) [
      | inl same ↦ is_in-here r rs room same
      | inr other ↦ is_in-there r rs room other ∙ one
    ]

-- an entry in one of the rooms is found, or another one with its code
pub found-in : (slots : List (Option Entry)) (rooms : List ℕ) (room : ℕ) (e : Entry) → is_in rooms room ≡ true → in_room slots room ≡ Some e
    → IsSome (entry_at e.code (entries_in slots rooms))
found-in slots [] room e one is = cc
found-in slots (r ∷ rs) room e one is =
    elim (slot_cases (in_room slots r)) [
      | inl vacant ↦
          let other : r ≢ room = λ same. not_none (in_room slots r) e (ap (in_room slots) same ∙ is) vacant in
          subst (λ es. IsSome (entry_at e.code es)) (sym (entries-vacant slots r rs vacant))
          (found-in slots rs room e (sym (is_in-there r rs room other) ∙ one) is)
      | inr some ↦
          let d = some.0 in
          let taken = some.1 in
          subst (λ es. IsSome (entry_at e.code es)) (sym (entries-taken slots r rs d taken))
          (elim (cases_eq d.code e.code) [
            | inl same ↦ subst IsSome (sym (entry_at-here e.code d (entries_in slots rs) same)) refl
            | inr differ ↦
                let other : r ≢ room = λ same. differ (ap (λ (x : Entry). x.code)
                (same_entry (in_room slots r) d e taken (ap (in_room slots) same ∙ is))) in
                subst IsSome (sym (entry_at-there e.code d (entries_in slots rs) differ))
                (found-in slots rs room e (sym (is_in-there r rs room other) ∙ one) is)
          ])
    ]

-- what is found is in one of the rooms
pub room-found : (slots : List (Option Entry)) (rooms : List ℕ) (code : ℕ) (e : Entry) → entry_at code (entries_in slots rooms) ≡ Some e
    → (room : ℕ) × (is_in rooms room ≡ true) × (in_room slots room ≡ Some e)
room-found slots [] code e found = absurd (not_none None e found refl)
room-found slots (r ∷ rs) code e found =
    elim (slot_cases (in_room slots r)) [
      | inl vacant ↦
          let some = room-found slots rs code e (sym (ap (entry_at code) (entries-vacant slots r rs vacant)) ∙ found) in
          (some.0, is_in-more r rs some.0 some.1, some.2)
      | inr first ↦
          let d = first.0 in
          let taken = first.1 in
          let split = sym (ap (entry_at code) (entries-taken slots r rs d taken)) ∙ found in
          elim (cases_eq d.code code) [
            | inl same ↦
                let is = same_entry (entry_at code (d ∷ entries_in slots rs)) d e (entry_at-here code d (entries_in slots rs) same) split in
                (r, is_in-here r rs r refl, taken ∙ ap Some is)
            | inr differ ↦
                let some = room-found slots rs code e (sym (entry_at-there code d (entries_in slots rs) differ) ∙ split) in
                (some.0, is_in-more r rs some.0 some.1, some.2)
          ]
    ]

-- what holds of the entries in the rooms holds of the entry in each
pub holds-in : (P : Entry → Type 0) (slots : List (Option Entry)) (rooms : List ℕ) (room : ℕ) (e : Entry) → AllByRecursion P (entries_in slots rooms)
    → is_in rooms room ≡ true → in_room slots room ≡ Some e → P e
holds-in P slots [] room e all one is = absurd (let z : false ≡ true = one in cc)
holds-in P slots (r ∷ rs) room e all one is =
    elim (slot_cases (in_room slots r)) [
      | inl vacant ↦
          let other : r ≢ room = λ same. not_none (in_room slots r) e (ap (in_room slots) same ∙ is) vacant in
          holds-in P slots rs room e (subst (AllByRecursion P) (entries-vacant slots r rs vacant) all) (sym (is_in-there r rs room other) ∙ one) is
      | inr some ↦
          let d = some.0 in
          let both = subst (AllByRecursion P) (entries-taken slots r rs d some.1) all in
          elim (cases_eq r room) [
            | inl same ↦ subst P (same_entry (in_room slots r) d e some.1 (ap (in_room slots) same ∙ is)) both.0
            | inr other ↦ holds-in P slots rs room e both.1 (sym (is_in-there r rs room other) ∙ one) is
          ]
    ]

-- rooms with the same in them have the same entries
pub entries-alike : (one two : List (Option Entry)) (rooms : List ℕ) → ((room : ℕ) → is_in rooms room ≡ true → in_room two room ≡ in_room one room)
    → entries_in two rooms ≡ entries_in one rooms
entries-alike one two [] same = refl
entries-alike one two (r ∷ rs) same =
    ap (λ slot. cons_option slot (entries_in two rs)) (same r (is_in-here r rs r refl))
    ∙ ap (cons_option (in_room one r)) (entries-alike one two rs (λ room there. same room (is_in-more r rs room there)))

-- ---- entries that are filed

pub filed-entries : (slots : List (Option Entry)) (rooms : List ℕ) (entries : List Entry) → AreFiled slots rooms entries
    → entries_in slots rooms ≡ entries
filed-entries slots [] [] filed = refl
filed-entries slots [] (e ∷ es) filed = cc
filed-entries slots (r ∷ rs) [] filed = cc
filed-entries slots (r ∷ rs) (e ∷ es) filed =
    let first : in_room slots r ≡ Some e = cc in
    let rest : AreFiled slots rs es = cc in
    entries-taken slots r rs e first ∙ ap (λ xs. e ∷ xs) (filed-entries slots rs es rest)

pub filed-taken : (slots : List (Option Entry)) (rooms : List ℕ) (entries : List Entry) → AreFiled slots rooms entries → AreTaken slots rooms
filed-taken slots [] entries filed = tt
filed-taken slots (r ∷ rs) [] filed = cc
filed-taken slots (r ∷ rs) (e ∷ es) filed =
    let first : in_room slots r ≡ Some e = cc in
    let rest : AreFiled slots rs es = cc in
    (subst IsSome (sym first) refl, filed-taken slots rs es rest)

-- ---- the rooms of a site

-- no room is there twice, since the codes of the entries rise
pub distinct-rooms : (slots : List (Option Entry)) (rooms : List ℕ) → AreTaken slots rooms → AreApart (entries_in slots rooms) → AreDistinct rooms
distinct-rooms slots [] taken apart = tt
distinct-rooms slots (r ∷ rs) taken apart =
    elim (slot_cases (in_room slots r)) [
      | inl vacant ↦ absurd (let z : false ≡ true = subst IsSome vacant taken.0 in cc)
      | inr some ↦
          let e = some.0 in
          let both = subst AreApart (entries-taken slots r rs e some.1) apart in (
            elim (cases_Bool (is_in rs r)) [
              | inl one ↦ let z : false ≡ true = subst IsSome both.0 (found-in slots rs r e one some.1) in cc
              | inr none ↦ none
            ],
            distinct-rooms slots rs taken.1 both.1,
          )
    ]

pub distinct-site : (slots : List (Option Entry)) (site : ℕ) (rooms : List ℕ) → IsOfSite slots site rooms → AreDistinct rooms
distinct-site slots site rooms is = distinct-rooms slots rooms is.taken (apart-rising (entries_in slots rooms) is.rising)

-- ---- what is chosen for an anchor

pub codes-chosen : (old : List Entry) (fired : Option ℕ) (es : List Entry) → codes_of (map (chosen_of old fired) es) ≡ codes_of es
codes-chosen old fired [] = refl
codes-chosen old fired (e ∷ es) =
    ap (λ n. n ∷ codes_of (map (chosen_of old fired) es)) (chosen-code old fired e) ∙ ap (λ ns. e.code ∷ ns) (codes-chosen old fired es)

pub chosen-anchored : (old : List Entry) (fired : Option ℕ) (site : ℕ) (es : List Entry)
    → AllByRecursion (λ (e : Entry). anchor_in e.code ≡ site) es → AllByRecursion (λ (e : Entry). anchor_in e.code ≡ site) (map (chosen_of old fired) es)
chosen-anchored old fired site [] all = tt
chosen-anchored old fired site (e ∷ es) all = (ap anchor_in (chosen-code old fired e) ∙ all.0, chosen-anchored old fired site es all.1)

-- no instance has the code that stands for none
anchored-real : (site : ℕ) (es : List Entry) → site < MAX_SITES → AllByRecursion (λ (e : Entry). anchor_in e.code ≡ site) es
    → AllByRecursion (λ (e : Entry). e.code ≢ NO_CODE) es
anchored-real site [] below all = tt
anchored-real site (e ∷ es) below all = (
  λ same. let z : anchor_in NO_CODE ≡ site = sym (ap anchor_in same) ∙ all.0 in let w : anchor_in NO_CODE ≡ 1048575 = refl in omega arith,
  anchored-real site es below all.1,
)

pub chosen-real : (old : List Entry) (fired : Option ℕ) (part : AnchorEntries) → IsPart part → part.anchor.0 < MAX_SITES
    → All (λ (e : Entry). e.code ≢ NO_CODE) (map (chosen_of old fired) part.entries)
chosen-real old fired part is below =
    let site = part.anchor.0 in
    All-from_recursion (λ (e : Entry). e.code ≢ NO_CODE) (map (chosen_of old fired) part.entries)
    (anchored-real site (map (chosen_of old fired) part.entries) below
    (chosen-anchored old fired site part.entries (recursion_from_All (λ (e : Entry). anchor_in e.code ≡ site) part.entries is.anchored)))
