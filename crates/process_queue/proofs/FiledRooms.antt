-- Entries that are filed in the rooms of a list, one after another.
use Rattle.std.proofs.Common.{◌≡◌, ◌≢◌, ℕ, ◌+◌, ◌<◌, ◌≤◌, suc, zero, max, true, false, List, [], ◌∷◌, ◌++◌, length, get_or, take, map, Option, None, Some, refl, sym, ap, ◌∙◌, subst, arith, inl, inr}
use Rattle.std.specs.Prelude.{IsSome}
use Rattle.std.proofs.lemmas.Bool.{cases_Bool, cases_eq}
use Rattle.std.proofs.lemmas.List.{length-append, map-append, take_all, take_more}
use Rattle.slab.specs.Slab.{Slab, Updates}
use Rattle.kmc_base.specs.declared.entry.Entry.{Entry}
use Rattle.process_queue.proofs.RoomLists.{is_in-append_left, is_in-append_none, is_in-here, is_in-there, vacant-not_among}
use Rattle.process_queue.specs.Filing.{AreDistinct, AreFiled, AreTaken, IsRefiled, in_room, is_in}

-- ---- rooms that differ

-- the room at a place is not among those before it
distinct-before : (rooms : List ℕ) (place : ℕ) → AreDistinct rooms → place < length rooms
    → is_in (take place rooms) (get_or rooms place 0) ≡ false
distinct-before [] place distinct within = absurd (omega arith)
distinct-before (r ∷ rs) zero distinct within = refl
distinct-before (r ∷ rs) (suc place) distinct within =
    is_in-there r (take place rs) (get_or rs place 0) (λ same. differs same)
    ∙ distinct-before rs place distinct.1 (omega arith)
  where
    among : (rooms : List ℕ) (at : ℕ) → at < length rooms → is_in rooms (get_or rooms at 0) ≡ true
    among [] at below = absurd (omega arith)
    among (x ∷ xs) zero below = is_in-here x xs x refl
    among (x ∷ xs) (suc at) below =
        elim (cases_eq x (get_or xs at 0)) [
          | inl same ↦ is_in-here x xs (get_or xs at 0) same
          | inr other ↦ is_in-there x xs (get_or xs at 0) other ∙ among xs at (omega arith)
        ]

    differs : r ≡ get_or rs place 0 → ⊥
    differs same =
        let one : is_in rs r ≡ true = ap (is_in rs) same ∙ among rs place (omega arith) in
        let none = distinct.0 in cc

-- the room at a place is among them
pub among-at : (rooms : List ℕ) (place : ℕ) → place < length rooms → is_in rooms (get_or rooms place 0) ≡ true
among-at [] place within = absurd (omega arith)
among-at (r ∷ rs) zero within = is_in-here r rs r refl
among-at (r ∷ rs) (suc place) within =
    elim (cases_eq r (get_or rs place 0)) [
      | inl same ↦ is_in-here r rs (get_or rs place 0) same
      | inr other ↦ is_in-there r rs (get_or rs place 0) other ∙ among-at rs place (omega arith)
    ]

distinct-more : (rooms : List ℕ) (room : ℕ) → AreDistinct rooms → is_in rooms room ≡ false → AreDistinct (rooms ++ room ∷ [])
distinct-more [] room distinct none = (refl, tt)
distinct-more (r ∷ rs) room distinct none =
    elim (cases_eq r room) [
      | inl same ↦ let one = is_in-here r rs room same in cc
      | inr other ↦ (
        is_in-append_none rs (room ∷ []) r distinct.0 ∙ is_in-there room [] r (λ same. other (sym same)),
        distinct-more rs room distinct.1 (sym (is_in-there r rs room other) ∙ none),
      )
    ]

-- ---- one room with another entry

-- rooms among which it is not
same-elsewhere : (old new : List (Option Entry)) (room : ℕ) → ((other : ℕ) → other ≢ room → in_room new other ≡ in_room old other)
    → (rooms : List ℕ) → is_in rooms room ≡ false → map (in_room new) rooms ≡ map (in_room old) rooms
same-elsewhere old new room others [] none = refl
same-elsewhere old new room others (r ∷ rs) none =
    elim (cases_eq r room) [
      | inl same ↦ let one = is_in-here r rs room same in cc
      | inr other ↦ ap (λ x. x ∷ map (in_room new) rs) (others r other)
          ∙ ap (λ xs. in_room old r ∷ xs) (same-elsewhere old new room others rs (sym (is_in-there r rs room other) ∙ none))
    ]

taken-after : (old new : List (Option Entry)) (room : ℕ) → ((other : ℕ) → other ≢ room → in_room new other ≡ in_room old other)
    → IsSome (in_room new room) → (rooms : List ℕ) → AreTaken old rooms → AreTaken new rooms
taken-after old new room others some [] taken = tt
taken-after old new room others some (r ∷ rs) taken = (
  elim (cases_eq r room) [
    | inl same ↦ subst (λ x. IsSome (in_room new x)) (sym same) some
    | inr other ↦ subst IsSome (sym (others r other)) taken.0
  ],
  taken-after old new room others some rs taken.1,
)

taken-more : (slots : List (Option Entry)) (rooms : List ℕ) (room : ℕ) → AreTaken slots rooms → IsSome (in_room slots room)
    → AreTaken slots (rooms ++ room ∷ [])
taken-more slots [] room taken some = (some, tt)
taken-more slots (r ∷ rs) room taken some = (taken.0, taken-more slots rs room taken.1 some)

-- one more room that has its entry
filed-more : (slots : List (Option Entry)) (rooms : List ℕ) (room : ℕ) (entries : List Entry) (e : Entry)
    → AreFiled slots rooms entries → in_room slots room ≡ Some e → AreFiled slots (rooms ++ room ∷ []) (entries ++ e ∷ [])
filed-more slots rooms room entries e filed is =
    map-append (in_room slots) rooms (room ∷ []) ∙ ap (λ xs. xs ++ in_room slots room ∷ []) filed
    ∙ ap (λ x. map Some entries ++ x ∷ []) is ∙ sym (map-append Some entries (e ∷ []))

-- ---- as far as a place

pub record IsPartlyFiled (old new : List (Option Entry)) (before now : List ℕ) (entries : List Entry) (place : ℕ) : Type 0 where
  pub filed : AreFiled new (take place now) (take place entries)
  pub taken : AreTaken new now
  pub distinct : AreDistinct now
  pub reached : place ≤ length now
  pub longer : length before ≤ length now
  pub few : length now ≤ max place (length before)
  pub kept : (room : ℕ) → is_in before room ≡ true → is_in now room ≡ true
  pub fresh : (room : ℕ) → is_in before room ≡ false → is_in now room ≡ true → in_room old room ≡ None
  pub others : (room : ℕ) → is_in now room ≡ false → in_room new room ≡ in_room old room

pub partly-none : (old : List (Option Entry)) (before : List ℕ) (entries : List Entry) → AreDistinct before → AreTaken old before
    → IsPartlyFiled old old before before entries 0
partly-none old before entries distinct taken = record {
  filed = refl;
  taken = taken;
  distinct = distinct;
  reached = omega arith;
  longer = omega arith;
  few = omega arith;
  kept = λ room one. one;
  fresh = λ room none one. absurd (let z : false ≡ true = sym none ∙ one in cc);
  others = λ room none. refl;
}

module _ (old : List (Option Entry)) (was new : Slab Entry) (before now : List ℕ) (entries : List Entry) (place room : ℕ) (e : Entry)
    (partly : IsPartlyFiled old was.slots before now entries place) (more : place < length entries) (entry : get_or entries place e ≡ e)
    (updates : Updates was new room (Some e)) where
  -- the room at this place has the entry now
  pub partly-replaced : place < length now → get_or now place 0 ≡ room
      → IsPartlyFiled old new.slots before now entries (place + 1)
  partly-replaced within is =
      let one : is_in now room ≡ true = ap (is_in now) (sym is) ∙ among-at now place within in
      let earlier : is_in (take place now) room ≡ false
      = ap (is_in (take place now)) (sym is) ∙ distinct-before now place partly.distinct within in
      let some : IsSome (in_room new.slots room) = subst IsSome (sym updates.changed) refl in
      let cut : take (place + 1) now ≡ take place now ++ room ∷ []
      = take_more now place 0 within ∙ ap (λ r. take place now ++ r ∷ []) is in
      let cut_entries : take (place + 1) entries ≡ take place entries ++ e ∷ []
      = take_more entries place e more ∙ ap (λ x. take place entries ++ x ∷ []) entry in
      let same = same-elsewhere was.slots new.slots room updates.others (take place now) earlier ∙ partly.filed in
      record {
        filed = ap (map (in_room new.slots)) cut
            ∙ filed-more new.slots (take place now) room (take place entries) e same updates.changed ∙ sym (ap (map Some) cut_entries);
        taken = taken-after was.slots new.slots room updates.others some now partly.taken;
        distinct = partly.distinct;
        reached = omega arith;
        longer = partly.longer;
        few = let few = partly.few in omega arith;
        kept = partly.kept;
        fresh = partly.fresh;
        others = λ other none. updates.others other (λ is_room. let two = ap (is_in now) is_room in cc) ∙ partly.others other none;
      }

  -- one more room at the end has it
  pub partly-added : length now ≤ place → in_room was.slots room ≡ None
      → IsPartlyFiled old new.slots before (now ++ room ∷ []) entries (place + 1)
  partly-added full vacant =
      let none : is_in now room ≡ false = vacant-not_among was.slots now room partly.taken vacant in
      let some : IsSome (in_room new.slots room) = subst IsSome (sym updates.changed) refl in
      let reached = partly.reached in
      let cut : take (place + 1) (now ++ room ∷ []) ≡ now ++ room ∷ []
      = take_all (place + 1) (now ++ room ∷ []) (omega (arith, length-append now (room ∷ []))) in
      let cut_entries : take (place + 1) entries ≡ take place entries ++ e ∷ []
      = take_more entries place e more ∙ ap (λ x. take place entries ++ x ∷ []) entry in
      let whole : take place now ≡ now = take_all place now (omega arith) in
      let filed : AreFiled was.slots now (take place entries) = ap (map (in_room was.slots)) (sym whole) ∙ partly.filed in
      let same = same-elsewhere was.slots new.slots room updates.others now none ∙ filed in
      record {
        filed = ap (map (in_room new.slots)) cut
            ∙ filed-more new.slots now room (take place entries) e same updates.changed ∙ sym (ap (map Some) cut_entries);
        taken = taken-more new.slots now room (taken-after was.slots new.slots room updates.others some now partly.taken) some;
        distinct = distinct-more now room partly.distinct none;
        reached = omega (arith, length-append now (room ∷ []));
        longer = let longer = partly.longer in omega (arith, length-append now (room ∷ []));
        few = omega (arith, length-append now (room ∷ []));
        kept = λ other one. is_in-append_left now (room ∷ []) other (partly.kept other one);
        fresh = λ other not_before one. elim (cases_Bool (is_in now other)) [
          | inl there ↦ partly.fresh other not_before there
          | inr not_there ↦
              let last : is_in (room ∷ []) other ≡ true = sym (is_in-append_none now (room ∷ []) other not_there) ∙ one in
              elim (cases_eq room other) [
                | inl same ↦ sym (partly.others other not_there) ∙ ap (in_room was.slots) (sym same) ∙ vacant
                | inr differ ↦ let never = is_in-there room [] other differ in cc
              ]
        ];
        others = λ other not_one. elim (cases_Bool (is_in now other)) [
          | inl there ↦ let one = is_in-append_left now (room ∷ []) other there in cc
          | inr not_there ↦ updates.others other (λ same.
              let last = is_in-append_none now (room ∷ []) other not_there in
              let here = is_in-here room [] other (sym same) in cc) ∙ partly.others other not_there
        ];
      }

-- all of them
pub all-filed : (old new : List (Option Entry)) (before now : List ℕ) (entries : List Entry) (place : ℕ)
    → IsPartlyFiled old new before now entries place → length entries ≤ place → length before ≤ length entries → place ≤ length entries
    → IsRefiled old new before now entries
all-filed old new before now entries place partly all fits up = record {
  filed =
      let few = partly.few in
      ap (map (in_room new)) (sym (take_all place now (omega arith))) ∙ partly.filed ∙ ap (map Some) (take_all place entries all);
  gone = λ room one none. absurd (let two = partly.kept room one in let z : false ≡ true = sym none ∙ two in cc);
  fresh = partly.fresh;
  others = λ room none also. partly.others room also;
}
