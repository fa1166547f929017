-- Lists of rooms: which rooms are among them, and what is in them.
use Rattle.std.proofs.Common.{◌≡◌, ◌≢◌, ℕ, suc, zero, true, false, cond, List, [], ◌∷◌, ◌++◌, take, drop, Option, None, refl, sym, ap, ◌∙◌, subst, inl, inr}
use Rattle.std.specs.Prelude.{IsSome}
use Rattle.std.proofs.lemmas.Bool.{cases_Bool, cases_eq, eq-eqb, ne_eqb}
use Rattle.kmc_base.specs.declared.entry.Entry.{Entry}
use Rattle.process_queue.specs.Filing.{AreDistinct, AreTaken, in_room, is_in}

-- ---- which rooms are among them

pub is_in-here : (first : ℕ) (rest : List ℕ) (room : ℕ) → first ≡ room → is_in (first ∷ rest) room ≡ true
is_in-here first rest room same = let t = eq-eqb first room same in rw t refl

pub is_in-there : (first : ℕ) (rest : List ℕ) (room : ℕ) → first ≢ room → is_in (first ∷ rest) room ≡ is_in rest room
is_in-there first rest room other = let f = ne_eqb first room other in rw f refl

pub is_in-append_left : (xs ys : List ℕ) (room : ℕ) → is_in xs room ≡ true → is_in (xs ++ ys) room ≡ true
is_in-append_left [] ys room one = cc
is_in-append_left (x ∷ xs) ys room one =
    elim (cases_eq x room) [
      | inl same ↦ is_in-here x (xs ++ ys) room same
      | inr other ↦ is_in-there x (xs ++ ys) room other ∙ is_in-append_left xs ys room (sym (is_in-there x xs room other) ∙ one)
    ]

pub is_in-append_none : (xs ys : List ℕ) (room : ℕ) → is_in xs room ≡ false → is_in (xs ++ ys) room ≡ is_in ys room
is_in-append_none [] ys room none = refl
is_in-append_none (x ∷ xs) ys room none =
    elim (cases_eq x room) [
      | inl same ↦ let here = is_in-here x xs room same in cc
      | inr other ↦ is_in-there x (xs ++ ys) room other ∙ is_in-append_none xs ys room (sym (is_in-there x xs room other) ∙ none)
    ]

-- a room that has an entry, or none, where all of them have one
pub taken-among : (slots : List (Option Entry)) (rooms : List ℕ) (room : ℕ) → AreTaken slots rooms → is_in rooms room ≡ true
    → IsSome (in_room slots room)
taken-among slots [] room taken one = cc
taken-among slots (r ∷ rs) room taken one =
    elim (cases_eq r room) [
      | inl same ↦ subst (λ x. IsSome (in_room slots x)) same taken.0
      | inr other ↦ taken-among slots rs room taken.1 (sym (is_in-there r rs room other) ∙ one)
    ]

-- a room with no entry is not among them
pub vacant-not_among : (slots : List (Option Entry)) (rooms : List ℕ) (room : ℕ) → AreTaken slots rooms → in_room slots room ≡ None
    → is_in rooms room ≡ false
vacant-not_among slots rooms room taken vacant =
    elim (cases_Bool (is_in rooms room)) [
      | inl one ↦ let never : false ≡ true = subst IsSome vacant (taken-among slots rooms room taken one) in cc
      | inr none ↦ none
    ]

-- rooms that keep what they have
pub taken-kept : (old new : List (Option Entry)) (rooms : List ℕ) → AreTaken old rooms
    → ((room : ℕ) → is_in rooms room ≡ true → in_room new room ≡ in_room old room) → AreTaken new rooms
taken-kept old new [] taken same = tt
taken-kept old new (r ∷ rs) taken same = (
  subst IsSome (sym (same r (is_in-here r rs r refl))) taken.0,
  taken-kept old new rs taken.1 (λ room one. same room (more room one)),
)
  where
    more : (room : ℕ) → is_in rs room ≡ true → is_in (r ∷ rs) room ≡ true
    more room one = elim (cases_eq r room) [
      | inl same ↦ is_in-here r rs room same
      | inr other ↦ is_in-there r rs room other ∙ one
    ]

-- ---- rooms that are emptied one after another

-- what is in a room once some rooms are emptied
abbrev pub emptied : List ℕ → ℕ → Option Entry → Option Entry
emptied rooms room was = cond (is_in rooms room) None was

emptied-one : (rooms : List ℕ) (room : ℕ) → emptied rooms room None ≡ None
emptied-one rooms room = elim (cases_Bool (is_in rooms room)) [
  | inl one ↦ rw one refl
  | inr none ↦ rw none refl
]

-- the first of them is empty already
pub emptied-rest : (old new : List (Option Entry)) (first : ℕ) (rest : List ℕ) → in_room new first ≡ None
    → ((room : ℕ) → room ≢ first → in_room new room ≡ in_room old room) → (room : ℕ)
    → emptied rest room (in_room new room) ≡ emptied (first ∷ rest) room (in_room old room)
emptied-rest old new first rest gone others room =
    elim (cases_eq first room) [
      | inl same ↦ ap (emptied rest room) (ap (in_room new) (sym same) ∙ gone) ∙ emptied-one rest room
          ∙ sym (ap (λ one. cond one None (in_room old room)) (is_in-here first rest room same))
      | inr other ↦ ap (emptied rest room) (others room (λ same. other (sym same)))
          ∙ sym (ap (λ one. cond one None (in_room old room)) (is_in-there first rest room other))
    ]

-- ---- the first and the last of some rooms

pub is_in-take_none : (rooms : List ℕ) (count room : ℕ) → is_in rooms room ≡ false → is_in (take count rooms) room ≡ false
is_in-take_none [] zero room none = refl
is_in-take_none [] (suc count) room none = refl
is_in-take_none (r ∷ rs) zero room none = refl
is_in-take_none (r ∷ rs) (suc count) room none =
    elim (cases_eq r room) [
      | inl same ↦ let here = is_in-here r rs room same in cc
      | inr other ↦ is_in-there r (take count rs) room other ∙ is_in-take_none rs count room (sym (is_in-there r rs room other) ∙ none)
    ]

pub is_in-drop_none : (rooms : List ℕ) (count room : ℕ) → is_in rooms room ≡ false → is_in (drop count rooms) room ≡ false
is_in-drop_none [] zero room none = refl
is_in-drop_none [] (suc count) room none = refl
is_in-drop_none (r ∷ rs) zero room none = none
is_in-drop_none (r ∷ rs) (suc count) room none =
    elim (cases_eq r room) [
      | inl same ↦ let here = is_in-here r rs room same in cc
      | inr other ↦ is_in-drop_none rs count room (sym (is_in-there r rs room other) ∙ none)
    ]

-- a room that is not among the first ones is among the last ones
pub is_in-parts : (rooms : List ℕ) (count room : ℕ) → is_in rooms room ≡ true → is_in (take count rooms) room ≡ false
    → is_in (drop count rooms) room ≡ true
is_in-parts [] zero room one none = one
is_in-parts [] (suc count) room one none = one
is_in-parts (r ∷ rs) zero room one none = one
is_in-parts (r ∷ rs) (suc count) room one none =
    elim (cases_eq r room) [
      | inl same ↦ let here = is_in-here r (take count rs) room same in cc
      | inr other ↦ is_in-parts rs count room (sym (is_in-there r rs room other) ∙ one)
          (sym (is_in-there r (take count rs) room other) ∙ none)
    ]

pub distinct-take : (rooms : List ℕ) (count : ℕ) → AreDistinct rooms → AreDistinct (take count rooms)
distinct-take [] zero distinct = tt
distinct-take [] (suc count) distinct = tt
distinct-take (r ∷ rs) zero distinct = tt
distinct-take (r ∷ rs) (suc count) distinct = (is_in-take_none rs count r distinct.0, distinct-take rs count distinct.1)

pub distinct-drop : (rooms : List ℕ) (count : ℕ) → AreDistinct rooms → AreDistinct (drop count rooms)
distinct-drop [] zero distinct = tt
distinct-drop [] (suc count) distinct = tt
distinct-drop (r ∷ rs) zero distinct = distinct
distinct-drop (r ∷ rs) (suc count) distinct = distinct-drop rs count distinct.1

-- of distinct rooms, the first ones are not among the last ones
pub is_in-first_only : (rooms : List ℕ) (count room : ℕ) → AreDistinct rooms → is_in (take count rooms) room ≡ true
    → is_in (drop count rooms) room ≡ false
is_in-first_only [] zero room distinct one = refl
is_in-first_only [] (suc count) room distinct one = refl
is_in-first_only (r ∷ rs) zero room distinct one = cc
is_in-first_only (r ∷ rs) (suc count) room distinct one =
    elim (cases_eq r room) [
      | inl same ↦ subst (λ x. is_in (drop count rs) x ≡ false) same (is_in-drop_none rs count r distinct.0)
      | inr other ↦ is_in-first_only rs count room distinct.1 (sym (is_in-there r (take count rs) room other) ∙ one)
    ]

pub taken-take : (slots : List (Option Entry)) (rooms : List ℕ) (count : ℕ) → AreTaken slots rooms → AreTaken slots (take count rooms)
taken-take slots [] zero taken = tt
taken-take slots [] (suc count) taken = tt
taken-take slots (r ∷ rs) zero taken = tt
taken-take slots (r ∷ rs) (suc count) taken = (taken.0, taken-take slots rs count taken.1)
