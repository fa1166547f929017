-- What the entries of an anchor become, one fresh entry after another.
use Rattle.std.proofs.Common.{◌≡◌, ◌≢◌, ℕ, ◌<◌, ◌≤◌, List, [], ◌∷◌, ◌++◌, length, get_or, map, Option, None, Some, refl, ap, ◌∙◌, subst, arith}
use Rattle.std.specs.Prelude.{IfSome, IsSomeAnd, slice_get}
use Rattle.std.specs.List.{AllByRecursion, cons_option}
use Rattle.std.proofs.lemmas.List.{append_assoc}
use Rattle.kmc_base.proofs.EntryLists.{entry_at-behind}
use Rattle.process_queue.proofs.EntrySearch.{entry_at-here, entry_at-there}
use Rattle.kmc_base.specs.Entries.{IsRising, chosen as chosen_of, codes_of, entry_at}
use Rattle.kmc_base.specs.declared.entry.Entry.{Entry}
use Rattle.process_queue.specs.Filing.{entries_in, in_room}

-- the first room has an entry with this code or a greater one
abbrev pub HasReached : List (Option Entry) → List ℕ → ℕ → Type 0
HasReached slots rooms code = IfSome (slice_get rooms 0) (λ room. IsSomeAnd (in_room slots room) (λ e. code ≤ e.code))

-- so there is one
pub not_vacant : (slots : List (Option Entry)) (rooms : List ℕ) (code : ℕ) → HasReached slots rooms code → 1 ≤ length rooms
    → in_room slots (get_or rooms 0 0) ≡ None → ⊥
not_vacant slots [] code reached some vacant = omega arith
not_vacant slots (r ∷ rs) code reached some vacant = subst (λ slot. IsSomeAnd slot (λ (e : Entry). code ≤ e.code)) vacant reached

-- the entry of a first room
entries-first : (slots : List (Option Entry)) (r : ℕ) (rs : List ℕ) (e : Entry) → in_room slots r ≡ Some e
    → entries_in slots (r ∷ rs) ≡ e ∷ entries_in slots rs
entries-first slots r rs e is = ap (λ slot. cons_option slot (entries_in slots rs)) is

pub first-has : (slots : List (Option Entry)) (rooms : List ℕ) (code : ℕ) (e : Entry) → 1 ≤ length rooms
    → in_room slots (get_or rooms 0 0) ≡ Some e → e.code ≡ code → entry_at code (entries_in slots rooms) ≡ Some e
first-has slots [] code e some is same = absurd (omega arith)
first-has slots (r ∷ rs) code e some is same =
    ap (entry_at code) (entries-first slots r rs e is) ∙ entry_at-here code e (entries_in slots rs) same

-- none has the code, if the first has another one
pub first-differs : (slots : List (Option Entry)) (rooms : List ℕ) (code : ℕ) (e : Entry) → IsRising (codes_of (entries_in slots rooms))
    → HasReached slots rooms code → 1 ≤ length rooms → in_room slots (get_or rooms 0 0) ≡ Some e → e.code ≢ code
    → entry_at code (entries_in slots rooms) ≡ None
first-differs slots [] code e rising reached some is other = refl
first-differs slots (r ∷ rs) code e rising reached some is other =
    let split = entries-first slots r rs e is in
    let high : code ≤ e.code = subst (λ slot. IsSomeAnd slot (λ (x : Entry). code ≤ x.code)) is reached in
    let differ : e.code ≢ code = other in
    let low : code < e.code = omega arith in
    ap (entry_at code) split ∙ entry_at-there code e (entries_in slots rs) other
    ∙ entry_at-behind code e (entries_in slots rs) low (subst (λ es. IsRising (codes_of es)) split rising)

-- what is found from some code on is found of all greater codes
pub found-later : (all rest next : List Entry) (first : ℕ) (fresh : List Entry) → AllByRecursion (λ n. first < n) (codes_of fresh)
    → ((code : ℕ) → first ≤ code → entry_at code next ≡ entry_at code rest)
    → AllByRecursion (λ (e : Entry). entry_at e.code rest ≡ entry_at e.code all) fresh
    → AllByRecursion (λ (e : Entry). entry_at e.code next ≡ entry_at e.code all) fresh
found-later all rest next first [] above same found = tt
found-later all rest next first (e ∷ es) above same found =
    (same e.code (omega (arith, above.0)) ∙ found.0, found-later all rest next first es above.1 same found.1)

-- one more is chosen
pub chosen-more : (old : List Entry) (fired : Option ℕ) (done now whole : List Entry) (e fresh : Entry) (rest : List Entry)
    → now ≡ done ++ e ∷ [] → e ≡ chosen_of old fired fresh → done ++ map (chosen_of old fired) (fresh ∷ rest) ≡ whole
    → now ++ map (chosen_of old fired) rest ≡ whole
chosen-more old fired done now whole e fresh rest more is all =
    ap (λ es. es ++ map (chosen_of old fired) rest) more ∙ append_assoc done (e ∷ []) (map (chosen_of old fired) rest)
    ∙ ap (λ x. done ++ (x ∷ map (chosen_of old fired) rest)) is ∙ all

pub found-everywhere : (all : List Entry) (fresh : List Entry) → AllByRecursion (λ (e : Entry). entry_at e.code all ≡ entry_at e.code all) fresh
found-everywhere all [] = tt
found-everywhere all (e ∷ es) = (refl, found-everywhere all es)
