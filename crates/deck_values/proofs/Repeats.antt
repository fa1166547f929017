-- names that are looked up among those before them
use Rattle.std.proofs.Common.{◌≡◌, ◌∙◌, sym, ap, ℕ, ◌&&◌, ◌||◌, ◌+◌, ◌<◌, Bool, true, false, List, [], ◌∷◌, ◌++◌, add-one, cond, Bor}
use Rattle.std.proofs.Common.{drop, get_or, length, map, nat_cmp, eqb, take, inl, inr, refl, arith}
use Rattle.std.proofs.Math.Seq.{take-suc}
use Rattle.std.specs.BTreeMap.{is_at}
use Rattle.std.specs.BTreeSet.{BTreeSet, contains}
use Rattle.std.specs.Cmp.Lexicographic.{slice_cmp}
use Rattle.std.specs.List.{list_any}
use Rattle.std.specs.Ordering.{ordering_then, is_eq}
use Rattle.std.specs.declared.cmp.Ordering.{Ordering}
use Rattle.std.specs.declared.cmp.Ordering.TheVariants.{Less, Equal, Greater}
use Rattle.std.proofs.lemmas.Bool.{or_cases, or_left, or_right}
use Rattle.std.proofs.lemmas.Bool.Decides.{nat_tests}
use Rattle.std.proofs.lemmas.List.{map-append, take-append-drop}
use Rattle.deck_values.specs.Names.{names_repeat}
use Rattle.deck_words.specs.Tables.{same_word}

-- the order of the words that were seen
abbrev pub word_cmp : Bor (List ℕ) → Bor (List ℕ) → Ordering
word_cmp a b = slice_cmp nat_cmp a.now b.now

first_bytes : (o : Ordering) (b : Bool) (rest : Ordering) (others : Bool) → is_eq o ≡ b → is_eq rest ≡ others
    → is_eq (ordering_then o rest) ≡ (b && others)
first_bytes Less b rest others is same = ap (λ t. t && others) is
first_bytes Equal b rest others is same = same ∙ ap (λ t. t && others) is
first_bytes Greater b rest others is same = ap (λ t. t && others) is

-- words that are equal by their order are the same
pub same_key : (a b : List ℕ) → is_eq (slice_cmp nat_cmp a b) ≡ same_word a b
same_key [] [] = refl
same_key [] (y ∷ b) = refl
same_key (x ∷ a) [] = refl
same_key (x ∷ a) (y ∷ b) = first_bytes (nat_cmp x y) (eqb x y) (slice_cmp nat_cmp a b) (same_word a b) (grind (arith, nat_tests)) (same_key a b)

or_false : (a : Bool) → (a || false) ≡ a
or_false true = refl
or_false false = refl

or_last : (a b : Bool) → cond a true b ≡ (b || a)
or_last true true = refl
or_last true false = refl
or_last false true = refl
or_last false false = refl

crossed : (a b c d : Bool) → ((a || b) || (c || d)) ≡ ((a || c) || (b || d))
crossed true b c d = refl
crossed false true true d = refl
crossed false true false d = refl
crossed false false c d = refl

any_pushed : {X : Type 0} (p : X → Bool) (xs : List X) (x : X) → list_any p (xs ++ x ∷ []) ≡ (list_any p xs || p x)
any_pushed p [] x = or_false (p x)
any_pushed p (y ∷ xs) x =
    elim (p y) as (λ b. (b || list_any p (xs ++ x ∷ [])) ≡ ((b || list_any p xs) || p x))
    [ true ↦ refl | false ↦ any_pushed p xs x ]

any_further : {X : Type 0} (p : X → Bool) (xs more : List X) → list_any p xs ≡ true → list_any p (xs ++ more) ≡ true
any_further p [] more is = absurd (cc)
any_further p (x ∷ xs) more is =
    elim (or_cases (p x) (list_any p xs) is)
    [ inl here ↦ or_left _ _ here | inr later ↦ or_right _ _ (any_further p xs more later) ]

-- the set has these words
abbrev pub HasSeen : List (List ℕ) → BTreeSet (Bor (List ℕ)) → Type 0
HasSeen words seen = (q : Bor (List ℕ)) → contains word_cmp seen q ≡ list_any (λ word. same_word word q.now) words

pub seen_more : (words : List (List ℕ)) (word : Bor (List ℕ)) (old new : BTreeSet (Bor (List ℕ)))
    → ((q : Bor (List ℕ)) → contains word_cmp new q ≡ cond (is_at (word_cmp word) q) true (contains word_cmp old q))
    → HasSeen words old → HasSeen (words ++ word.now ∷ []) new
seen_more words word old new updates seen q =
    updates q
    ∙ ap (λ b. cond b true (contains word_cmp old q)) (same_key word.now q.now)
    ∙ ap (cond (same_word word.now q.now) true) (seen q)
    ∙ or_last (same_word word.now q.now) (list_any (λ w. same_word w q.now) words)
    ∙ sym (any_pushed (λ w. same_word w q.now) words word.now)

-- names repeat where those before do, or the last is among them
pub repeat_pushed : (words : List (List ℕ)) (word : List ℕ)
    → names_repeat (words ++ word ∷ []) ≡ (names_repeat words || list_any (λ w. same_word w word) words)
repeat_pushed [] word = refl
repeat_pushed (w ∷ words) word =
    ap (λ b. b || names_repeat (words ++ word ∷ [])) (any_pushed (same_word w) words word)
    ∙ ap (λ b. (list_any (same_word w) words || same_word w word) || b) (repeat_pushed words word)
    ∙ crossed (list_any (same_word w) words) (same_word w word) (names_repeat words) (list_any (λ v. same_word v word) words)

-- and still do where more follow
pub repeat_further : (words more : List (List ℕ)) → names_repeat words ≡ true → names_repeat (words ++ more) ≡ true
repeat_further [] more is = absurd (cc)
repeat_further (w ∷ words) more is =
    elim (or_cases (list_any (same_word w) words) (names_repeat words) is) [
      | inl here ↦ or_left _ _ (any_further (same_word w) words more here)
      | inr later ↦ or_right _ _ (repeat_further words more later)
    ]

-- one name more
module _ {X : Type 0} (h : X → List ℕ) (names : List X) (i : ℕ) (d : X) (word : List ℕ) (here : i < length names)
    (is : word ≡ h (get_or names i d)) where
  pub next_name : map h (take (i + 1) names) ≡ map h (take i names) ++ word ∷ []
  next_name =
      ap (λ j. map h (take j names)) (add-one i)
      ∙ ap (map h) (take-suc names i d here)
      ∙ map-append h (take i names) (get_or names i d ∷ [])
      ∙ ap (λ w. map h (take i names) ++ w ∷ []) (sym is)

  last_name : names_repeat (map h (take (i + 1) names))
      ≡ (names_repeat (map h (take i names)) || list_any (λ w. same_word w word) (map h (take i names)))
  last_name = ap names_repeat next_name ∙ repeat_pushed (map h (take i names)) word

  pub repeat_found : list_any (λ w. same_word w word) (map h (take i names)) ≡ true → names_repeat (map h names) ≡ true
  repeat_found among =
      ap (λ xs. names_repeat (map h xs)) (sym (take-append-drop (i + 1) names))
      ∙ ap names_repeat (map-append h (take (i + 1) names) (drop (i + 1) names))
      ∙ repeat_further (map h (take (i + 1) names)) (map h (drop (i + 1) names)) (last_name ∙ or_right _ _ among)

  pub repeat_passed : names_repeat (map h (take i names)) ≡ false
      → list_any (λ w. same_word w word) (map h (take i names)) ≡ false
      → names_repeat (map h (take (i + 1) names)) ≡ false
  repeat_passed none new = last_name ∙ ap (λ b. b || list_any (λ w. same_word w word) (map h (take i names))) none ∙ new
