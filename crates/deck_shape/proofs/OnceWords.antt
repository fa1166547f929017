-- a word that a block may have once is once among its words
use Rattle.std.proofs.Common.{◌≡◌, ◌∙◌, ℕ, ◌+◌, ◌≤◌, ◌&&◌, Bool, true, false, List, [], ◌∷◌, ◌++◌, Some, cond, find}
use Rattle.std.proofs.Common.{ap, arith, refl, subst, sym, inl, inr, eqb}
use Rattle.std.specs.List.{count_by, list_any}
use Rattle.std.proofs.lemmas.Bool.{and_parts, cases_Bool, eqb-true, false≢true, or_parts}
use Rattle.std.proofs.lemmas.List.Sums.{sum_by-append, sum_by-cons}
use Rattle.dec_text.specs.Lines.{WordLine}
use Rattle.deck_shape.specs.Blocks.{ItemLines, has_keyword, has_word_of, stands, with_row}
use Rattle.deck_shape.specs.LineFaults.{is_repeated}
use Rattle.deck_shape.specs.LineWords.{head_of}
use Rattle.deck_shape.specs.WholeBlocks.{IsOnce}
use Rattle.deck_words.specs.Keywords.{spelling}
use Rattle.deck_words.specs.Tables.{is_spelled, rule_for, rules_of, same_word}
use Rattle.deck_words.specs.declared.keyword.Keyword.{Keyword}
use Rattle.deck_words.specs.declared.table.BlockForm.{BlockForm}
use Rattle.deck_words.specs.declared.table.Rule.{Rule}

-- words with the same bytes are equal
same_is_equal : (a b : List ℕ) → same_word a b ≡ true → a ≡ b
same_is_equal [] [] is = refl
same_is_equal [] (y ∷ b) is = absurd (false≢true is)
same_is_equal (x ∷ a) [] is = absurd (false≢true is)
same_is_equal (x ∷ a) (y ∷ b) is =
    let parts = and_parts (eqb x y) (same_word a b) is in
    ap (λ n. n ∷ a) (eqb-true x y parts.0) ∙ ap (λ bs. y ∷ bs) (same_is_equal a b parts.1)

-- what a search finds passes its test
found_passes : {X : Type 0} (p : X → Bool) (xs : List X) (x : X) → find p xs ≡ Some x → p x ≡ true
found_passes p [] x is = cc
found_passes p (y ∷ ys) x is =
    elim (cases_Bool (p y)) [
      | inl passes ↦
          let e : Some y ≡ Some x = sym (ap (λ b. cond b (Some y) (find p ys)) passes) ∙ is in
          let same : y ≡ x = cc in
          subst (λ z. p z ≡ true) same passes
      | inr fails ↦ found_passes p ys x (sym (ap (λ b. cond b (Some y) (find p ys)) fails) ∙ is)
    ]

-- nothing that passes is not counted
count_none : {X : Type 0} (p : X → Bool) (xs : List X) → list_any p xs ≡ false → count_by p xs ≡ 0
count_none p [] none = refl
count_none p (x ∷ xs) none =
    let parts = or_parts (p x) (list_any p xs) none in
    sum_by-cons (λ y. cond (p y) 1 0) x xs
    ∙ ap (λ b. cond b 1 0 + count_by p xs) parts.0
    ∙ ap (λ n. 0 + n) (count_none p xs parts.1)

plus_none : (n : ℕ) (is : Bool) → n + (cond is 1 0 + 0) ≡ n + cond is 1 0
plus_none n true = refl
plus_none n false = refl

count_pushed : {X : Type 0} (p : X → Bool) (xs : List X) (x : X) (is : Bool) → p x ≡ is
    → count_by p (xs ++ x ∷ []) ≡ count_by p xs + cond is 1 0
count_pushed p xs x is passes =
    sum_by-append (λ y. cond (p y) 1 0) xs (x ∷ [])
    ∙ ap (λ n. count_by p xs + n) (sum_by-cons (λ y. cond (p y) 1 0) x [] ∙ ap (λ b. cond b 1 0 + 0) passes)
    ∙ plus_none (count_by p xs) is

not_one : (a b : Bool) → a ≡ true → (a && b) ≡ false → b ≡ false
not_one true b is none = none
not_one false b is none = absurd (false≢true is)

-- a word that is not repeated is not there, under any spelling of its keyword
not_there : (form : BlockForm) (items : List ItemLines) (head : List ℕ) (rule : Rule) (keyword : Keyword) → rule_for form head ≡ Some rule
    → spelling keyword ≡ head → rule.is_once ≡ true → is_repeated items rule ≡ false → stands keyword items ≡ false
not_there form items head rule keyword found spelled once new =
    let same : spelling rule.keyword ≡ spelling keyword =
    same_is_equal (spelling rule.keyword) head (found_passes (λ r. is_spelled r.keyword head) (rules_of form) rule found) ∙ sym spelled in
    ap (λ word. list_any (λ item. same_word word (head_of item.line)) items) (sym same)
    ∙ (or_parts (stands rule.keyword items) _ (not_one rule.is_once (has_word_of rule items) once new)).0

-- one word line more, whose word is not repeated
pub once_pushed : (form : BlockForm) (items : List ItemLines) (item : ItemLines) (rule : Rule) → rule_for form (head_of item.line) ≡ Some rule
    → is_repeated items rule ≡ false → ((keyword : Keyword) → IsOnce form items keyword) → (keyword : Keyword) → IsOnce form (items ++ item ∷
    []) keyword
once_pushed form items item rule found new before keyword other has once =
    elim (cases_Bool (has_keyword keyword item)) [
      | inr differs ↦ subst (λ n. n ≤ 1) (sym (count_pushed (has_keyword keyword) items item false differs))
          (omega (arith, before keyword other has once))
      | inl spelled ↦
          let head : spelling keyword ≡ head_of item.line = same_is_equal (spelling keyword) (head_of item.line) spelled in
          let both : Some other ≡ Some rule = sym has ∙ ap (rule_for form) head ∙ found in
          let same : other ≡ rule = cc in
          let none = count_none (has_keyword keyword) items
          (not_there form items (head_of item.line) rule keyword found head (subst (λ r. r.is_once ≡ true) same once) new) in
          subst (λ n. n ≤ 1) (sym (count_pushed (has_keyword keyword) items item true spelled)) (omega (arith, none))
    ]

-- a row more changes no word
count_with_row : (keyword : Keyword) (row : WordLine) (items : List ItemLines)
    → count_by (has_keyword keyword) (with_row row items) ≡ count_by (has_keyword keyword) items
count_with_row keyword row [] = refl
count_with_row keyword row (item ∷ []) = refl
count_with_row keyword row (item ∷ next ∷ items) =
    sum_by-cons (λ y. cond (has_keyword keyword y) 1 0) item (with_row row (next ∷ items))
    ∙ ap (λ n. cond (has_keyword keyword item) 1 0 + n) (count_with_row keyword row (next ∷ items))
    ∙ sym (sum_by-cons (λ y. cond (has_keyword keyword y) 1 0) item (next ∷ items))

pub once_with_row : (form : BlockForm) (row : WordLine) (items : List ItemLines) → ((keyword : Keyword) → IsOnce form items keyword)
    → (keyword : Keyword) → IsOnce form (with_row row items) keyword
once_with_row form row items before keyword rule has once =
    subst (λ n. n ≤ 1) (sym (count_with_row keyword row items)) (before keyword rule has once)
