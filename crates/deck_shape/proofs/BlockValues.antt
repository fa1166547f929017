-- what holds of the values that a block states, by what holds of the values of its lines
use Rattle.std.proofs.Common.{ℕ, IfOk, List, [], ◌∷◌, Option, None, Some, Result, Ok}
use Rattle.std.specs.List.{find}
use Rattle.std.specs.Option.{option_map_or}
use Rattle.deck_words.proofs.HeldValues.{at_line-holds}
use Rattle.deck_words.specs.declared.fault.LineFault.{LineFault}
use Rattle.deck_words.specs.declared.keyword.Keyword.{Keyword}
use Rattle.deck_shape.specs.BlockValues.{line_value_or, missing_word, one, required, value_on, value_or}
use Rattle.deck_shape.specs.Blocks.{BlockLines, ItemLines, has_keyword}
use Rattle.deck_shape.specs.WordLines.{words_of}

one-holds : {X : Type 0} (P : X → Type 0) (read : List ℕ → Result X ℕ) (words : List (List ℕ))
    → ((word : List ℕ) → IfOk (read word) P) → IfOk (one read words) P
one-holds P read [] p = tt
one-holds P read (word ∷ []) p = p word
one-holds P read (word ∷ next ∷ words) p = tt

item-holds : {X : Type 0} (P : X → Type 0) (absent : Result X LineFault) (read : ItemLines → Result X LineFault) (item : Option ItemLines)
    → IfOk absent P → ((it : ItemLines) → IfOk (read it) P) → IfOk (option_map_or read item absent) P
item-holds P absent read None p q = p
item-holds P absent read (Some item) p q = q item

-- what holds of the value of each line, and of that of none
pub line_value_or-holds : {X : Type 0} (P : X → Type 0) (absent : Result X LineFault) (read : ItemLines → Result X LineFault)
    (keyword : Keyword) (items : List ItemLines) → IfOk absent P → ((item : ItemLines) → IfOk (read item) P)
    → IfOk (line_value_or absent read keyword items) P
line_value_or-holds P absent read keyword items p q = item-holds P absent read (find (has_keyword keyword) items) p q

pub value_or-holds : {X : Type 0} (P : X → Type 0) (absent : Result X LineFault) (read : List (List ℕ) → Result X ℕ)
    (keyword : Keyword) (items : List ItemLines) → IfOk absent P → ((words : List (List ℕ)) → IfOk (read words) P)
    → IfOk (value_or absent read keyword items) P
value_or-holds P absent read keyword items p q =
    line_value_or-holds P absent _ keyword items p (λ item. at_line-holds P item.line.number (read (words_of item)) (q (words_of item)))

-- the same of the one word behind a keyword
pub word-holds : {X : Type 0} (P : X → Type 0) (absent : Result X LineFault) (read : List ℕ → Result X ℕ)
    (keyword : Keyword) (items : List ItemLines) → IfOk absent P → ((word : List ℕ) → IfOk (read word) P)
    → IfOk (value_or absent (one read) keyword items) P
word-holds P absent read keyword items p q = value_or-holds P absent (one read) keyword items p (λ words. one-holds P read words q)

pub value_on-holds : {X : Type 0} (P : X → Type 0) (read : List ℕ → Result X ℕ) (item : ItemLines)
    → ((word : List ℕ) → IfOk (read word) P) → IfOk (value_on read item) P
value_on-holds P read item p = at_line-holds P item.line.number (one read (words_of item)) (one-holds P read (words_of item) p)

-- what holds of the value of each line holds of that of a word that the block must have
pub required-holds : {X : Type 0} (P : X → Type 0) (keyword : Keyword) (block : BlockLines) (read : ItemLines → Result X LineFault)
    → ((item : ItemLines) → IfOk (read item) P) → IfOk (required keyword block read) P
required-holds P keyword block read q = line_value_or-holds P (missing_word block.end_line) read keyword block.items tt q
