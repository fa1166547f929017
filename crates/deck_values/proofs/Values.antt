-- what holds of the values of readings, by what holds of the values of their parts
use Rattle.std.proofs.Common.{◌≡◌, ◌==◌, ap, suc, refl, subst, ◌∙◌, arith, ℕ, Bool, true, false}
use Rattle.std.proofs.Common.{not, List, [], ◌∷◌, length, map, nat_lt, IfOk, Option, None, Some}
use Rattle.std.proofs.Common.{Result, Ok, Err}
use Rattle.std.specs.List.{AllByRecursion, list_any}
use Rattle.std.specs.Result.{result_err, result_ok}
use Rattle.std.proofs.lemmas.Bool.Decides.{nat_tests}
use Rattle.std.proofs.lemmas.List.{length-map}
use Rattle.std.proofs.lemmas.Result.{IfOk-weaker}
use Rattle.dec_text.specs.Lines.{Run}
use Rattle.deck_words.proofs.HeldValues.{at_line-holds, both-holds, none-holds, value_map-holds, with_fault-holds}
use Rattle.deck_words.specs.Faults.{all_of, at_line, both, value_map, with_fault}
use Rattle.deck_words.specs.declared.fault.LineFault.{LineFault}
use Rattle.deck_words.specs.declared.kind.TheConstants.{BAD_NAME, LIST_LENGTH, REPEATED_NAME}
use Rattle.deck_values.specs.Lists.{absent_list, fault_if, has_members, has_other_length, list_on}
use Rattle.deck_values.specs.Names.{bytes_of, is_bad_name, names_on, names_repeat, repeat_fault, species_on, words_on}

-- a value that no fault was found beside
pub unless-holds : {X : Type 0} (P : X → Type 0) (holds : Bool) (line kind : ℕ) (r : Result X LineFault)
    → (holds ≡ false → IfOk r P) → IfOk (with_fault (fault_if holds line kind) r) P
unless-holds P true line kind (Ok x) p = tt
unless-holds P true line kind (Err g) p = tt
unless-holds P false line kind r p = p refl

-- what is read by a number that has no fault
pub stated-holds : {X Y : Type 0} (P : X → Type 0) (Q : Y → Type 0) (r : Result X LineFault) (next : Option X → Result Y LineFault)
    → IfOk r P → ((x : X) → P x → IfOk (next (Some x)) Q) → IfOk (with_fault (result_err r) (next (result_ok r))) Q
stated-holds P Q (Ok x) next p q = q x p
stated-holds P Q (Err f) next p q = none-holds Q f (next None)

-- so many members, of each of which P holds
abbrev pub AreSo : {X : Type 0} → (X → Type 0) → ℕ → List X → Type 0
AreSo P count members = (length members ≡ count) × AllByRecursion P members

all_of-holds : {X : Type 0} (P : X → Type 0) (read : List ℕ → Result X ℕ) (line : ℕ) (words : List (List ℕ))
    → ((word : List ℕ) → IfOk (read word) P)
    → IfOk (all_of (map (λ word. at_line line (read word)) words)) (AreSo P (length words))
all_of-holds P read line [] p = (refl, tt)
all_of-holds P read line (word ∷ words) p =
    let first = at_line line (read word) in
    let rest = all_of (map (λ word. at_line line (read word)) words) in
    value_map-holds (AreSo P (length (word ∷ words))) (λ found. found.0 ∷ found.1) (both first rest)
    (IfOk-weaker (both first rest) (λ found. P found.0 × AreSo P (length words) found.1) _ (λ found so. (ap suc so.1.0, (so.0, so.1.1)))
    (both-holds P (AreSo P (length words)) first rest (at_line-holds P line (read word) (p word)) (all_of-holds P read line words p)))

same_length : (members count : ℕ) → not (members == count) ≡ false → members ≡ count
same_length members count same = grind (arith, nat_tests)

-- so many words
pub words_on-holds : {X : Type 0} (P : List X → Type 0) (count line : ℕ) (words : List X) → (length words ≡ count → P words)
    → IfOk (words_on (Some count) line words) P
words_on-holds P count line words p =
    unless-holds P (has_other_length (Some count) (length words)) line LIST_LENGTH (Ok words) (λ same. p (same_length (length words) count same))

pub names_on-holds : (P : List Run → Type 0) (count line : ℕ) (words : List Run) → (length words ≡ count → P words)
    → IfOk (names_on (Some count) line words) P
names_on-holds P count line words p =
    unless-holds P (has_other_length (Some count) (length words)) line LIST_LENGTH _
    (λ same. with_fault-holds P (repeat_fault line (bytes_of words)) (Ok words) (p (same_length (length words) count same)))

pub list_on-holds : {X : Type 0} (P : X → Type 0) (read : List ℕ → Result X ℕ) (count line : ℕ) (words : List (List ℕ))
    → ((word : List ℕ) → IfOk (read word) P) → IfOk (list_on read (Some count) line words) (AreSo P count)
list_on-holds P read count line words p =
    let members = all_of (map (λ word. at_line line (read word)) words) in
    unless-holds (AreSo P count) (has_other_length (Some count) (length words)) line LIST_LENGTH members
    (λ same. subst (λ n. IfOk members (AreSo P n)) (same_length (length words) count same) (all_of-holds P read line words p))

no_members : (count : ℕ) → nat_lt 0 count ≡ false → 0 ≡ count
no_members count none = grind (arith, nat_tests)

-- a list that is absent is empty, and has no member to have
pub absent_list-holds : {X : Type 0} (P : List X → Type 0) (count line : ℕ) → (0 ≡ count → P []) → IfOk (absent_list {X = X} (Some count) line) P
absent_list-holds P count line p =
    unless-holds P (has_members (Some count)) line LIST_LENGTH (Ok []) (λ none. p (no_members count none))

-- so many names, which differ and may be those of species
pub record AreSpecies (count : ℕ) (names : List (List ℕ)) : Type 0 where
  pub length_is : length names ≡ count
  pub differ : names_repeat names ≡ false
  pub no_sign : list_any is_bad_name names ≡ false

pub species_on-holds : (count line : ℕ) (words : List Run) → IfOk (species_on (Some count) line words) (λ names. AreSpecies count (bytes_of names))
species_on-holds count line words =
    let Are = λ (names : List Run). AreSpecies count (bytes_of names) in
    unless-holds Are (list_any is_bad_name (bytes_of words)) line BAD_NAME _ (λ no_sign.
    unless-holds Are (has_other_length (Some count) (length words)) line LIST_LENGTH _ (λ same.
    unless-holds Are (names_repeat (bytes_of words)) line REPEATED_NAME (Ok words) (λ differ.
    record {
      length_is = length-map words (λ word. word.bytes) ∙ same_length (length words) count same;
      differ = differ;
      no_sign = no_sign;
    })))
