-- changes of gas species that are read are in their range, and of different species
use Rattle.std.proofs.Common.{◌≡◌, ◌∙◌, ◌≤◌, ◌==◌, ◌++◌, ap, arith, refl, suc, subst, sym, unsigned_abs, zero, ℕ, ℤ}
use Rattle.std.proofs.Common.{Bool, true, false, IfOk, List, [], ◌∷◌, Option, None, Some, Result, Ok, Err, drop, if◌then◌else◌, length, map, take}
use Rattle.std.proofs.Math.Nat.{min-le_left}
use Rattle.std.proofs.lemmas.List.{length-take, map-append, take-append-drop}
use Rattle.std.specs.List.{AllByRecursion}
use Rattle.dec_text.specs.Decimals.{signed}
use Rattle.dec_text.specs.Lines.{Run}
use Rattle.deck_shape.proofs.BlockValues.{line_value_or-holds}
use Rattle.deck_shape.specs.Blocks.{BlockLines}
use Rattle.deck_shape.specs.LineWords.{arguments_of}
use Rattle.deck_shape.specs.Names.{on_line}
use Rattle.deck_values.proofs.EarliestFaults.{none_earliest}
use Rattle.deck_values.proofs.Ranges.{whole-holds}
use Rattle.deck_values.proofs.Repeats.{repeat_further}
use Rattle.deck_values.specs.Lists.{fault_if}
use Rattle.deck_values.specs.Names.{names_repeat, repeat_fault}
use Rattle.deck_values.specs.Numbers.{whole_in}
use Rattle.deck_values.specs.Readings.{least_fault, values_of, with_value}
use Rattle.deck_words.proofs.HeldValues.{at_line-holds, value_map-holds}
use Rattle.deck_words.specs.Faults.{at_line, earliest, fault_of, value_map, with_fault}
use Rattle.deck_words.specs.declared.fault.LineFault.{LineFault}
use Rattle.deck_words.specs.declared.keyword.Keyword.TheVariants.{GasReacsProds}
use Rattle.deck_words.specs.declared.kind.TheConstants.{NOT_WHOLE, REPEATED_NAME}
use Rattle.mechanism_deck.specs.Changes.{GasWords, after_minus, change_of, changes_on, first_names, gas_change, gas_in, gas_on, pairs_of}
use Rattle.mechanism_deck.specs.Soundness.{AreChanges, IsChange}
use Rattle.mechanism_deck.specs.declared.ranges.TheConstants.{GAS_CHANGE, MOST_CHANGES}

-- a magnitude of a change
abbrev IsSize : ℕ → Type 0
IsSize n = (GAS_CHANGE.least ≤ n) × (n ≤ GAS_CHANGE.most)

abbrev IsSized : ℤ → Type 0
IsSized change = IsSize (unsigned_abs change)

size : (negative : Bool) (n : ℕ) → n ≡ unsigned_abs (signed negative n)
size false n = refl
size true zero = refl
size true (suc n) = refl

signed-holds : (negative : Bool) (r : Result ℕ ℕ) → IfOk r IsSize → IfOk (value_map (signed negative) r) IsSized
signed-holds negative (Ok n) is = subst IsSize (size negative n) is
signed-holds negative (Err kind) is = tt

if-holds : {X : Type 0} (P : X → Type 0) (test : Bool) (a b : Result X ℕ) → IfOk a P → IfOk b P → IfOk (if test then a else b) P
if-holds P true a b p q = p
if-holds P false a b p q = q

minus-holds : (word : List ℕ) → IfOk (after_minus word) IsSize
minus-holds [] = tt
minus-holds (b ∷ bs) = if-holds IsSize (b == 43) (Err NOT_WHOLE) (whole_in GAS_CHANGE (b ∷ bs)) tt (whole-holds GAS_CHANGE (b ∷ bs))

change-holds : (word : List ℕ) → IfOk (change_of word) IsSized
change-holds [] = tt
change-holds (b ∷ bs) =
    if-holds IsSized (b == 45) (value_map (signed true) (after_minus bs)) (value_map (signed false) (whole_in GAS_CHANGE (b ∷ bs)))
    (signed-holds true (after_minus bs) (minus-holds bs))
    (signed-holds false (whole_in GAS_CHANGE (b ∷ bs)) (whole-holds GAS_CHANGE (b ∷ bs)))

pair-holds : (line : ℕ) (pair : Run × Run) → IfOk (gas_change line pair) IsChange
pair-holds line pair =
    value_map-holds IsChange (λ change. (on_line line pair.0, change)) (at_line line (change_of pair.1.bytes))
    (at_line-holds IsSized line (change_of pair.1.bytes) (change-holds pair.1.bytes))

-- what holds of each value of some readings
next_value : {X : Type 0} (P : X → Type 0) (r : Result X LineFault) (rest : List X) → IfOk r P → AllByRecursion P rest
    → AllByRecursion P (with_value r rest)
next_value P (Ok x) rest p all = (p, all)
next_value P (Err f) rest p all = all

values-hold : {X Y : Type 0} (P : Y → Type 0) (read : X → Result Y LineFault) (xs : List X) → ((x : X) → IfOk (read x) P)
    → AllByRecursion P (values_of (map read xs))
values-hold P read [] holds = tt
values-hold P read (x ∷ xs) holds = next_value P (read x) (values_of (map read xs)) (holds x) (values-hold P read xs holds)

-- the name of a change
abbrev name_in : GasWords → List ℕ
name_in change = change.0.word.bytes

-- a change of the species that a pair names
abbrev named : ℕ → Run × Run → ℤ → GasWords
named line pair change = (on_line line pair.0, change)

next_name : (line : ℕ) (pair : Run × Run) (r : Result ℤ ℕ) (rest : List GasWords) (more : Option LineFault) (names : List (List ℕ))
    → earliest (fault_of (value_map (named line pair) (at_line line r))) more ≡ None
    → (more ≡ None → map name_in rest ≡ names)
    → map name_in (with_value (value_map (named line pair) (at_line line r)) rest) ≡ pair.0.bytes ∷ names
next_name line pair (Ok change) rest more names none same = ap (λ ns. pair.0.bytes ∷ ns) (same none)
next_name line pair (Err kind) rest more names none same =
    let parts = none_earliest (Some (record { line = line; kind = kind })) more none in absurd (cc)

-- where no change has a fault each name is there
names_kept : (line : ℕ) (pairs : List (Run × Run)) → least_fault (map (gas_change line) pairs) ≡ None
    → map name_in (values_of (map (gas_change line) pairs)) ≡ first_names pairs
names_kept line [] none = refl
names_kept line (pair ∷ pairs) none =
    next_name line pair (change_of pair.1.bytes) (values_of (map (gas_change line) pairs)) (least_fault (map (gas_change line) pairs))
    (first_names pairs) none (names_kept line pairs)

-- what holds of all members holds of the first of them
all_first : {X : Type 0} (P : X → Type 0) (xs ys : List X) → AllByRecursion P (xs ++ ys) → AllByRecursion P xs
all_first P [] ys all = tt
all_first P (x ∷ xs) ys all = (all.0, all_first P xs ys all.1)

all_taken : {X : Type 0} (P : X → Type 0) (n : ℕ) (xs : List X) → AllByRecursion P xs → AllByRecursion P (take n xs)
all_taken P n xs all = all_first P (take n xs) (drop n xs) (subst (AllByRecursion P) (sym (take-append-drop n xs)) all)

none_true : (b : Bool) → (b ≡ true → ⊥) → b ≡ false
none_true true never = absurd (never refl)
none_true false never = refl

-- names that differ still do where fewer are taken
taken_differ : (n : ℕ) (changes : List GasWords) → names_repeat (map name_in changes) ≡ false
    → names_repeat (map name_in (take n changes)) ≡ false
taken_differ n changes differ =
    let some = map name_in (take n changes) in
    let others = map name_in (drop n changes) in
    let whole : some ++ others ≡ map name_in changes =
    sym (map-append name_in (take n changes) (drop n changes)) ∙ ap (map name_in) (take-append-drop n changes) in
    none_true (names_repeat some) (λ repeat. let all = sym (repeat_further some others repeat) ∙ ap names_repeat whole ∙ differ in cc)

few_taken : {X : Type 0} (n : ℕ) (xs : List X) → length (take n xs) ≤ n
few_taken n xs = subst (λ k. k ≤ n) (sym (length-take n xs)) (min-le_left n (length xs))

no_repeat : (repeat : Bool) (line : ℕ) → fault_if repeat line REPEATED_NAME ≡ None → repeat ≡ false
no_repeat true line none = absurd (cc)
no_repeat false line none = refl

unless_fault : {X : Type 0} (P : X → Type 0) (fault : Option LineFault) (x : X) → (fault ≡ None → P x) → IfOk (with_fault fault (Ok x)) P
unless_fault P None x p = p refl
unless_fault P (Some fault) x p = tt

changes-hold : (line : ℕ) (pairs : List (Run × Run)) → IfOk (changes_on line pairs) (λ changes. AreChanges (take MOST_CHANGES changes))
changes-hold line pairs =
    let readings = map (gas_change line) pairs in
    let changes = values_of readings in
    let repeat = repeat_fault line (first_names pairs) in
    unless_fault (λ all. AreChanges (take MOST_CHANGES all)) (earliest repeat (least_fault readings)) changes (λ none.
    let parts = none_earliest repeat (least_fault readings) none in
    record {
      changes = all_taken IsChange MOST_CHANGES changes (values-hold IsChange (gas_change line) pairs (pair-holds line));
      differ = taken_differ MOST_CHANGES changes
          (ap names_repeat (names_kept line pairs parts.1) ∙ no_repeat (names_repeat (first_names pairs)) line parts.0);
      few = few_taken MOST_CHANGES changes;
    })

-- the changes of a step
pub gas-holds : (block : BlockLines) → IfOk (gas_in block) AreChanges
gas-holds block =
    line_value_or-holds AreChanges (Ok []) gas_on GasReacsProds block.items
    (record { changes = tt; differ = refl; few = omega arith })
    (λ item. let changes = changes_on item.line.number (pairs_of (arguments_of item.line)) in
    value_map-holds AreChanges (take MOST_CHANGES) changes (changes-hold item.line.number (pairs_of (arguments_of item.line))))
