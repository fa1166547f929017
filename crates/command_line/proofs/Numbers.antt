-- The numbers that the matches of kmc's command have.
use Rattle.std.proofs.Common.{◌≡◌, ◌∙◌, ◌<◌, ◌≤◌, ◌&&◌, ℕ, Bool, true, false, zero, suc, refl, sym, ap, subst, arith, List, [], ◌∷◌, length, map, codes, Option, Some, None, not, inl, inr}
use Rattle.std.specs.List.{list_all, slice_index_or}
use Rattle.std.specs.Prelude.{◌^◌, ◌≢◌, ◌⊎◌, Result, Ok, Err, nat_lt}
use Rattle.std.specs.Option.{ForSome}
use Rattle.std.specs.Str.{bytes_eq}
use Rattle.std.specs.Str.Parse.{ParsesUnsigned}
use Rattle.std.specs.Borrow.{Bor}
use Rattle.std.proofs.lemmas.Bool.{ltb-true, ne_eqb}
use Rattle.std.proofs.lemmas.List.{get_or-map, length-map}
use Rattle.std.proofs.lemmas.List.Folds.{list_all_at}
use Rattle.clap.proofs.FaultLemmas.{free_args}
use Rattle.clap.proofs.OnLiterals.{clap_on_literals}
use Rattle.clap.proofs.SimpleLemmas.{all_simple, ready_simple, simple_groups}
use Rattle.clap.proofs.WalkLemmas.{both, one_text-rows}
use Rattle.clap.specs.Built.{IsParsedFrom, IsPlain}
use Rattle.clap.specs.Facts.{args_of, unwrap_or_range}
use Rattle.clap.specs.Faults.{fault_of, has_free_rules, is_simple_and_free}
use Rattle.clap.specs.Kinds.{IsAmong, Kinds}
use Rattle.clap.specs.Matches.{ReadsOne, found_of, one_text}
use Rattle.clap.specs.Simple.{App, IsSimple, app_of, is_ready, is_ready_leaf, is_simple, matches_of}
use Rattle.clap.specs.Texts.{items_of}
use Rattle.clap.specs.Values.{IsUnsignedIn}
use Rattle.clap.specs.Walk.{Row, Rule, Text, is_empty, one_of, rows_of, rule_of, texts}
use Rattle.clap.specs.declared.builder.arg.Arg.{Arg}
use Rattle.clap.specs.declared.builder.command.Command.{Command}
use Rattle.clap.specs.declared.builder.range.ValueRange.{ValueRange}
use Rattle.clap.specs.declared.builder.value_parser.ValueParser.{ValueParser}
use Rattle.clap.specs.declared.builder.value_parser.ValueParser.TheVariants.{Unsigned}
use Rattle.clap.specs.declared.error.kind.ErrorKind.{ErrorKind}
use Rattle.clap.specs.declared.error.kind.ErrorKind.TheVariants.{OutOfMemory}
use Rattle.clap.specs.declared.parser.matches.ArgMatches.{ArgMatches}
use Rattle.clap.specs.declared.parser.matches.Found.{Found}
use Rattle.command_line.proofs.OptionReads.{IsOption, IsOwnArg, arg_at, default_reads, text_reads}
use Rattle.command_line.specs.Grammar.{command_line, deck_rule, kmc_line, line_of, mode_in, mode_rule, number_in, number_of, number_rule, option_number}
use Rattle.command_line.specs.declared.line.Mode.{Mode}
use Rattle.command_line.specs.declared.line.TheConstants.{MAX_SPREAD, MAX_WORKERS}
use Rattle.deck_maker.specs.declared.decks.TheConstants.{MAX_DECK}

-- ---- kmc's command

-- clap's clauses speak of it
pub line_is_simple : is_simple kmc_line ≡ true
unfolding clap_on_literals kmc_line
line_is_simple = refl

pub line_is_free : is_simple_and_free kmc_line ≡ true
unfolding clap_on_literals kmc_line
line_is_free = refl

abbrev line_rules : List Rule
line_rules = mode_rule ∷ deck_rule ∷ number_rule (codes "workers") MAX_WORKERS (codes "1") ∷ number_rule (codes "spread") MAX_SPREAD (codes "64") ∷ []

rules_of_line : (c : Command) → app_of c ≡ kmc_line → map rule_of (args_of c) ≡ line_rules
unfolding kmc_line
rules_of_line c e = ap (λ (a : App). a.top.rules) e

simple_line : (c : Command) → app_of c ≡ kmc_line → IsSimple c
unfolding kmc_line
simple_line c e = ready_simple c (ap (λ (a : App). is_ready a.top) e) (ap (λ (a : App). list_all is_ready_leaf a.subs) e)

plain_line : (c : Command) → app_of c ≡ kmc_line → IsPlain c
unfolding kmc_line
plain_line c e =
    let simple = simple_line c e in
    let free = free_args c simple (ap (λ (a : App). has_free_rules a.top) e) in
    let groups = simple_groups c (ap (λ (a : App). all_simple a.top.rules) e) in
    (λ k d lt. ((free k d lt).exclusive, (free k d lt).conflicts, (free k d lt).overrides, groups k d lt), simple.groups)

-- ---- an argument by its rule

-- no rule but the kth has the name
abbrev is_only : Text → ℕ → List Rule → Bool
is_only name k [] = true
is_only name zero (r ∷ rs) = list_all (λ x. not (bytes_eq x.id name)) rs
is_only name (suc k) (r ∷ rs) = not (bytes_eq r.id name) && is_only name k rs

only_at : (name : Text) (k : ℕ) (rs : List Rule) → is_only name k rs ≡ true → (j : ℕ) (r : Rule) → j < length rs
    → bytes_eq (slice_index_or rs j r).id name ≡ true → j ≡ k
only_at name k [] only j r lt same = absurd (omega arith)
only_at name zero (x ∷ xs) only zero r lt same = refl
only_at name zero (x ∷ xs) only (suc j) r lt same =
    let bad : false ≡ true = sym (list_all_at (λ y. not (bytes_eq y.id name)) xs j r (omega arith) (ap not same)) ∙ only in
    cc
only_at name (suc k) (x ∷ xs) only zero r lt same =
    let bad : false ≡ true = sym (ap not same) ∙ (both _ _ only).0 in
    cc
only_at name (suc k) (x ∷ xs) only (suc j) r lt same = ap suc (only_at name k xs (both _ _ only).1 j r (omega arith) same)

-- the kth rule has the name alone, and building adds none with it
abbrev is_own : Text → ℕ → List Rule → Bool
is_own name k rs = is_only name k rs
    && (nat_lt k (length rs) && (not (is_empty name) && (not (bytes_eq name (codes "help")) && not (bytes_eq name (codes "version")))))

own_arg : (c : Command) (rs : List Rule) → map rule_of (args_of c) ≡ rs → (k : ℕ) (d : Arg) (q : ValueParser) (r : Rule) → is_own r.id k rs ≡ true
    → rule_of (arg_at c k d) ≡ r → r.parser ≡ Some q → IsOwnArg c k d q
own_arg c rs rules k d q r own is parser =
    let only = both (is_only r.id k rs) _ own in
    let within = both (nat_lt k (length rs)) _ only.1 in
    let named = both (not (is_empty r.id)) _ within.1 in
    let added = both (not (bytes_eq r.id (codes "help"))) _ named.1 in
    let id : (arg_at c k d).id.now ≡ r.id = ap (λ (x : Rule). x.id) is in
    let count : length (args_of c) ≡ length rs = sym (length-map (args_of c) rule_of) ∙ ap length rules in
    let inside : k < length rs = ltb-true _ _ within.0 in
    record {
      within = omega arith;
      unique = λ j x lt same.
          let there : slice_index_or rs j (rule_of x) ≡ rule_of (arg_at c j x) =
          ap (λ (l : List Rule). slice_index_or l j (rule_of x)) (sym rules) ∙ get_or-map rule_of (args_of c) j x (rule_of x) lt in
          only_at r.id k rs only.0 j (rule_of x) (omega arith) (rw (there, ← id) same);
      named = λ empty. let bad : false ≡ true = rw (← id, empty) at named.0 in cc;
      own = λ auto. elim auto [
        | inl help ↦ let bad : false ≡ true = rw (← id, help) at added.0 in cc
        | inr version ↦ let bad : false ≡ true = rw (← id, version) at added.1 in cc
      ];
      parser = ap (λ (x : Rule). x.parser) is ∙ parser;
    }

some_arg : (xs : List Arg) → 0 < length xs → Arg
some_arg [] lt = absurd (omega arith)
some_arg (x ∷ xs) lt = x

-- the kth argument of kmc's command has the kth of its rules
line_arg : (c : Command) → app_of c ≡ kmc_line → (k : ℕ) → k < 4
    → (d : Arg) × (k < length (args_of c)) × (rule_of (arg_at c k d) ≡ slice_index_or line_rules k (rule_of d))
line_arg c e k lt =
    let rules = rules_of_line c e in
    let count : length (args_of c) ≡ 4 = sym (length-map (args_of c) rule_of) ∙ ap length rules in
    let d = some_arg (args_of c) (omega arith) in
    let within : k < length (args_of c) = omega arith in
    (d, within, sym (get_or-map rule_of (args_of c) k d (rule_of d) within) ∙ ap (λ (l : List Rule). slice_index_or l k (rule_of d)) rules)

-- ---- the numbers of the options, and of a made deck

some_text : (xs : List (Bor Text)) (t : Text) → texts xs ≡ t ∷ [] → 0 < length xs
some_text [] t e = cc
some_text (x ∷ xs) t e = omega arith

option_reads : (c : Command) (m : ArgMatches) → app_of c ≡ kmc_line → IsParsedFrom c m → (k : ℕ) (name : Text) (most : ℕ) (default : Text) → k < 4
    → is_own name k line_rules ≡ true → ((r : Rule) → slice_index_or line_rules k r ≡ number_rule name most default)
    → (t : List ℕ) × (one_text (found_of m) name ≡ Some t) × IsUnsignedIn 1 most t
option_reads c m e p k name most default lt own at =
    let arg = line_arg c e k lt in
    let d = arg.0 in
    let simple = simple_line c e in
    let is : rule_of (arg_at c k d) ≡ number_rule name most default = arg.2 ∙ at (rule_of d) in
    let range : (arg_at c k d).num_vals ≡ None = ap (λ (r : Rule). r.range) is in
    let option : IsOption (arg_at c k d) = record {
      set = ap (λ (r : Rule). r.action) is;
      delimiter = (simple.args k d arg.1).delimiter;
      least = subst (λ (r : Option ValueRange). 1 ≤ (unwrap_or_range r).start_inclusive) (sym range) (omega arith);
      default = ((simple.args k d arg.1).default_ifs, some_text (items_of (arg_at c k d).default_vals) default (ap (λ (r : Rule). r.defaults) is));
    } in
    let read = default_reads c m p k d (Unsigned 1 most) (own_arg c line_rules (rules_of_line c e) k d (Unsigned 1 most) (number_rule name most default) own is refl)
    option (plain_line c e) simple.globals in
    (read.0, subst (λ (n : List ℕ). one_text (found_of m) n ≡ Some read.0) (ap (λ (r : Rule). r.id) is) read.1, read.2)

-- where kmc's command takes the words, its options have numbers in their ranges
pub workers_read : (c : Command) (m : ArgMatches) → app_of c ≡ kmc_line → IsParsedFrom c m
    → (t : List ℕ) × (one_text (found_of m) (codes "workers") ≡ Some t) × IsUnsignedIn 1 MAX_WORKERS t
workers_read c m e p = option_reads c m e p 2 (codes "workers") MAX_WORKERS (codes "1") (omega arith) refl (λ r. refl)

pub spread_read : (c : Command) (m : ArgMatches) → app_of c ≡ kmc_line → IsParsedFrom c m
    → (t : List ℕ) × (one_text (found_of m) (codes "spread") ≡ Some t) × IsUnsignedIn 1 MAX_SPREAD t
spread_read c m e p = option_reads c m e p 3 (codes "spread") MAX_SPREAD (codes "64") (omega arith) refl (λ r. refl)

-- and the number after the required word, if there is one, is in its range
pub deck_read : (c : Command) (m : ArgMatches) → app_of c ≡ kmc_line → IsParsedFrom c m
    → ForSome (one_text (found_of m) (codes "number")) (λ t. IsUnsignedIn 0 MAX_DECK t)
deck_read c m e p t read =
    let arg = line_arg c e 1 (omega arith) in
    let d = arg.0 in
    let is : rule_of (arg_at c 1 d) ≡ deck_rule = arg.2 in
    let id : (arg_at c 1 d).id.now ≡ codes "number" = ap (λ (r : Rule). r.id) is in
    let got = text_reads c m p 1 d (Unsigned 0 MAX_DECK) (own_arg c line_rules (rules_of_line c e) 1 d (Unsigned 0 MAX_DECK) deck_rule refl is refl)
    (plain_line c e) (simple_line c e).globals t (subst (λ (n : List ℕ). one_text (found_of m) n ≡ Some t) (sym id) read) in
    subst (λ (u : List ℕ). IsUnsignedIn 0 MAX_DECK u) got.1 got.2

-- a number in the range of `u32` is what `u32` reads
unsigned_read : {E : Type 0} (G : List ℕ → Result ℕ E → Type 0) (low : ℕ) (t : List ℕ) (r : Option ℕ) → ReadsOne G t r
    → ((u : List ℕ) (x : Result ℕ E) → G u x → ParsesUnsigned 32 10 u x) → IsUnsignedIn low 4294967295 t → r ≡ Some (number_of t)
unsigned_read G low t (Some v) read only fits = ap Some (only t (Ok v) read).1
unsigned_read G low t None read only fits =
    let small : number_of t < 2 ^ 32 = omega (arith, fits.3) in
    absurd (only t (Err read.0) read.1 (fits.0, small))

-- so `get_one` gives the number of an argument
pub number_read : {E : Type 0} (G : List ℕ → Result ℕ E → Type 0) (f : Found) (name : Text) (r : Option ℕ) → (one_text f name ≡ None → r ≡ None)
    → ((t : List ℕ) → one_text f name ≡ Some t → ReadsOne G t r) → ((u : List ℕ) (x : Result ℕ E) → G u x → ParsesUnsigned 32 10 u x)
    → ForSome (one_text f name) (λ t. IsUnsignedIn 0 4294967295 t) → r ≡ number_in name (rows_of f)
number_read G f name r none value only fits = go (one_text f name) refl
  where
    go : (x : Option Text) → one_text f name ≡ x → r ≡ number_in name (rows_of f)
    go None e =
        let row : one_of name (rows_of f) ≡ None = sym (one_text-rows f name) ∙ e in
        rw row (none e)
    go (Some t) e =
        let row : one_of name (rows_of f) ≡ Some t = sym (one_text-rows f name) ∙ e in
        rw row (unsigned_read G 0 t r (value t e) only (fits t e))

pub number_of_text : (f : Found) (name t : Text) → one_text f name ≡ Some t → number_in name (rows_of f) ≡ Some (number_of t)
number_of_text f name t read =
    let row : one_of name (rows_of f) ≡ Some t = sym (one_text-rows f name) ∙ read in
    rw row refl

-- the number of an option with a text in its range
pub number_within : (f : Found) (name : Text) (most : ℕ) (t : Text) → one_text f name ≡ Some t → IsUnsignedIn 1 most t
    → (1 ≤ option_number name (rows_of f)) × (option_number name (rows_of f) ≤ most)
number_within f name most t read within = rw (number_of_text f name t read) (within.2, within.3)

-- ---- what the words ask for

some_kind : (kinds : Kinds) (k : ErrorKind) → IsAmong k kinds → is_empty kinds ≡ false
some_kind [] k among = absurd among
some_kind (x ∷ xs) k among = ne_eqb _ _ (omega arith)

-- words that clap refuses, where it is not out of memory, are no line
pub refused_line : (words : List Text) (k : ErrorKind) → (k ≡ OutOfMemory) ⊎ IsAmong k (fault_of kmc_line words) → k ≢ OutOfMemory → None ≡ command_line words
unfolding command_line
refused_line words k (inl memory) other = absurd (other memory)
refused_line words k (inr among) other = rw (some_kind (fault_of kmc_line words) k among) refl

-- and those in which it finds no fault are the line of their matches
pub taken_line : (words : List Text) (rows : List Row) → fault_of kmc_line words ≡ [] → rows ≡ matches_of kmc_line words → command_line words ≡ line_of rows
unfolding command_line
taken_line words rows taken is = rw (taken, is) refl

pub no_line : (rows : List Row) → mode_in rows ≡ None → line_of rows ≡ None
no_line rows none = rw none refl

pub some_line : (rows : List Row) (mode : Mode) (workers spread : ℕ) → mode_in rows ≡ Some mode
    → workers ≡ option_number (codes "workers") rows → spread ≡ option_number (codes "spread") rows
    → Some (record { mode = mode; workers = workers; spread = spread }) ≡ line_of rows
some_line rows mode workers spread some workers_is spread_is = rw (some, workers_is, spread_is) refl
