-- What clap's matches have of one argument of a command: a text is one that passed the argument's parser, and an option with
-- a default has one.
use Rattle.std.proofs.Common.{◌≡◌, ◌∙◌, ◌<◌, ◌≤◌, ℕ, Bool, true, false, zero, suc, refl, sym, ap, subst, arith, List, [], ◌∷◌, length, Option, Some, None, is_some, inl, inr}
use Rattle.std.specs.List.{All, slice_index_or}
use Rattle.std.specs.Prelude.{find, option_map, slice_get, unwrap_or}
use Rattle.std.specs.Str.{bytes_eq}
use Rattle.std.specs.Borrow.{Bor}
use Rattle.std.proofs.lemmas.List.Elements.{All-get_or}
use Rattle.std.proofs.lemmas.Slice.Eq.{bytes_eq-Decides}
use Rattle.clap.proofs.CallerLemmas.{default_present, entry_by_id, same_rules_by_id}
use Rattle.clap.specs.Built.{IsAuto, IsParsedFrom, IsPlain, SameRules}
use Rattle.clap.specs.Facts.{Entry, EntryPasses, HasReading, IsFilledEntry, PassesArg, WantsDefault, args_of, groups_of, least_values, parser_of, parser_of_value}
use Rattle.clap.specs.Matches.{found_of, matched_of, one_text}
use Rattle.clap.specs.Values.{Accepts, read_as, reading_of}
use Rattle.clap.specs.declared.builder.action.ArgAction.TheVariants.{Count, Set}
use Rattle.clap.specs.declared.builder.arg.Arg.{Arg}
use Rattle.clap.specs.declared.builder.command.Command.{Command}
use Rattle.clap.specs.declared.builder.command.Command.TheViews.{out-Command}
use Rattle.clap.specs.declared.builder.value_parser.Reading.{Reading}
use Rattle.clap.specs.declared.builder.value_parser.ValueParser.{ValueParser}
use Rattle.clap.specs.declared.parser.matches.ArgMatches.{ArgMatches}
use Rattle.clap.specs.declared.parser.matches.MatchedArg.{MatchedArg}

abbrev pub arg_at : Command → ℕ → Arg → Arg
arg_at c k d = slice_index_or (args_of c) k d

-- the kth argument has a parser and a name of its own, which building gives to no flag that it adds
pub record IsOwnArg (c : Command) (k : ℕ) (d : Arg) (q : ValueParser) : Type 0 where
  pub within : k < length (args_of c)
  pub unique : (j : ℕ) (e : Arg) → j < length (args_of c) → bytes_eq (arg_at c j e).id.now (arg_at c k d).id.now ≡ true → j ≡ k
  pub named : (arg_at c k d).id.now ≡ [] → ⊥
  pub own : IsAuto (arg_at c k d) → ⊥
  pub parser : (arg_at c k d).value_parser ≡ Some q

-- the argument takes one value, and has a default
pub record IsOption (a : Arg) : Type 0 where
  pub set : a.action ≡ Some Set
  pub delimiter : a.val_delim ≡ None
  pub least : 1 ≤ least_values a
  pub default : WantsDefault a

-- an argument of the built command with the argument's name has its rules
same : (c : Command) (m : ArgMatches) (p : IsParsedFrom c m) (k : ℕ) (d : Arg) (q : ValueParser) → IsOwnArg c k d q
    → (j : ℕ) (x : Arg) → j < length (args_of p.built) → slice_index_or (args_of p.built) j x ≡ x
    → bytes_eq x.id.now (arg_at c k d).id.now ≡ true → SameRules (arg_at c k d) x
same c m p k d q o = same_rules_by_id c m p k d o.within o.unique o.own

reading_is : (c : Command) (m : ArgMatches) (p : IsParsedFrom c m) (k : ℕ) (d : Arg) (q : ValueParser) → IsOwnArg c k d q
    → (r : Reading) → HasReading p.built (arg_at c k d).id.now r → r ≡ reading_of q
reading_is c m p k d q o r any =
    let s = same c m p k d q o any.0 any.1 any.2 any.3 any.4.0 in
    let is_q : parser_of any.1 ≡ q = ap parser_of_value (s.parser q o.parser) in
    sym any.4.1 ∙ ap reading_of is_q

accepts_as : (a x : Arg) (q : ValueParser) (t : List ℕ) → SameRules a x → a.value_parser ≡ Some q
    → Accepts x.ignore_case (parser_of x) t → Accepts a.ignore_case q t
accepts_as a x q t s parser passed =
    let is_q : parser_of x ≡ q = ap parser_of_value (s.parser q parser) in
    let as_q : Accepts x.ignore_case q t = subst (λ (w : ValueParser). Accepts x.ignore_case w t) is_q passed in
    subst (λ (b : Bool). Accepts b q t) s.ignore_case as_q

value_passes : (c : Command) (m : ArgMatches) (p : IsParsedFrom c m) (k : ℕ) (d : Arg) (q : ValueParser) → IsOwnArg c k d q
    → (t : List ℕ) → PassesArg p.built (arg_at c k d).id.now t → Accepts (arg_at c k d).ignore_case q t
value_passes c m p k d q o t any =
    accepts_as _ any.1 q t (same c m p k d q o any.0 any.1 any.2 any.3 any.4.0) o.parser any.4.1

-- the entry of an argument, with what holds of each entry
own_entry : (c : Command) (m : ArgMatches) (p : IsParsedFrom c m) → (out-Command c).has_globals ≡ false → (id : List ℕ) (x : MatchedArg)
    → matched_of (found_of m) id ≡ Some x → (e : Entry) × (e.1 ≡ x) × (e.0.now ≡ id) × EntryPasses p.built e
own_entry c m p globals id x found =
    let values = (p.parsed (p.from.globals ∙ globals)).values in
    let got = entry_by_id (EntryPasses p.built) (found_of m).entries.items id x values found in
    (got.0, got.1, (bytes_eq-Decides _ _).0 got.2, got.3)

-- ---- a text

first_passes : (P : Bor (List ℕ) → Type 0) (how : Reading) (vs : List (Bor (List ℕ))) (t : List ℕ) → All P vs
    → option_map (λ s. read_as how s.now) (slice_get vs 0) ≡ Some t → (v : Bor (List ℕ)) × (read_as how v.now ≡ t) × P v
first_passes P how [] t all read = cc
first_passes P how (v ∷ vs) t all read = (v, ap (λ o. unwrap_or o t) read, All-get_or P (v ∷ vs) 0 v (omega arith) all)

-- what a text of the argument's entry is
entry_reads : (c : Command) (m : ArgMatches) (p : IsParsedFrom c m) (k : ℕ) (d : Arg) (q : ValueParser) → IsOwnArg c k d q
    → groups_of p.built ≡ [] → (e : Entry) → e.0.now ≡ (arg_at c k d).id.now → EntryPasses p.built e
    → (t : List ℕ) → option_map (λ s. read_as e.1.reading s.now) (slice_get e.1.vals.items 0) ≡ Some t
    → (u : List ℕ) × (read_as (reading_of q) u ≡ t) × Accepts (arg_at c k d).ignore_case q u
entry_reads c m p k d q o no_groups e key pass t read =
    let id = (arg_at c k d).id.now in
    let no_group : e.1.is_group ≡ true → ⊥ = λ g. elim (pass.3 g) [
      | inl empty ↦ o.named (sym key ∙ empty)
      | inr lots ↦
          let bad : 0 < 0 = rw no_groups at lots in
          absurd (omega arith)
    ] in
    let all : All (λ v. PassesArg p.built id v.now) e.1.vals.items = elim pass.0 [
      | inl g ↦ absurd (no_group g)
      | inr vals ↦ subst (λ (w : List ℕ). All (λ v. PassesArg p.built w v.now) e.1.vals.items) key vals
    ] in
    let how : e.1.reading ≡ reading_of q = elim pass.4 [
      | inl g ↦ absurd (no_group g)
      | inr h ↦ reading_is c m p k d q o e.1.reading (subst (λ (w : List ℕ). HasReading p.built w e.1.reading) key h)
    ] in
    let first = first_passes (λ v. PassesArg p.built id v.now) e.1.reading e.1.vals.items t all read in
    (first.0.now, ap (λ (w : Reading). read_as w first.0.now) (sym how) ∙ first.1, value_passes c m p k d q o first.0.now first.2)

-- a text that the matches have of the argument passed its parser, and is read as that parser says
pub text_reads : (c : Command) (m : ArgMatches) (p : IsParsedFrom c m) (k : ℕ) (d : Arg) (q : ValueParser) → IsOwnArg c k d q
    → IsPlain c → (out-Command c).has_globals ≡ false → (t : List ℕ) → one_text (found_of m) (arg_at c k d).id.now ≡ Some t
    → (u : List ℕ) × (read_as (reading_of q) u ≡ t) × Accepts (arg_at c k d).ignore_case q u
text_reads c m p k d q o plain globals t read = go (matched_of (found_of m) (arg_at c k d).id.now) refl read
  where
    go : (x : Option MatchedArg) → matched_of (found_of m) (arg_at c k d).id.now ≡ x → one_text (found_of m) (arg_at c k d).id.now ≡ Some t
        → (u : List ℕ) × (read_as (reading_of q) u ≡ t) × Accepts (arg_at c k d).ignore_case q u
    go None e read =
        let bad : None ≡ Some t = rw e at read in
        cc
    go (Some x) e read =
        let got = own_entry c m p globals (arg_at c k d).id.now x e in
        entry_reads c m p k d q o (p.from.plain plain).1 got.0 got.2 got.3 t (rw got.1 (rw e at read))

-- ---- a default

-- an entry of an option has a value
has_value : (c : Command) (m : ArgMatches) (p : IsParsedFrom c m) (k : ℕ) (d : Arg) (q : ValueParser) → IsOwnArg c k d q → IsOption (arg_at c k d)
    → groups_of p.built ≡ [] → (e : Entry) → e.0.now ≡ (arg_at c k d).id.now → IsFilledEntry p.built e → 0 < length e.1.vals.items
has_value c m p k d q o option no_groups e key filled = elim filled [
  | inl h ↦ elim h.1 [
    | inl empty ↦ absurd (o.named (sym key ∙ empty))
    | inr has ↦
        let bad : 0 < 0 = rw no_groups at has in
        absurd (omega arith)
  ]
  | inr (inl v) ↦ v
  | inr (inr (inl h)) ↦
      let any = h.1 in
      let s = same c m p k d q o any.0 any.1 any.2 any.3 (rw key at any.4.0) in
      let is_set : any.1.action ≡ Some Set = s.action Set option.set in
      let bad : Set ≡ Count = rw is_set at any.4.1 in
      cc
  | inr (inr (inr h)) ↦
      let s = same c m p k d q o h.0 h.1 h.2 h.3 (rw key at h.4.0) in
      elim h.4.1 [
        | inl none ↦
            let one = s.least option.set option.least in
            absurd (omega arith)
        | inr has ↦
            let bad : false ≡ true = rw (s.val_delim, option.delimiter) at has in
            cc
      ]
]

-- an id that an entry has is found
found_in : (xs : List Entry) (id : List ℕ) (i : ℕ) → i < length xs → ((e : Entry) → bytes_eq (slice_index_or xs i e).0.now id ≡ true)
    → is_some (option_map (λ e. e.1) (find (λ e. bytes_eq e.0.now id) xs)) ≡ true
found_in [] id i lt at = absurd (omega arith)
found_in (x ∷ xs) id zero lt at =
    let here : bytes_eq x.0.now id ≡ true = at x in
    rw here refl
found_in (x ∷ xs) id (suc i) lt at = go (bytes_eq x.0.now id) refl (found_in xs id i (omega arith) at)
  where
    go : (b : Bool) → bytes_eq x.0.now id ≡ b → is_some (option_map (λ e. e.1) (find (λ e. bytes_eq e.0.now id) xs)) ≡ true
        → is_some (option_map (λ e. e.1) (find (λ e. bytes_eq e.0.now id) (x ∷ xs))) ≡ true
    go true t rest = rw t refl
    go false t rest = rw t rest

some_first : (how : Reading) (vs : List (Bor (List ℕ))) → 0 < length vs → is_some (option_map (λ s. read_as how s.now) (slice_get vs 0)) ≡ true
some_first how [] lt = absurd (omega arith)
some_first how (v ∷ vs) lt = refl

-- the matches have a text of an option
default_text : (c : Command) (m : ArgMatches) (p : IsParsedFrom c m) (k : ℕ) (d : Arg) (q : ValueParser) → IsOwnArg c k d q → IsOption (arg_at c k d)
    → IsPlain c → (out-Command c).has_globals ≡ false → is_some (one_text (found_of m) (arg_at c k d).id.now) ≡ true
default_text c m p k d q o option plain globals =
    let there = default_present c m p globals k d o.within option.default in
    go (matched_of (found_of m) (arg_at c k d).id.now) refl (found_in (found_of m).entries.items (arg_at c k d).id.now there.0 there.1 there.2)
  where
    go : (x : Option MatchedArg) → matched_of (found_of m) (arg_at c k d).id.now ≡ x → is_some (matched_of (found_of m) (arg_at c k d).id.now) ≡ true
        → is_some (one_text (found_of m) (arg_at c k d).id.now) ≡ true
    go None e some =
        let bad : false ≡ true = rw e at some in
        cc
    go (Some x) e some =
        let got = own_entry c m p globals (arg_at c k d).id.now x e in
        let value = has_value c m p k d q o option (p.from.plain plain).1 got.0 got.2 got.3.1 in
        rw e (some_first x.reading x.vals.items (rw got.1 at value))

-- and it passed the option's parser, and is read as that parser says
pub default_reads : (c : Command) (m : ArgMatches) (p : IsParsedFrom c m) (k : ℕ) (d : Arg) (q : ValueParser) → IsOwnArg c k d q → IsOption (arg_at c k d)
    → IsPlain c → (out-Command c).has_globals ≡ false
    → (u : List ℕ) × (one_text (found_of m) (arg_at c k d).id.now ≡ Some (read_as (reading_of q) u)) × Accepts (arg_at c k d).ignore_case q u
default_reads c m p k d q o option plain globals =
    go (one_text (found_of m) (arg_at c k d).id.now) refl (default_text c m p k d q o option plain globals)
  where
    go : (x : Option (List ℕ)) → one_text (found_of m) (arg_at c k d).id.now ≡ x → is_some (one_text (found_of m) (arg_at c k d).id.now) ≡ true
        → (u : List ℕ) × (one_text (found_of m) (arg_at c k d).id.now ≡ Some (read_as (reading_of q) u)) × Accepts (arg_at c k d).ignore_case q u
    go None e some =
        let bad : false ≡ true = rw e at some in
        cc
    go (Some t) e some =
        let read = text_reads c m p k d q o plain globals t e in
        (read.0, e ∙ ap Some (sym read.1), read.2)
