-- what is true of the numbers that a file states
use Rattle.std.proofs.Common.{◌≡◌, ◌∙◌, ap, arith, refl, sym, ℕ, ◌*◌, ◌≤◌, ◌<◌, ◌==◌, false, List, [], ◌∷◌, Option, None, Some, IfOk}
use Rattle.std.proofs.Common.{Result, Ok, Err, length, map, nat_lt}
use Rattle.std.specs.Result.{result_ok}
use Rattle.std.proofs.Math.Nat.{mul-le-mul_left, mul-le-mul_right}
use Rattle.std.proofs.lemmas.Bool.{ltb-false, or_parts}
use Rattle.std.proofs.lemmas.Bool.Decides.{nat_tests}
use Rattle.std.proofs.lemmas.List.{length-map}
use Rattle.deck_shape.specs.BlockValues.{required, value_on}
use Rattle.kmc_base.specs.declared.limits.TheConstants.{MAX_SITES}
use Rattle.dec_text.specs.Lines.{Run}
use Rattle.deck_shape.proofs.BlockValues.{required-holds, value_on-holds}
use Rattle.deck_shape.specs.Blocks.{BlockLines, ItemLines}
use Rattle.deck_shape.specs.LineWords.{arguments_of}
use Rattle.deck_shape.specs.Names.{NameWord}
use Rattle.deck_shape.specs.WordLines.{names_on as names_of_line, words_of}
use Rattle.deck_values.proofs.Ranges.{whole-holds}
use Rattle.deck_values.proofs.Values.{names_on-holds, unless-holds, words_on-holds}
use Rattle.deck_values.specs.Names.{bytes_of, names_on}
use Rattle.deck_values.specs.Numbers.{any_decimal, whole_in}
use Rattle.deck_values.specs.declared.number.WholeRange.{WholeRange}
use Rattle.deck_words.proofs.HeldValues.{at_line-holds, both-holds, none-holds, value_map-holds, with_fault-holds}
use Rattle.deck_words.specs.Faults.{at_line, fault_of, with_fault}
use Rattle.deck_words.specs.declared.fault.LineFault.{LineFault}
use Rattle.deck_words.specs.declared.keyword.Keyword.{Keyword}
use Rattle.deck_words.specs.declared.keyword.Keyword.TheVariants.{NCellSites, NSiteTypes, RepeatCell, SiteTypeNames, SiteTypes}
use Rattle.deck_words.specs.declared.kind.TheConstants.{ARGUMENT_COUNT, SELF_NEIGHBOUR, TOO_MANY_SITES}
use Rattle.lattice_deck.specs.Parts.{cell_repeats, cell_sizes, names_line, sites_in, type_names, type_words, types_in}
use Rattle.lattice_deck.specs.Sizes.{AreRepeats, AreWide, IsSizes, default_on, default_repeats, gives_too_many, is_narrow, repeats_on, two_repeats}
use Rattle.lattice_deck.specs.Sizes.{wide_enough, within_limit}
use Rattle.lattice_deck.specs.declared.ranges.TheConstants.{REPEAT, SITE_COUNT, TYPE_COUNT}
use Rattle.lattice_deck.specs.declared.sizes.Sizes.{Sizes}
use Rattle.lattice_deck.proofs.Readings.{is_some, some_ok, when_ok}
use Rattle.site_rows.specs.declared.type_word.TheConstants.{MAX_SITE_TYPES}

abbrev pub IsIn : WholeRange → ℕ → Type 0
IsIn range n = (range.least ≤ n) × (n ≤ range.most)

pub sites_bounds : (keyword : Keyword) (block : BlockLines) → IfOk (sites_in keyword block) (IsIn SITE_COUNT)
sites_bounds keyword block =
    required-holds (IsIn SITE_COUNT) keyword block (value_on (whole_in SITE_COUNT))
    (λ item. value_on-holds (IsIn SITE_COUNT) (whole_in SITE_COUNT) item (whole-holds SITE_COUNT))

types_bounds : (block : BlockLines) → IfOk (types_in block) (IsIn TYPE_COUNT)
types_bounds block =
    required-holds (IsIn TYPE_COUNT) NSiteTypes block (value_on (whole_in TYPE_COUNT))
    (λ item. value_on-holds (IsIn TYPE_COUNT) (whole_in TYPE_COUNT) item (whole-holds TYPE_COUNT))

one_repeat : (line : ℕ) (word : List ℕ) → IfOk (at_line line (whole_in REPEAT word)) (IsIn REPEAT)
one_repeat line word = at_line-holds (IsIn REPEAT) line (whole_in REPEAT word) (whole-holds REPEAT word)

abbrev AreIn : ℕ × ℕ → Type 0
AreIn r = IsIn REPEAT r.0 × IsIn REPEAT r.1

two_bounds : (line : ℕ) (words : List (List ℕ)) → IfOk (two_repeats line words) AreIn
two_bounds line [] = tt
two_bounds line (x ∷ []) = tt
two_bounds line (x ∷ y ∷ []) =
    both-holds (IsIn REPEAT) (IsIn REPEAT) (at_line line (whole_in REPEAT x)) (at_line line (whole_in REPEAT y))
    (one_repeat line x) (one_repeat line y)
two_bounds line (x ∷ y ∷ next ∷ words) = tt

-- repeats without a fault
pub record AreFew (sites : Option ℕ) (repeats : ℕ × ℕ) : Type 0 where
  pub columns : 1 ≤ repeats.0
  pub rows : 1 ≤ repeats.1
  pub few : (n : ℕ) → sites ≡ Some n → repeats.0 * repeats.1 * n ≤ MAX_SITES

few_for : (sites : Option ℕ) (r : ℕ × ℕ) (n : ℕ) → gives_too_many sites r ≡ false → sites ≡ Some n → r.0 * r.1 * n ≤ MAX_SITES
few_for None r n few is = absurd (cc)
few_for (Some m) r n few is = let e : m ≡ n = cc in ltb-false MAX_SITES (r.0 * r.1 * n) (ap (λ k. nat_lt MAX_SITES (r.0 * r.1 * k)) (sym e) ∙ few)

limit_bounds : (sites : Option ℕ) (line : ℕ) (r : ℕ × ℕ) → AreIn r → IfOk (within_limit sites line r) (AreFew sites)
limit_bounds sites line r are =
    unless-holds (AreFew sites) (gives_too_many sites r) line TOO_MANY_SITES (Ok r)
    (λ few. record { columns = are.0.0; rows = are.1.0; few = λ n is. few_for sites r n few is })

repeats_bounds : (sites : Option ℕ) (item : ItemLines) → IfOk (repeats_on sites item) (AreFew sites)
repeats_bounds sites item =
    when_ok (AreFew sites) AreIn (within_limit sites item.line.number) (two_repeats item.line.number (words_of item))
    (two_bounds item.line.number (words_of item)) (limit_bounds sites item.line.number)

pub cell_bounds : (block : BlockLines) → IfOk (cell_repeats block) (AreFew (result_ok (sites_in NCellSites block)))
cell_bounds block =
    required-holds (AreFew (result_ok (sites_in NCellSites block))) RepeatCell block (repeats_on (result_ok (sites_in NCellSites block)))
    (repeats_bounds (result_ok (sites_in NCellSites block)))

-- those of a default lattice are wide enough
pub record AreDefault (repeats : ℕ × ℕ) : Type 0 where
  pub wide : AreWide repeats
  pub few : AreFew (Some 1) repeats

past_one : (n : ℕ) → 1 ≤ n → (n == 1) ≡ false → 2 ≤ n
past_one n some other = grind (arith, nat_tests)

wide_bounds : (line : ℕ) (r : ℕ × ℕ) → AreIn r → IfOk (wide_enough line r) AreDefault
wide_bounds line r are =
    unless-holds AreDefault (is_narrow r) line SELF_NEIGHBOUR (within_limit (Some 1) line r)
    (λ wide. unless-holds AreDefault (gives_too_many (Some 1) r) line TOO_MANY_SITES (Ok r)
    (λ few. let parts = or_parts (r.0 == 1) (r.1 == 1) wide in
    record {
      wide = (past_one r.0 are.0.0 parts.0, past_one r.1 are.1.0 parts.1);
      few = record { columns = are.0.0; rows = are.1.0; few = λ n is. few_for (Some 1) r n few is };
    }))

default_words : (line : ℕ) (words : List (List ℕ)) → IfOk (default_repeats line words) AreDefault
default_words line [] = tt
default_words line (constant ∷ repeats) =
    with_fault-holds AreDefault (fault_of (at_line line (any_decimal constant))) _
    (when_ok AreDefault AreIn (wide_enough line) (two_repeats line repeats) (two_bounds line repeats) (wide_bounds line))

pub default_bounds : (item : ItemLines) → IfOk (default_on item) AreDefault
default_bounds item = default_words item.line.number (words_of item)

repeats_are : (sites : Option ℕ) (r : Result (ℕ × ℕ) LineFault) → IfOk r (AreFew sites) → IfOk r AreRepeats
repeats_are sites (Ok r) are = (are.columns, are.rows)
repeats_are sites (Err f) are = tt

pub sizes_sound : (block : BlockLines) → IsSizes (cell_sizes block)
sizes_sound block = record {
  sites = some_ok (IsIn SITE_COUNT) (sites_in NCellSites block) (sites_bounds NCellSites block);
  repeats = some_ok AreRepeats (cell_repeats block) (repeats_are (result_ok (sites_in NCellSites block)) (cell_repeats block) (cell_bounds block));
  few = λ sites nx ny known repeated. (is_some (AreFew (result_ok (sites_in NCellSites block))) (cell_repeats block) (nx, ny) repeated
      (cell_bounds block)).few sites known;
}

-- each factor of a product of such numbers is at most the product
pub factors : (nx ny sites most : ℕ) → 1 ≤ nx → 1 ≤ ny → 1 ≤ sites → nx * ny * sites ≤ most → (nx ≤ most) × (ny ≤ most)
factors nx ny sites most columns rows some few =
    let a : nx * ny * 1 ≤ nx * ny * sites = mul-le-mul_left (nx * ny) some in
    let b : nx * 1 ≤ nx * ny = mul-le-mul_left nx rows in
    let d : 1 * ny ≤ nx * ny = mul-le-mul_right ny columns in
    (omega arith, omega arith)

-- the repeats of a cell of a known number of sites
pub few_of : (sizes : Sizes) → IsSizes sizes → (sites nx ny : ℕ) → sizes.sites ≡ Some sites → sizes.repeats ≡ Some (nx, ny)
    → (nx ≤ MAX_SITES) × (ny ≤ MAX_SITES)
few_of sizes sound sites nx ny known repeated =
    let some : 1 ≤ sites = (rw known at sound.sites).0 in
    let pair : AreRepeats (nx, ny) = rw repeated at sound.repeats in
    factors nx ny sites MAX_SITES pair.0 pair.1 some (sound.few sites nx ny known repeated)

few_from : (n : ℕ) (r : Result (List (List ℕ)) LineFault) → n ≤ MAX_SITE_TYPES → IfOk r (λ names. length names ≡ n)
    → IfOk r (λ names. length names ≤ MAX_SITE_TYPES)
few_from n (Ok names) low is = omega (arith, is, low)
few_from n (Err g) low is = tt

names_few : (types : Result ℕ LineFault) (block : BlockLines) → IfOk types (IsIn TYPE_COUNT) → (read : Option ℕ → Result (List (List ℕ)) LineFault)
    → ((n : ℕ) → IfOk (read (Some n)) (λ names. length names ≡ n))
    → IfOk (with_fault (fault_of types) (read (result_ok types))) (λ names. length names ≤ MAX_SITE_TYPES)
names_few (Err f) block are read long = none-holds (λ names. length names ≤ MAX_SITE_TYPES) f (read None)
names_few (Ok n) block are read long = few_from n (read (Some n)) are.1 (long n)

line_long : (n : ℕ) (item : ItemLines) → IfOk (names_line (Some n) item) (λ names. length names ≡ n)
line_long n item =
    let words = arguments_of item.line in
    value_map-holds (λ names. length names ≡ n) bytes_of (names_on (Some n) item.line.number words)
    (names_on-holds (λ runs. length (bytes_of runs) ≡ n) n item.line.number words (λ same. length-map words (λ (word : Run). word.bytes) ∙ same))

pub names_bounds : (block : BlockLines) → IfOk (type_names block) (λ names. length names ≤ MAX_SITE_TYPES)
names_bounds block =
    names_few (types_in block) block (types_bounds block) (λ count. required SiteTypeNames block (names_line count))
    (λ n. required-holds (λ names. length names ≡ n) SiteTypeNames block (names_line (Some n)) (line_long n))

pub words_count : (n : ℕ) (block : BlockLines) → IfOk (type_words (Some n) block) (λ words. length words ≡ n)
words_count n block =
    required-holds (λ words. length words ≡ n) SiteTypes block _
    (λ item. words_on-holds (λ (words : List NameWord). length words ≡ n) n item.line.number (names_of_line item) (λ same. same))

-- too few repeats are given
pub too_few : {X : Type 0} (line : ℕ) (h : X → List ℕ) (words : List X) → length words < 2
    → two_repeats line (map h words) ≡ Err (record { line = line; kind = ARGUMENT_COUNT })
too_few line h [] few = refl
too_few line h (word ∷ []) few = refl
too_few line h (word ∷ next ∷ words) few = absurd (omega arith)
