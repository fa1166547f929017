-- the lines of the blocks of a file rise
use Rattle.std.proofs.Common.{◌≡◌, ℕ, ◌+◌, ◌<◌, ◌≤◌, true, false, List, [], ◌∷◌, ◌++◌, Ok, ap, arith, append_assoc, cond, map, subst, sym}
use Rattle.std.proofs.Common.{◌∙◌, refl, unwrap_or}
use Rattle.std.specs.List.{AllByRecursion, flat_map}
use Rattle.std.proofs.lemmas.List.{append-nil, map-append}
use Rattle.std.proofs.lemmas.Grind.{flat_map-append}
use Rattle.dec_text.specs.Bytes.{is_line_feed}
use Rattle.dec_text.specs.Lines.{Run, WordLine, is_filled, lines_from, runs, word_lines, words_of}
use Rattle.deck_shape.specs.Blocks.{BlockLines, FileLines, ItemLines, OfEachBlock, SectionLines, with_row}
use Rattle.deck_shape.specs.LineFaults.{file_of_text, line_count}
use Rattle.deck_shape.specs.Reading.{SoFar, after_closing, after_inner_block, after_word, argument_of, lattice_block, nothing_read, opened}
use Rattle.deck_shape.specs.RisingLines.{RiseFrom, RisesBlock, numbers_of}
use Rattle.deck_shape.specs.declared.reading.Below.{Below}
use Rattle.deck_shape.specs.declared.reading.Below.TheVariants.{Words, Rows, Enclosed}
use Rattle.deck_words.specs.declared.table.BlockForm.{BlockForm}
use Rattle.deck_words.specs.declared.table.Role.{Role}
use Rattle.deck_words.specs.declared.table.Role.TheVariants.{Value, Rows as HasRows, Encloses, Opens, Begins, BeginsLattice}
use Rattle.deck_words.specs.declared.table.Role.TheVariants.{Closes, Unsupported}
use Rattle.deck_shape.proofs.ReadBlocks.{read_has}

-- the lines of a section rise, and those of each of its variants
abbrev RisesSection : SectionLines → Type 0
RisesSection section = RisesBlock section.block × AllByRecursion RisesBlock section.variants

-- numbers rise, the first of them above a bound and none above another one
abbrev RiseTo : ℕ → List ℕ → ℕ → Type 0
RiseTo low [] high = low ≤ high
RiseTo low (number ∷ numbers) high = (low < number) × RiseTo number numbers high

rise_up : (low : ℕ) (numbers : List ℕ) (high higher : ℕ) → RiseTo low numbers high → high ≤ higher → RiseTo low numbers higher
rise_up low [] high higher rise up = omega arith
rise_up low (number ∷ numbers) high higher rise up = (rise.0, rise_up number numbers high higher rise.1 up)

rise_more : (low : ℕ) (numbers : List ℕ) (high next : ℕ) → RiseTo low numbers high → high < next → RiseTo low (numbers ++ next ∷ []) next
rise_more low [] high next rise more = (omega arith, omega arith)
rise_more low (number ∷ numbers) high next rise more = (rise.0, rise_more number numbers high next rise.1 more)

rise_last : (low : ℕ) (numbers : List ℕ) (high next : ℕ) → RiseTo low numbers high → high < next → RiseFrom low (numbers ++ next ∷ [])
rise_last low [] high next rise more = (omega arith, tt)
rise_last low (number ∷ numbers) high next rise more = (rise.0, rise_last number numbers high next rise.1 more)

-- the lines of an open block rise up to a bound
abbrev RisesTo : ℕ → BlockLines → Type 0
RisesTo bound block = RiseTo block.line (flat_map numbers_of block.items) bound

all_up : (bound higher : ℕ) (blocks : List BlockLines) → AllByRecursion (RisesTo bound) blocks → bound ≤ higher
    → AllByRecursion (RisesTo higher) blocks
all_up bound higher [] all up = tt
all_up bound higher (block ∷ blocks) all up =
    (rise_up block.line (flat_map numbers_of block.items) bound higher all.0 up, all_up bound higher blocks all.1 up)

all_pushed : {X : Type 0} (P : X → Type 0) (xs : List X) (x : X) → AllByRecursion P xs → P x → AllByRecursion P (xs ++ x ∷ [])
all_pushed P [] x all here = (here, tt)
all_pushed P (y ∷ ys) x all here = (all.0, all_pushed P ys x all.1 here)

row_numbers : (row : WordLine) (item : ItemLines) (items : List ItemLines)
    → flat_map numbers_of (with_row row (item ∷ items)) ≡ flat_map numbers_of (item ∷ items) ++ row.number ∷ []
row_numbers row item [] =
    append-nil (item.line.number ∷ map (λ r. r.number) (item.rows ++ row ∷ []))
    ∙ ap (λ rows. item.line.number ∷ rows) (map-append (λ r. r.number) item.rows (row ∷ []))
    ∙ ap (λ numbers. numbers ++ row.number ∷ []) (sym (append-nil (numbers_of item)))
row_numbers row item (next ∷ items) =
    ap (λ rest. numbers_of item ++ rest) (row_numbers row next items)
    ∙ sym (append_assoc (numbers_of item) (flat_map numbers_of (next ∷ items)) (row.number ∷ []))

row_rises : (low : ℕ) (row : WordLine) (items : List ItemLines) (high : ℕ) → RiseTo low (flat_map numbers_of items) high → high < row.number
    → RiseTo low (flat_map numbers_of (with_row row items)) row.number
row_rises low row [] high rise more = omega arith
row_rises low row (item ∷ items) high rise more =
    subst (λ numbers. RiseTo low numbers row.number) (sym (row_numbers row item items))
    (rise_more low (flat_map numbers_of (item ∷ items)) high row.number rise more)

word_rises : (low : ℕ) (line : WordLine) (items : List ItemLines) (high : ℕ) → RiseTo low (flat_map numbers_of items) high → high < line.number
    → RiseTo low (flat_map numbers_of (items ++ record { line = line; rows = [] } ∷ [])) line.number
word_rises low line items high rise more =
    subst (λ numbers. RiseTo low numbers line.number) (sym (flat_map-append numbers_of items (record { line = line; rows = [] } ∷ [])))
    (rise_more low (flat_map numbers_of items) high line.number rise more)

-- the lines that are left are below those that are read
abbrev AreBelow : ℕ → List WordLine → Type 0
AreBelow bound [] = Unit {0}
AreBelow bound (line ∷ lines) = (bound < line.number) × AreBelow line.number lines

one_less : (bound : ℕ) (line : WordLine) (lines : List WordLine) → AreBelow bound (line ∷ lines) → AreBelow bound lines
one_less bound line [] below = tt
one_less bound line (next ∷ lines) below = (let first = below.0 in let second = below.1.0 in omega arith, below.1.1)

lines_rise : (bound number : ℕ) (texts : List Run) → bound < number → AreBelow bound (lines_from number texts)
lines_rise bound number [] less = tt
lines_rise bound number (text ∷ texts) less =
    let line : WordLine = record { number = number; words = words_of text } in
    elim (is_filled (words_of text)) as (λ has. AreBelow bound (cond has (line ∷ lines_from (number + 1) texts) (lines_from (number + 1) texts)))
    [ true ↦ (less, lines_rise number (number + 1) texts (omega arith)) | false ↦ lines_rise bound (number + 1) texts (omega arith) ]

-- what is read so far of a file, and the lines that are left
record IsRising (so_far : SoFar) (lines : List WordLine) : Type 0 where
  bound : ℕ
  inner : RisesTo bound so_far.block
  around : AllByRecursion (RisesTo bound) so_far.around
  variants : AllByRecursion RisesBlock so_far.variants
  sections : AllByRecursion RisesSection so_far.sections
  below : AreBelow bound lines

module _ (line : WordLine) (lines : List WordLine) where
  passed : (so_far : SoFar) → IsRising so_far (line ∷ lines) → IsRising so_far lines
  passed so_far rising = record {
    bound = rising.bound;
    inner = rising.inner;
    around = rising.around;
    variants = rising.variants;
    sections = rising.sections;
    below = one_less rising.bound line lines rising.below;
  }

  -- the innermost block is closed
  module _ (block : BlockLines) (below : Below) (variants : List BlockLines) (sections : List SectionLines) where
    abbrev at : List BlockLines → SoFar
    at around = record { block = block; below = below; around = around; variants = variants; sections = sections }

    inner_closed : (around : List BlockLines) → IsRising (at around) (line ∷ lines)
        → IsRising (after_inner_block line.number around (at around)) lines
    inner_closed [] rising = passed (at []) rising
    inner_closed (file ∷ []) rising =
        let more : rising.bound < line.number = rising.below.0 in
        record {
          bound = line.number;
          inner = rise_up file.line (flat_map numbers_of file.items) rising.bound line.number rising.around.0 (omega arith);
          around = tt;
          variants = tt;
          sections = all_pushed RisesSection sections _ rising.sections
              (rise_last block.line (flat_map numbers_of block.items) rising.bound line.number rising.inner more, rising.variants);
          below = rising.below.1;
        }
    inner_closed (section ∷ outer ∷ others) rising =
        let more : rising.bound < line.number = rising.below.0 in
        record {
          bound = line.number;
          inner = rise_up section.line (flat_map numbers_of section.items) rising.bound line.number rising.around.0 (omega arith);
          around = all_up rising.bound line.number (outer ∷ others) rising.around.1 (omega arith);
          variants = all_pushed RisesBlock variants _ rising.variants
              (rise_last block.line (flat_map numbers_of block.items) rising.bound line.number rising.inner more);
          sections = rising.sections;
          below = rising.below.1;
        }

  closing_read : (so_far : SoFar) (below : Below) → so_far.below ≡ below → IsRising so_far (line ∷ lines) → IsRising (after_closing line so_far
      below) lines
  closing_read so_far (Enclosed rows) is rising = record {
    bound = rising.bound;
    inner = rising.inner;
    around = rising.around;
    variants = rising.variants;
    sections = rising.sections;
    below = one_less rising.bound line lines rising.below;
  }
  closing_read so_far Words is rising = inner_closed so_far.block so_far.below so_far.variants so_far.sections so_far.around rising
  closing_read so_far Rows is rising = inner_closed so_far.block so_far.below so_far.variants so_far.sections so_far.around rising

  -- a word line more of the innermost block
  item_read : (so_far : SoFar) (below : Below) → IsRising so_far (line ∷ lines)
      → IsRising (record so_far {
        block = record so_far.block { items = so_far.block.items ++ record { line = line; rows = [] } ∷ [] };
        below =
            below;
      }) lines
  item_read so_far below rising = record {
    bound = line.number;
    inner = word_rises so_far.block.line line so_far.block.items rising.bound rising.inner rising.below.0;
    around = all_up rising.bound line.number so_far.around rising.around (let more = rising.below.0 in omega arith);
    variants = rising.variants;
    sections = rising.sections;
    below = rising.below.1;
  }

  only_open_read : (so_far : SoFar) (form : BlockForm) → IsRising so_far (line ∷ lines)
      → IsRising (record { block = opened line form; below = Words; around = []; variants = []; sections = [] }) lines
  only_open_read so_far form rising =
      record { bound = line.number; inner = omega arith; around = tt; variants = tt; sections = tt; below = rising.below.1 }

  by_role : (so_far : SoFar) → IsRising so_far (line ∷ lines) → (role : Role) → IsRising (after_word line so_far role) lines
  by_role so_far rising Value = item_read so_far Words rising
  by_role so_far rising HasRows = item_read so_far Rows rising
  by_role so_far rising (Encloses rows) = item_read so_far (Enclosed rows) rising
  by_role so_far rising (Opens form) =
      let up : rising.bound ≤ line.number = (let more = rising.below.0 in omega arith) in
      record {
        bound = line.number;
        inner = omega arith;
        around = (
          rise_up so_far.block.line (flat_map numbers_of so_far.block.items) rising.bound line.number rising.inner up,
          all_up rising.bound line.number so_far.around rising.around up,
        );
        variants = rising.variants;
        sections = rising.sections;
        below = rising.below.1;
      }
  by_role so_far rising (Begins form) = only_open_read so_far form rising
  by_role so_far rising BeginsLattice = only_open_read so_far (unwrap_or (lattice_block (argument_of line)) so_far.block.form) rising
  by_role so_far rising Closes = closing_read so_far so_far.below refl rising
  by_role so_far rising Unsupported = passed so_far rising

  row_read : (so_far : SoFar) → IsRising so_far (line ∷ lines)
      → IsRising (record so_far { block = record so_far.block { items = with_row line so_far.block.items } }) lines
  row_read so_far rising = record {
    bound = line.number;
    inner = row_rises so_far.block.line line so_far.block.items rising.bound rising.inner rising.below.0;
    around = all_up rising.bound line.number so_far.around rising.around (let more = rising.below.0 in omega arith);
    variants = rising.variants;
    sections = rising.sections;
    below = rising.below.1;
  }

-- the lines of each block of a file rise
pub rising_file : (form : BlockForm) (text : List ℕ) (file : FileLines) → file_of_text form text ≡ Ok file → OfEachBlock RisesBlock file
rising_file form text file is =
    read_has IsRising (OfEachBlock RisesBlock)
    (λ so_far line lines rising. row_read line lines so_far rising)
    (λ so_far line lines rising. passed line lines so_far rising)
    (λ so_far line lines rule rising has none. by_role line lines so_far rising rule.role)
    (λ so_far line lines rule rising closes none. (
      rise_last so_far.block.line (flat_map numbers_of so_far.block.items) rising.bound line.number rising.inner rising.below.0,
      rising.sections,
    ))
    (nothing_read form) [] (word_lines text) (line_count text) file
    (record {
      bound = 0;
      inner = omega arith;
      around = tt;
      variants = tt;
      sections = tt;
      below = lines_rise 0 1 (runs is_line_feed 0 text) (omega arith);
    }) is
