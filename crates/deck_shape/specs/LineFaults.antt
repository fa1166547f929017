-- The faults of form: which kinds hold at a line, by what has been read above it.
use Rattle.std.specs.Prelude.{ℕ, ◌&&◌, ◌||◌, ◌+◌, Bool, true, false, not, List, [], ◌∷◌, ◌++◌, length, Option, None, Some, Result, Ok, Err}
use Rattle.std.specs.Prelude.{if◌then◌else◌, nat_le, is_none, is_some, unwrap_or}
use Rattle.std.specs.List.{list_all, list_any}
use Rattle.std.specs.Option.{option_map_or}
use Rattle.dec_text.specs.Bytes.{is_line_feed}
use Rattle.dec_text.specs.Lines.{WordLine, runs, word_lines}
use Rattle.deck_shape.specs.Blocks.{BlockLines, FileLines, ItemLines, has_word_of, stands}
use Rattle.deck_shape.specs.LineWords.{arguments_of, is_row}
use Rattle.deck_shape.specs.Reading.{SoFar, argument_of, block_of, closed, lattice_block, read_after, nothing_read, rule_at}
use Rattle.deck_words.specs.Needs.{is_needed}
use Rattle.deck_words.specs.Tables.{allows, rules_of}
use Rattle.deck_words.specs.declared.keyword.Keyword.{Keyword}
use Rattle.deck_words.specs.declared.fault.LineFault.{LineFault}
use Rattle.deck_words.specs.declared.kind.TheConstants.{STRAY_ROW, UNKNOWN_WORD, UNSUPPORTED_WORD, ARGUMENT_COUNT, REPEATED_WORD}
use Rattle.deck_words.specs.declared.kind.TheConstants.{MISSING_WORD, NOT_CLOSED, UNKNOWN_LATTICE}
use Rattle.deck_shape.specs.declared.reading.Below.{Below}
use Rattle.deck_shape.specs.declared.reading.Below.TheVariants.{Words, Rows, Enclosed}
use Rattle.deck_words.specs.declared.table.BlockForm.{BlockForm}
use Rattle.deck_words.specs.declared.table.Need.{Need}
use Rattle.deck_words.specs.declared.table.Need.TheVariants.{Optional, Required, ThisOr, HereOrInVariants}
use Rattle.deck_words.specs.declared.table.Role.{Role}
use Rattle.deck_words.specs.declared.table.Role.TheVariants.{Value, Rows as HasRows, Encloses, Opens, Begins, BeginsLattice}
use Rattle.deck_words.specs.declared.table.Role.TheVariants.{Closes, Unsupported}
use Rattle.deck_words.specs.declared.table.Rule.{Rule}

-- the next line may be a row
abbrev pub takes_rows : Below → Bool
takes_rows Words = false
takes_rows Rows = true
takes_rows (Enclosed rows) = true

-- a word's role is to close a block
abbrev pub closes : Role → Bool
closes Value = false
closes HasRows = false
closes (Encloses rows) = false
closes (Opens form) = false
closes (Begins form) = false
closes BeginsLattice = false
closes Closes = true
closes Unsupported = false

-- a word's role is to open the block of a lattice file
abbrev pub begins_lattice : Role → Bool
begins_lattice Value = false
begins_lattice HasRows = false
begins_lattice (Encloses rows) = false
begins_lattice (Opens form) = false
begins_lattice (Begins form) = false
begins_lattice BeginsLattice = true
begins_lattice Closes = false
begins_lattice Unsupported = false

-- a word is refused as one that kmc does not support
abbrev pub is_unsupported : Role → Bool
is_unsupported Value = false
is_unsupported HasRows = false
is_unsupported (Encloses rows) = false
is_unsupported (Opens form) = false
is_unsupported (Begins form) = false
is_unsupported BeginsLattice = false
is_unsupported Closes = false
is_unsupported Unsupported = true

-- a row before any word line, or below a word that has no rows
abbrev pub is_stray_row : SoFar → WordLine → Bool
is_stray_row so_far line = is_row line && not (takes_rows so_far.below)

-- a word that the block has not
abbrev pub is_unknown : SoFar → WordLine → Bool
is_unknown so_far line = not (is_row line) && is_none (rule_at so_far line)

-- a word has another number of arguments than it takes
abbrev pub has_other_count : WordLine → Rule → Bool
has_other_count line rule = not (allows rule.arguments (length (arguments_of line)))

-- a word that a block may have once is there again
abbrev pub is_repeated : List ItemLines → Rule → Bool
is_repeated items rule = rule.is_once && has_word_of rule items

-- a word may be in the variants of a block in its place
abbrev pub may_be_in_variants : Need → Bool
may_be_in_variants Optional = false
may_be_in_variants Required = false
may_be_in_variants (ThisOr other) = false
may_be_in_variants HereOrInVariants = true

-- each of some blocks has a keyword
abbrev pub all_have : Keyword → List BlockLines → Bool
all_have keyword blocks = list_all (λ block. stands keyword block.items) blocks

-- a block has variants, and each of them has a word that may be there in place of the block
abbrev pub is_in_variants : List BlockLines → Rule → Bool
is_in_variants [] rule = false
is_in_variants (variant ∷ variants) rule = may_be_in_variants rule.need && all_have rule.keyword (variant ∷ variants)

-- a word that a block with these variants has to have is not there
abbrev pub is_missing : List BlockLines → List ItemLines → Rule → Bool
is_missing variants items rule = is_needed rule.need && not (is_in_variants variants rule || has_word_of rule items)

-- the closing word of a block in which a word is missing
abbrev pub misses_word : BlockForm → List BlockLines → List ItemLines → Rule → Bool
misses_word form variants items rule = closes rule.role && list_any (is_missing variants items) (rules_of form)

-- the variants of the innermost block, by the open blocks around it: only a section of the file has any
abbrev pub variants_within : List BlockLines → List BlockLines → List BlockLines
variants_within [] variants = []
variants_within (file ∷ []) variants = variants
variants_within (section ∷ outer ∷ others) variants = []

-- the argument of the lattice file's first word names no lattice
abbrev pub names_no_lattice : WordLine → Rule → Bool
names_no_lattice line rule = begins_lattice rule.role && is_none (lattice_block (argument_of line))

-- this kind of fault, where it holds
abbrev pub fault_if : Bool → ℕ → Option ℕ
fault_if holds kind = if holds then Some kind else None

-- the lesser of two kinds of fault, where both or one hold
abbrev pub lesser : Option ℕ → Option ℕ → Option ℕ
lesser None b = b
lesser (Some a) None = Some a
lesser (Some a) (Some b) = if nat_le a b then Some a else Some b

-- of some kinds, each with whether it holds, the first that holds
abbrev pub first_kind : List (Bool × ℕ) → Option ℕ
first_kind [] = None
first_kind (fault ∷ faults) = if fault.0 then Some fault.1 else first_kind faults

-- of some kinds, each with whether it holds, the least that holds
abbrev pub least_kind : List (Bool × ℕ) → Option ℕ
least_kind [] = None
least_kind (fault ∷ faults) = lesser (fault_if fault.0 fault.1) (least_kind faults)

-- the kinds that may hold at a word that the block has, rising
abbrev pub rule_faults : SoFar → WordLine → Rule → List (Bool × ℕ)
rule_faults so_far line rule =
    (is_unsupported rule.role, UNSUPPORTED_WORD)
    ∷ (has_other_count line rule, ARGUMENT_COUNT)
    ∷ (is_repeated so_far.block.items rule, REPEATED_WORD)
    ∷ (misses_word (block_of so_far) (variants_within so_far.around so_far.variants) so_far.block.items rule, MISSING_WORD)
    ∷ (names_no_lattice line rule, UNKNOWN_LATTICE)
    ∷ []

-- all the kinds that may hold at a line, rising
abbrev pub line_faults : SoFar → WordLine → List (Bool × ℕ)
line_faults so_far line =
    (is_stray_row so_far line, STRAY_ROW)
    ∷ (is_unknown so_far line, UNKNOWN_WORD)
    ∷ option_map_or (rule_faults so_far line) (rule_at so_far line) []

-- the fault of a line: the least kind that holds
abbrev pub fault_at : SoFar → WordLine → Option ℕ
fault_at so_far line = least_kind (line_faults so_far line)

-- the next line is not in an enclosed block of rows
abbrev pub is_outermost : Below → Bool
is_outermost Words = true
is_outermost Rows = true
is_outermost (Enclosed rows) = false

-- no open block is around this one
abbrev pub is_alone : List BlockLines → Bool
is_alone [] = true
is_alone (outer ∷ others) = false

-- a line closes the file: it has the closing word of the file's block, outside enclosed rows and inner blocks
abbrev pub closes_file : SoFar → WordLine → Bool
closes_file so_far line =
    is_outermost so_far.below && is_alone so_far.around && option_map_or (λ rule. closes rule.role) (rule_at so_far line) false

-- how many lines a text has, those without words among them
abbrev pub line_count : List ℕ → ℕ
line_count text = length (runs is_line_feed 0 text)

-- A file is read line by line, with the lines above each one in view, up to the first that has a fault or that closes
-- the file; what is below it is not read. A file that ends before is not closed, at the line after its last. The
-- answer is the file by its blocks, or the line and the kind of the first fault.
abbrev pub read_below : SoFar → List WordLine → List WordLine → ℕ → Result FileLines LineFault
read_below first above [] count = Err (record { line = count + 1; kind = NOT_CLOSED })
read_below first above (line ∷ lines) count =
    if is_some (fault_at (read_after first above) line)
    then Err (record { line = line.number; kind = unwrap_or (fault_at (read_after first above) line) 0 })
    else
    (if closes_file (read_after first above) line
    then Ok (record {
      block = closed line.number (read_after first above).block;
      sections = (read_after first above).sections;
    })
    else read_below first (above ++ line ∷ []) lines count)

-- the blocks of a text, or its first fault of form
abbrev pub file_of_text : BlockForm → List ℕ → Result FileLines LineFault
file_of_text form text = read_below (nothing_read form) [] (word_lines text) (line_count text)
