-- Word lines: what is behind their keywords, as words and as names.
use Rattle.std.specs.Prelude.{ℕ, List, [], map, Option, unwrap_or}
use Rattle.std.specs.List.{find}
use Rattle.std.specs.Option.{option_map, option_map_or}
use Rattle.dec_text.specs.Lines.{Run}
use Rattle.deck_shape.specs.Blocks.{ItemLines, has_keyword}
use Rattle.deck_shape.specs.LineWords.{arguments_of}
use Rattle.deck_shape.specs.Names.{NameWord, on_line}
use Rattle.deck_words.specs.declared.keyword.Keyword.{Keyword}

-- the bytes of the words behind the keyword of a line
abbrev pub words_of : ItemLines → List (List ℕ)
words_of item = map (λ word. word.bytes) (arguments_of item.line)

-- the words behind a keyword of the file, if it has the keyword
abbrev pub words_behind : Keyword → List ItemLines → Option (List (List ℕ))
words_behind keyword items = option_map words_of (find (has_keyword keyword) items)

-- the words behind a keyword with their places in the text, if the file has the keyword
abbrev pub runs_behind : Keyword → List ItemLines → Option (List Run)
runs_behind keyword items = option_map (λ item. arguments_of item.line) (find (has_keyword keyword) items)

-- the words of a list, none where it is absent
abbrev pub list_in : Keyword → List ItemLines → List (List ℕ)
list_in keyword items = unwrap_or (words_behind keyword items) []

-- the words of a list with their places, none where it is absent
abbrev pub runs_in : Keyword → List ItemLines → List Run
runs_in keyword items = unwrap_or (runs_behind keyword items) []

-- the names on a line
abbrev pub names_on : ItemLines → List NameWord
names_on item = map (on_line item.line.number) (arguments_of item.line)

-- the names of a list, none where it is absent
abbrev pub names_in : Keyword → List ItemLines → List NameWord
names_in keyword items = option_map_or names_on (find (has_keyword keyword) items) []
