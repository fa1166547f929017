-- The bytes that cut a text into lines, comments and words.
use Rattle.std.specs.Prelude.{◌==◌, ℕ, Bool, ◌||◌}

-- the byte that ends a line: LF
abbrev pub is_line_feed : ℕ → Bool
is_line_feed b = b == 10

-- the byte that begins a comment: '#'
abbrev pub is_comment_mark : ℕ → Bool
is_comment_mark b = b == 35

-- what separates words: space, tab, CR or LF
abbrev pub is_blank : ℕ → Bool
is_blank b = b == 32 || b == 9 || b == 13 || b == 10
