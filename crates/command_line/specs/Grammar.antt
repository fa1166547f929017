-- The command line of kmc: which words are taken, and what they ask for. The words are those after the program's name.
use Rattle.std.specs.Prelude.{ℕ, List, [], ◌∷◌, Option, None, Some, true, codes, if◌then◌else◌, ◌≤◌, ⊤}
use Rattle.std.specs.Prelude.{option_and_then, option_map, unwrap_or}
use Rattle.std.specs.Str.{bytes_eq}
use Rattle.std.specs.Str.Parse.{digits_value, without_leading_plus}
use Rattle.clap.specs.Faults.{fault_of}
use Rattle.clap.specs.Simple.{App, matches_of, new_app, new_rule, on_top, with_rule}
use Rattle.clap.specs.Walk.{Row, Rule, Text, first_of, is_empty, one_of}
use Rattle.clap.specs.declared.builder.action.ArgAction.TheVariants.{Set}
use Rattle.clap.specs.declared.builder.value_parser.ValueParser.TheVariants.{Unsigned}
use Rattle.command_line.specs.declared.line.CommandLine.{CommandLine}
use Rattle.command_line.specs.declared.line.Mode.{Mode}
use Rattle.command_line.specs.declared.line.Mode.TheVariants.{Run, Check, Sample}
use Rattle.command_line.specs.declared.line.TheConstants.{MAX_SPREAD, MAX_WORKERS}
use Rattle.deck_maker.specs.declared.decks.TheConstants.{MAX_DECK}

-- the word that says what to do, as in `run`: the first word that belongs to no option. It is required
abbrev pub mode_rule : Rule
mode_rule = record (new_rule (codes "mode")) { required = true }

-- the word after it, as in `sample 12`: a whole number from 0 to `MAX_DECK`. It may be left out
abbrev pub deck_rule : Rule
deck_rule = record (new_rule (codes "number")) { parser = Some (Unsigned 0 MAX_DECK) }

-- an option, as in `--workers 4` or `--workers=4`, with a whole number from 1 to `most`. Without the option the number is
-- `default`
abbrev pub number_rule : Text → ℕ → Text → Rule
number_rule name most default = record (new_rule name) {
  long = Some name;
  action = Some Set;
  parser = Some (Unsigned 1 most);
  defaults = default ∷ [];
}

-- the command `kmc`, as clap reads it: a required word, a number that may follow it and two options, and no `--help`. The
-- program's name is not among its words
unfoldable pub kmc_line : App
kmc_line = with_rule (with_rule (with_rule (with_rule (on_top (λ s. record s { no_binary_name = true; disable_help_flag = true })
    (new_app (codes "kmc")))
    mode_rule)
    deck_rule)
    (number_rule (codes "workers") MAX_WORKERS (codes "1")))
    (number_rule (codes "spread") MAX_SPREAD (codes "64"))

-- what the required word says to do, with the number after it, if there is one: `run` and `check` take no number, and
-- `sample` needs one. None for all else
abbrev pub mode_of : Text → Option ℕ → Option Mode
mode_of word None = if bytes_eq word (codes "run") then Some Run
    else (if bytes_eq word (codes "check") then Some Check else None)
mode_of word (Some number) = if bytes_eq word (codes "sample") then Some (Sample number) else None

-- the number of a text of decimal digits. A `+` before them and zeros in front change nothing
abbrev pub number_of : Text → ℕ
number_of text = digits_value 10 (without_leading_plus text)

-- the number of an argument, if clap's matches have a text for it
abbrev pub number_in : Text → List Row → Option ℕ
number_in name matches = option_map number_of (one_of name matches)

-- the number of an option: clap's matches have a text for it, from the words or by default
abbrev pub option_number : Text → List Row → ℕ
option_number name matches = unwrap_or (number_in name matches) 0

-- what the required word of clap's matches and the number after it say to do
abbrev pub mode_in : List Row → Option Mode
mode_in matches = option_and_then (λ word. mode_of word (number_in (codes "number") matches)) (first_of (codes "mode") matches)

-- what clap's matches ask for, by the value of each argument. None if the required word is no known one, or if it has a
-- number that it does not take, or lacks one that it needs
abbrev pub line_of : List Row → Option CommandLine
line_of matches = option_map (λ mode. record {
  mode = mode;
  workers = option_number (codes "workers") matches;
  spread = option_number (codes "spread") matches;
}) (mode_in matches)

-- What the words ask for. `fault_of` is clap's list of what may be wrong with the words: it is empty if and only if clap
-- takes them, and then `matches_of` has the values of each argument. None for all other words.
unfoldable pub command_line : List Text → Option CommandLine
command_line words = if is_empty (fault_of kmc_line words) then line_of (matches_of kmc_line words) else None

-- where a deck is to be made, its number is one that may be asked for
abbrev pub MayMake : Mode → Type 0
MayMake (Sample number) = number ≤ MAX_DECK
MayMake mode = ⊤
