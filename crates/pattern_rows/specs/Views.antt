-- Rows of states as they are read, seen in their text.
use Rattle.std.specs.Prelude.{ℕ, List, None, Some}
use Rattle.deck_shape.specs.Names.{name_at}
use Rattle.pattern_rows.specs.States.{StateWords}
use Rattle.pattern_rows.specs.declared.state.StateRow.{StateRow}
use Rattle.pattern_rows.specs.declared.state.StateRow.TheVariants.{Any, Is}

-- what a row says in its text
abbrev pub state_at : List ℕ → StateRow → StateWords
state_at text Any = None
state_at text (Is entity species dentate) = Some (record { entity = entity; species = name_at text species; dentate = dentate })
