-- What a refusal of a put says.
use Rattle.std.specs.Prelude.{◌≡◌, ℕ}
use Rattle.atomic_table.specs.declared.shared.Seat.{Seat}
use Rattle.board_turn.specs.Shown.{IsBusy, FoundTwice}
use Rattle.board_turn.specs.declared.view.View.{View}
use Rattle.board_turn.specs.declared.refused.PutRefused.{PutRefused}
use Rattle.board_turn.specs.declared.refused.PutRefused.TheVariants.{Busy, OutOfMemory}

-- another pass had the turn, or there was no memory for the finding and the puts are as they were. The finding is back
abbrev pub IsRefusal : {S K F : Type 0} → Seat S (View K) → Seat S (View K) → F → PutRefused F → Type 0
IsRefusal old new finding (Busy was seen back) = (back ≡ finding) × IsBusy old new was seen
IsRefusal old new finding (OutOfMemory back) = (back ≡ finding) × (new.me.0.puts ≡ old.me.0.puts) × ((word : ℕ) × FoundTwice old new word)
