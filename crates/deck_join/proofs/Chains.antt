-- Readings one after another, of which the first that fails ends them all.
use Rattle.std.proofs.Common.{◌≡◌, List, ℕ, Result, Ok, Err, sym, ap, ◌∙◌}
use Rattle.deck_join.specs.Answers.{Ends, and_then, in_file}
use Rattle.deck_join.specs.Passes.{blocks_in}
use Rattle.deck_shape.specs.Blocks.{file_at}
use Rattle.deck_shape.specs.Shapes.{IsFaultOf, IsShapeOf}
use Rattle.deck_shape.specs.declared.fault.DeckFault.{DeckFault}
use Rattle.deck_shape.specs.declared.fault.DeckFault.TheVariants.{Fault as Faulty, OutOfMemory}
use Rattle.deck_shape.specs.declared.fault.Fault.{Fault}
use Rattle.deck_shape.specs.declared.shape.Shape.{Shape}
use Rattle.deck_words.specs.Faults.{value_map}
use Rattle.deck_words.specs.declared.fault.LineFault.{LineFault}
use Rattle.kmc_base.specs.declared.ids.FileId.{FileId}

-- a reading that failed ends the readings after it
pub ends : {X Y : Type 0} (fault : DeckFault) (given : Result X Fault) (next : X → Result Y Fault)
    → Ends fault given → Ends fault (and_then given next)
ends (Faulty fault) given next is = ap (λ r. and_then r next) is
ends OutOfMemory given next is = tt

-- a reading of a file has a fault
pub file_fails : {X : Type 0} (file : FileId) (read : Result X LineFault) (fault : DeckFault) → IsFaultOf file read fault
    → Ends fault (in_file file read)
file_fails file read (Faulty fault) is =
    ap (in_file file) is.1 ∙ ap (λ (f : FileId). Err (record { file = f; line = fault.line; kind = fault.kind })) (sym is.0)
file_fails file read OutOfMemory is = tt

-- the lines of a file that has a shape
pub lines_read : (file : FileId) (text : List ℕ) (shape : Shape) → IsShapeOf file text shape → blocks_in file text ≡ Ok (file_at text shape)
lines_read file text shape s = ap (in_file file) s.read

-- a value that was read of a file, seen by a view
pub was_read : {L X : Type 0} (file : FileId) (view : L → X) (read : Result L LineFault) (value : L) (given : Result X LineFault)
    → in_file file read ≡ Ok value → value_map view read ≡ given → given ≡ Ok (view value)
was_read file view (Ok v) value given is seen =
    let same : v ≡ value = cc in
    sym seen ∙ ap (λ v. Ok (view v)) same
was_read file view (Err f) value given is seen = absurd (cc)
