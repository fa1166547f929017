-- What is left of a piece, of which a front was written.
use Rattle.std.proofs.Common.{◌≡◌, ℕ, List, ◌++◌, Option, length, take, drop, sym, ap, ◌∙◌, subst, append_assoc, take-append-drop}
use Rattle.std.specs.Io.KnownBytes.{Appends}
use lib.Seq.{take-append_seam}

-- a front of the whole was appended
pub front_appended : (a b : Option (List ℕ)) (all done rest : List ℕ) → all ≡ done ++ rest → Appends a b done → (n : ℕ) × Appends a b (take n all)
front_appended a b all done rest e p =
    let same : take (length done) all ≡ done = ap (take (length done)) e ∙ take-append_seam done rest in
    (length done, subst (Appends a b) (sym same) p)

-- a further front of what was left is behind the front that was done
pub front_moved : (all done rest : List ℕ) (n : ℕ) → all ≡ done ++ rest → all ≡ (done ++ take n rest) ++ drop n rest
front_moved all done rest n e = e ∙ ap (λ l. done ++ l) (sym (take-append-drop n rest)) ∙ sym (append_assoc done (take n rest) (drop n rest))
