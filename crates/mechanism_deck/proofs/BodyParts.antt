-- the parts of a step, as they are read
use Rattle.std.proofs.Common.{◌≡◌, ◌∙◌, ap, refl, sym, Result, Ok, Err}
use Rattle.deck_words.specs.Faults.{both, value_map}
use Rattle.deck_words.specs.declared.fault.LineFault.{LineFault}
use Rattle.pattern_rows.proofs.ListedVariants.{both_mapped}

-- what a function makes of the second of two values
second_mapped : {A B C : Type 0} (g : B → C) (a : Result A LineFault) (b : Result B LineFault)
    → value_map (λ found. (found.0, g found.1)) (both a b) ≡ both a (value_map g b)
second_mapped g (Ok x) (Ok y) = refl
second_mapped g (Ok x) (Err e) = refl
second_mapped g (Err e) (Ok y) = refl
second_mapped g (Err d) (Err e) = refl

module _ {A A' S E E' R R' Y : Type 0} (g : A → A') (e : E → E') (r : R → R') (make : A' × (S × (E' × (R' × R'))) → Y) where
  -- a fault of some parts, which are seen in one way or another
  pub parts_fault : (gas : Result A LineFault) (sites : Result S LineFault) (edges : Result E LineFault) (before after : Result R LineFault)
      (fault : LineFault) → both gas (both sites (both edges (both before after))) ≡ Err fault
      → value_map make (both (value_map g gas) (both sites (both (value_map e edges) (both (value_map r before) (value_map r after))))) ≡ Err fault
  parts_fault gas sites edges before after fault is =
      let rows : R × R → R' × R' = λ found. (r found.0, r found.1) in
      let sides : E × (R × R) → E' × (R' × R') = λ found. (e found.0, rows found.1) in
      let placed : S × (E × (R × R)) → S × (E' × (R' × R')) = λ found. (found.0, sides found.1) in
      ap (value_map make)
      (ap (λ x. both (value_map g gas) (both sites (both (value_map e edges) x))) (sym (both_mapped r r before after))
      ∙ ap (λ x. both (value_map g gas) (both sites x)) (sym (both_mapped e rows edges (both before after)))
      ∙ ap (both (value_map g gas)) (sym (second_mapped sides sites (both edges (both before after))))
      ∙ sym (both_mapped g placed gas (both sites (both edges (both before after))))
      ∙ ap (value_map (λ found. (g found.0, placed found.1))) is)
