-- clusters or steps that are listed one after another
use Rattle.std.proofs.Common.{◌≡◌, ◌∙◌, ap, append_assoc, arith, refl, List, [], ◌∷◌, map, None, Option, Some, Result, Ok, Err, IfOk}
use Rattle.std.specs.List.{flat_map}
use Rattle.std.proofs.lemmas.Bool.Decides.{nat_tests}
use Rattle.deck_words.specs.Faults.{both, earlier, value_map, with_fault}
use Rattle.deck_words.specs.declared.fault.LineFault.{LineFault}
use Rattle.pattern_rows.specs.Listings.{Listing, joined, made_of, with_next, with_variants}

earlier_groups : (a b c : LineFault) → earlier (earlier a b) c ≡ earlier a (earlier b c)
earlier_groups a b c = grind (arith, nat_tests)

module _ {A B V : Type 0} (make : B → V → A) where
  -- a variant after some is the first of those that are left
  pub next_variant : (listing : Result (Listing A B) LineFault) (next : Result V LineFault) (rest : Result (List V) LineFault)
      → with_variants make (with_next make listing next) rest ≡ with_variants make listing (value_map (λ found. found.0 ∷ found.1) (both next rest))
  next_variant (Ok found) (Ok v) (Ok vs) = ap (λ list. Ok list) (append_assoc found.0 (make found.1 v ∷ []) (map (make found.1) vs))
  next_variant (Ok found) (Ok v) (Err h) = refl
  next_variant (Ok found) (Err g) (Ok vs) = refl
  next_variant (Ok found) (Err g) (Err h) = refl
  next_variant (Err f) (Ok v) (Ok vs) = refl
  next_variant (Err f) (Ok v) (Err h) = refl
  next_variant (Err f) (Err g) (Ok vs) = refl
  next_variant (Err f) (Err g) (Err h) = ap (λ e. Err e) (earlier_groups f g h)

  without_own : (before : Result (List A) LineFault) (body : Result B LineFault) (variants : Result (List V) LineFault)
      → with_variants make (both before body) variants ≡ joined before (made_of make body variants)
  without_own (Ok cs) (Ok p) (Ok vs) = refl
  without_own (Ok cs) (Ok p) (Err h) = refl
  without_own (Ok cs) (Err g) (Ok vs) = refl
  without_own (Ok cs) (Err g) (Err h) = refl
  without_own (Err f) (Ok p) (Ok vs) = refl
  without_own (Err f) (Ok p) (Err h) = refl
  without_own (Err f) (Err g) (Ok vs) = refl
  without_own (Err f) (Err g) (Err h) = ap (λ e. Err e) (earlier_groups f g h)

  -- a fault beside the first of two values is one beside both
  fault_first : (fault : Option LineFault) (body : Result B LineFault) (variants : Result (List V) LineFault)
      → made_of make (with_fault fault body) variants ≡ with_fault fault (made_of make body variants)
  fault_first None body variants = refl
  fault_first (Some f) (Ok p) (Ok vs) = refl
  fault_first (Some f) (Ok p) (Err h) = refl
  fault_first (Some f) (Err g) (Ok vs) = refl
  fault_first (Some f) (Err g) (Err h) = ap (λ e. Err e) (earlier_groups f g h)

  -- some, and those of a block
  pub section_listed : (before : Result (List A) LineFault) (own : Option LineFault) (body : Result B LineFault) (variants : Result (List V) LineFault)
      → with_variants make (both before (with_fault own body)) variants ≡ joined before (with_fault own (made_of make body variants))
  section_listed before own body variants =
      without_own before (with_fault own body) variants ∙ ap (joined before) (fault_first own body variants)

module _ {A : Type 0} where
  abbrev pub together : Result (List (List A)) LineFault → Result (List A) LineFault
  together lists = value_map (flat_map (λ found. found)) lists

  -- those of a block after some others are the first of those that are left
  pub next_section : (before next : Result (List A) LineFault) (rest : Result (List (List A)) LineFault)
      → joined (joined before next) (together rest) ≡ joined before (together (value_map (λ found. found.0 ∷ found.1) (both next rest)))
  next_section (Ok a) (Ok b) (Ok ls) = ap (λ list. Ok list) (append_assoc a b (flat_map (λ found. found) ls))
  next_section (Ok a) (Ok b) (Err h) = refl
  next_section (Ok a) (Err g) (Ok ls) = refl
  next_section (Ok a) (Err g) (Err h) = refl
  next_section (Err f) (Ok b) (Ok ls) = refl
  next_section (Err f) (Ok b) (Err h) = refl
  next_section (Err f) (Err g) (Ok ls) = refl
  next_section (Err f) (Err g) (Err h) = ap (λ e. Err e) (earlier_groups f g h)

-- what functions make of values that are read together
pub both_mapped : {A B C D : Type 0} (f : A → B) (g : C → D) (a : Result A LineFault) (b : Result C LineFault)
    → value_map (λ found. (f found.0, g found.1)) (both a b) ≡ both (value_map f a) (value_map g b)
both_mapped f g (Ok x) (Ok y) = refl
both_mapped f g (Ok x) (Err e) = refl
both_mapped f g (Err e) (Ok y) = refl
both_mapped f g (Err d) (Err e) = refl

pub fault_mapped : {A B : Type 0} (f : A → B) (fault : Option LineFault) (a : Result A LineFault)
    → value_map f (with_fault fault a) ≡ with_fault fault (value_map f a)
fault_mapped f None a = refl
fault_mapped f (Some e) (Ok x) = refl
fault_mapped f (Some e) (Err g) = refl

-- what holds of what a function makes of a value
pub unmapped-holds : {A B : Type 0} (P : B → Type 0) (f : A → B) (r : Result A LineFault) → IfOk (value_map f r) P → IfOk r (λ x. P (f x))
unmapped-holds P f (Ok x) p = p
unmapped-holds P f (Err e) p = tt

pub mapped_twice : {A B C : Type 0} (f : B → C) (g : A → B) (r : Result A LineFault) → value_map f (value_map g r) ≡ value_map (λ x. f (g x)) r
mapped_twice f g (Ok x) = refl
mapped_twice f g (Err e) = refl

-- those of a block, as they are read
module _ {A B V A' B' : Type 0} (make : B → V → A) (items : A' → List A) (at : B' → B) where
  pub section_read : (before : Result A' LineFault) (own : Option LineFault) (body : Result B' LineFault) (variants : Result (List V) LineFault)
      → with_variants make (value_map (λ found. (items found.0, at found.1)) (both before (with_fault own body))) variants
      ≡ joined (value_map items before) (with_fault own (made_of make (value_map at body) variants))
  section_read before own body variants =
      ap (λ listing. with_variants make listing variants)
      (both_mapped items at before (with_fault own body) ∙ ap (both (value_map items before)) (fault_mapped at own body))
      ∙ section_listed make (value_map items before) own (value_map at body) variants
