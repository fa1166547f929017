-- Clusters or steps that are listed one after another: each is made of what the variants of a block have in common and of
-- what a variant has of its own. No public contract cites this file.
use Rattle.std.specs.Prelude.{List, [], ◌∷◌, ◌++◌, map, Result}
use Rattle.deck_words.specs.Faults.{both, value_map}
use Rattle.deck_words.specs.declared.fault.LineFault.{LineFault}

-- those so far, and what those that follow have in common
abbrev pub Listing : Type 0 → Type 0 → Type 0
Listing A B = List A × B

-- what is made of variants and what they have in common
abbrev pub made_of : {A B V : Type 0} → (B → V → A) → Result B LineFault → Result (List V) LineFault → Result (List A) LineFault
made_of make body variants = value_map (λ found. map (make found.0) found.1) (both body variants)

-- one variant more
abbrev pub with_next : {A B V : Type 0} → (B → V → A) → Result (Listing A B) LineFault → Result V LineFault → Result (Listing A B) LineFault
with_next make listing variant = value_map (λ found. (found.0.0 ++ make found.0.1 found.1 ∷ [], found.0.1)) (both listing variant)

-- some, and those of some variants
abbrev pub with_variants : {A B V : Type 0} → (B → V → A) → Result (Listing A B) LineFault → Result (List V) LineFault → Result (List A) LineFault
with_variants make listing variants = value_map (λ found. found.0.0 ++ map (make found.0.1) found.1) (both listing variants)

-- some, and others after them
abbrev pub joined : {A : Type 0} → Result (List A) LineFault → Result (List A) LineFault → Result (List A) LineFault
joined before after = value_map (λ parts. parts.0 ++ parts.1) (both before after)
