-- what a step states for its variants, word by word
use Rattle.std.proofs.Common.{◌≡◌, ◌∙◌, ap, ℕ, ℤ, List, Option, Result}
use Rattle.dec_text.specs.Decimals.{Scientific}
use Rattle.deck_shape.specs.Names.{NameWord}
use Rattle.deck_words.specs.declared.fault.LineFault.{LineFault}
use Rattle.mechanism_deck.specs.Steps.{CommonValues}

-- a fault, by its line and its kind
pub fault_is : (fault : LineFault) (line kind : ℕ) → fault.line ≡ line → fault.kind ≡ kind
    → ◌≡◌ {A = LineFault} fault (record { line = line; kind = kind })
fault_is fault line kind at is =
    ap (λ n. record { line = n; kind = fault.kind }) at ∙ ap (λ k. record { line = line; kind = k }) is

-- the same words state the same
pub same_common : (types types' : Result (List NameWord) LineFault) (factor factor' : Result Scientific LineFault)
    (ratio ratio' : Result (Option Scientific) LineFault) (energy energy' : Result ℤ LineFault) (near near' : Result ℕ LineFault)
    → types ≡ types' → factor ≡ factor' → ratio ≡ ratio' → energy ≡ energy' → near ≡ near'
    → ◌≡◌ {A = CommonValues}
    (record { types = types; pre_expon = factor; pe_ratio = ratio; activation = energy; proximity = near })
    (record { types = types'; pre_expon = factor'; pe_ratio = ratio'; activation = energy'; proximity = near' })
same_common types types' factor factor' ratio ratio' energy energy' near near' a b c d e =
    ap (λ t. record { types = t; pre_expon = factor; pe_ratio = ratio; activation = energy; proximity = near }) a
    ∙ ap (λ f. record { types = types'; pre_expon = f; pe_ratio = ratio; activation = energy; proximity = near }) b
    ∙ ap (λ r. record { types = types'; pre_expon = factor'; pe_ratio = r; activation = energy; proximity = near }) c
    ∙ ap (λ n. record { types = types'; pre_expon = factor'; pe_ratio = ratio'; activation = n; proximity = near }) d
    ∙ ap (λ n. record { types = types'; pre_expon = factor'; pe_ratio = ratio'; activation = energy'; proximity = n }) e
