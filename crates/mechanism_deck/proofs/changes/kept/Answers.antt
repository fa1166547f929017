use Rattle.std.proofs.Common.{◌∙◌, ap, map, sym, take, ℤ, Ok}
use Rattle.std.specs.declared.alloc.Global.{Global}
use Rattle.std.specs.declared.vec.Vec.{Vec}
use Rattle.deck_shape.specs.declared.name.Name.{Name}
use Rattle.deck_words.specs.Faults.{value_map}
use Rattle.mechanism_deck.specs.Views.{change_at}
use Rattle.mechanism_deck.specs.declared.ranges.TheConstants.{MOST_CHANGES}
use Rattle.mechanism_deck.proofs.GasPairs.{take_changes}
use Rattle.mechanism_deck.proofs.changes.kept.Goals as goal

pub returns-in_ok-first_few-in-Ok : goal.returns-in_ok-first_few-in-Ok
returns-in_ok-first_few-in-Ok c text =
    let at = λ (list : Vec (Name × ℤ) Global). map (change_at text) list.items in
    ap (λ few. Ok (map (change_at text) few)) (c.in_ok-first_few-in-Ok.ensures ∙ ap (take MOST_CHANGES) c.as_slice.ensures.value)
    ∙ ap (λ few. Ok few) (take_changes text MOST_CHANGES c.in-Ok.changes.items)
    ∙ ap (λ all. value_map (take MOST_CHANGES) (value_map at all)) (sym c.in-Ok.is)
