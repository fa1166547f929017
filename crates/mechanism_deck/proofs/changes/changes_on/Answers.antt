use Rattle.std.proofs.Common.{◌∙◌, ap, map, Ok, ℤ}
use Rattle.std.specs.declared.alloc.Global.{Global}
use Rattle.std.specs.declared.vec.Vec.{Vec}
use Rattle.deck_shape.specs.declared.name.Name.{Name}
use Rattle.deck_values.specs.Names.{repeat_fault}
use Rattle.deck_values.specs.Readings.{least_fault}
use Rattle.deck_words.specs.Faults.{earliest, value_map, with_fault}
use Rattle.mechanism_deck.specs.Changes.{first_names, gas_change}
use Rattle.mechanism_deck.specs.Views.{change_at, pair_at}
use Rattle.pattern_rows.proofs.ListedVariants.{fault_mapped}
use Rattle.mechanism_deck.proofs.changes.changes_on.Goals as goal

pub returns : goal.returns
returns c =
    let text = c.args.bytes.now in
    let line = c.args.line in
    let pairs = map (pair_at text) c.args.pairs.now in
    let at = λ (list : Vec (Name × ℤ) Global). map (change_at text) list.items in
    let read = c.in_ok-read.read in
    let repeated = repeat_fault line (first_names pairs) in
    ap (value_map at) c.with_fault.ensures
    ∙ fault_mapped at c.earliest.result (Ok read.values)
    ∙ ap (λ fault. with_fault fault (Ok (at read.values)))
    (c.earliest.ensures ∙ ap (λ fault. earliest fault read.fault) c.in_ok-repeated.ensures ∙ ap (earliest repeated) c.in_ok-read.ensures.fault)
    ∙ ap (λ changes. with_fault (earliest repeated (least_fault (map (gas_change line) pairs))) (Ok changes)) c.in_ok-read.ensures.changes
