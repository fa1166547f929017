use Rattle.std.proofs.Common.{◌∙◌, ap, arith, nat_eq, sym, unwrap_or}
use Rattle.std.specs.Cmp.Lexicographic.{pointwise}
use Rattle.std.specs.List.{position_from}
use Rattle.site_rows.proofs.TypeIndexes.{found_within}
use Rattle.site_rows.proofs.type_index.TypeIndex.type_named.Goals as goal

pub returns-in-Some-clause-value : goal.returns-in-Some-clause-value
returns-in-Some-clause-value c =
    ap (λ number. unwrap_or number 0) (c.in-Some.ensures.value ∙ c.self.invariant c.args.word
    ∙ ap (position_from (λ name. pointwise nat_eq name c.args.word.now) 1) c.self.view_is)

pub returns-in-Some-clause-within : goal.returns-in-Some-clause-within
returns-in-Some-clause-within c =
    let found = found_within (λ name. pointwise nat_eq name c.args.word.now) 1 _ c.in-Some.number.now
    (sym (c.in-Some.ensures.value ∙ c.self.invariant c.args.word
    ∙ ap (position_from (λ name. pointwise nat_eq name c.args.word.now) 1) c.self.view_is)) in
    omega (arith, found)

pub returns-in-None-clause-value : goal.returns-in-None-clause-value
returns-in-None-clause-value c =
    ap (λ number. unwrap_or number 0) (c.in-None.ensures.value ∙ c.self.invariant c.args.word
    ∙ ap (position_from (λ name. pointwise nat_eq name c.args.word.now) 1) c.self.view_is)
