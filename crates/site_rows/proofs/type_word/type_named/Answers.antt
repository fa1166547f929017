use Rattle.std.proofs.Common.{nat_eq}
use Rattle.std.specs.Cmp.Lexicographic.{pointwise}
use Rattle.site_rows.proofs.Searches.{counted_place}
use Rattle.site_rows.proofs.type_word.type_named.Goals as goal

pub returns-in-Some-clause-value : goal.returns-in-Some-clause-value
returns-in-Some-clause-value c =
    counted_place (λ name. pointwise nat_eq name c.args.word.now) (λ name. name.items) c.args.names.now _
    c.in-Some.ensures

pub returns-in-None-clause-value : goal.returns-in-None-clause-value
returns-in-None-clause-value c =
    counted_place (λ name. pointwise nat_eq name c.args.word.now) (λ name. name.items) c.args.names.now _
    c.in-None.ensures
