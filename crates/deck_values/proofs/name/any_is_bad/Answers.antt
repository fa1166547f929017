use Rattle.std.proofs.Common.{◌≡◌, ◌∙◌, sym, rules, tests}
use Rattle.std.specs.List.{list_any}
use Rattle.std.proofs.lemmas.Iterator.{YieldsList-from_slice}
use Rattle.std.proofs.lemmas.Iterator.Search.{any_from_yields_List}
use Rattle.dec_text.specs.Spans.{bytes_at}
use Rattle.deck_values.specs.Names.{is_bad_name}
use Rattle.deck_values.proofs.NameFaults.{list_any-map}
use Rattle.deck_values.proofs.name.any_is_bad.Goals as goal

pub returns : goal.returns
returns c =
    let text = c.args.bytes.now in
    let found : c.any.result ≡ list_any (λ name. is_bad_name (bytes_at text name)) c.args.names.now =
    any_from_yields_List (λ name. is_bad_name (bytes_at text name)) _ _ c.any.result c.any.ensures.ran
    (YieldsList-from_slice c.args.names.now cc) (λ x b q k. search (rules, tests)) in
    found ∙ sym (list_any-map is_bad_name (bytes_at text) c.args.names.now)
