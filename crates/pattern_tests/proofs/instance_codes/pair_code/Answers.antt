use Rattle.std.proofs.Common.{sym, ◌∙◌, rules}
use Rattle.lattice_core.specs.SiteList.{site_numbers}
use Rattle.pattern_list.proofs.Conditions.{has-code}
use Rattle.pattern_tests.proofs.instance_codes.pair_code.Goals as goal

pub encode-code-requires-clause-placed : goal.encode-code-requires-clause-placed
encode-code-requires-clause-placed g c =
    has-code c.args.graph.now c.args.pattern.now (site_numbers c.new-placement.result) _
    (sym c.matches.ensures ∙ c.if-not-matches.false)

pub decode-requires : goal.decode-requires
decode-requires g c =
    let placed = has-code c.args.graph.now c.args.pattern.now (site_numbers c.new-placement.result) _
    (sym c.matches.ensures ∙ c.if-not-matches.false) in
    (c.args.process, site_numbers c.new-placement.result, record { process_below = search rules; placed = placed; same = c.encode-code.ensures.code })
