use Rattle.std.proofs.Common.{◌≡◌, ◌-◌, ◌<◌, ◌∙◌, length, ap, arith, inl, inr, sym}
use Rattle.std.proofs.lemmas.Bool.{cases_eq}
use Rattle.firing.specs.Sides.{is_dentate}
use Rattle.firing.proofs.EntitySites.{site_first, site_none}
use Rattle.firing.proofs.Wants.{want_at, want_read}
use Rattle.lattice_core.specs.SiteList.{site_numbers}
use Rattle.lattice_core.proofs.Finding.{number_of, number_of-is}
use Rattle.firing.proofs.entity.site_of.Goals as goal

pub returns-then-is_dentate : goal.returns-then-is_dentate
returns-then-is_dentate c =
    let k = c.loop-vertex.vertex - 1 in
    let wanted = c.args.side.now.wanted in
    let within : k < length wanted = omega (arith, c.len-vertex-end.ensures.value) in
    let here = number_of-is c.args.sites.now k (omega (arith, c.requires)) in
    let place : c.from.result - 1 ≡ k = ap (λ n. n - 1) c.from.ensures in
    let yes = ap (is_dentate c.args.entity c.args.dentate) (want_read wanted k c.wanted.result c.wanted.ensures)
    ∙ sym c.is_dentate.ensures ∙ c.if-is_dentate.true in
    ap (λ n. number_of c.args.sites.now n) place
    ∙ sym here.1
    ∙ sym (site_first c.args.entity c.args.dentate k wanted (site_numbers c.args.sites.now) here.0 within yes c.loop-vertex.invariant)

pub loop-vertex-preserved : goal.loop-vertex-preserved
loop-vertex-preserved c = λ m below.
    let k = c.loop-vertex.vertex - 1 in
    let wanted = c.args.side.now.wanted in
    let no = ap (is_dentate c.args.entity c.args.dentate) (want_read wanted k c.wanted.result c.wanted.ensures)
    ∙ sym c.is_dentate.ensures ∙ c.if-is_dentate.false in
    elim (cases_eq m k) [
      | inl same ↦ ap (λ n. is_dentate c.args.entity c.args.dentate (want_at wanted n)) same ∙ no
      | inr other ↦ c.loop-vertex.invariant m (omega arith)
    ]

pub returns : goal.returns
returns c =
    sym
    (site_none c.args.entity c.args.dentate c.args.side.now.wanted (site_numbers c.args.sites.now) (λ m within.
    c.loop-vertex.invariant m (omega (arith, c.len-vertex-end.ensures.value))))
