use Rattle.std.proofs.Common.{◌≡◌, ◌<◌, ◌+◌, ◌∙◌, ◌++◌, ◌∷◌, [], length, get_or, ℕ, List, map, take, sym, ap, arith}
use Rattle.lattice_core.specs.declared.state.State.{State}
use Rattle.std.proofs.lemmas.List.{map_more}
use Rattle.lattice_core.specs.Config.{state_at}
use Rattle.lattice_core.specs.SiteList.{site_numbers}
use Rattle.lattice_core.proofs.Finding.{number_of-is, All-number}
use Rattle.lattice_core.proofs.window.read_states.Goals as goal

pub at-requires : goal.at-requires
at-requires g c = All-number (λ s. s < length c.args.config.now) c.args.sites.now c.loop-site.site-index (omega arith) c.requires

-- one more state
more_read : (states : List State) (ns : List ℕ) (i : ℕ) (before after : List State) (x : State) → i < length ns
    → before ≡ map (state_at states) (take i ns) → after ≡ before ++ x ∷ [] → x ≡ state_at states (get_or ns i 0)
    → after ≡ map (state_at states) (take (i + 1) ns)
more_read states ns i before after x within known pushed is =
    rw (pushed, known, is) (sym (map_more (state_at states) ns i 0 within))

pub loop-site-preserved : goal.loop-site-preserved
loop-site-preserved g c =
    let i = c.loop-site.site-index in
    let ns = site_numbers c.args.sites.now in
    let f = state_at c.args.config.now in
    let is = number_of-is c.args.sites.now i (omega arith) in (
      more_read c.args.config.now ns i c.loop-site.states.items c.push.new.self.items c.at.result is.0
          c.loop-site.invariant.0 c.in_ok-push.ensures.items (c.at.ensures.state ∙ ap f (sym is.1)),
      omega (arith, c.at.ensures.reads, c.loop-site.invariant.1),
    )
