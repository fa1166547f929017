use Rattle.rate_rules.proofs.MatchedStates.{in_wanted_states}
use Rattle.rate_rules.proofs.matched.match_is_in_wanted_states.Goals as goal

pub returns : goal.returns
returns c dentates side states sites sound well_formed long is = in_wanted_states dentates side sound states well_formed sites long is
