use Rattle.std.proofs.Common.{◌≡◌, ◌∷◌, [], ◌<◌, ℕ, List, ap, arith, replicate, refl, slice_index_or, ◌∙◌, zero, suc}
use Rattle.deck.specs.Soundness.{dentates_in}
use Rattle.lattice_core.specs.Config.{put, state_at}
use Rattle.lattice_core.specs.declared.state.State.{State}
use Rattle.lattice_core.specs.declared.state.State.TheVariants.{Vacant}
use Rattle.output_tests.proofs.small_decks.small_config.Goals as goal

-- what is known of one number is known of each in a list of it alone
alone : (P : ℕ → Type 0) (n : ℕ) → P n → (k d : ℕ) → k < 1 → P (slice_index_or (n ∷ []) k d)
alone P n known zero d below = known
alone P n known (suc k) d below = absurd (omega arith)

-- each of the last two sites is vacant until its adsorbate is put there
fourth_vacant : state_at (put (replicate 5 Vacant) 1 (2 ∷ 1 ∷ [])) 3 ≡ Vacant
unfolding put
fourth_vacant = refl

fifth_vacant : state_at (put (put (replicate 5 Vacant) 1 (2 ∷ 1 ∷ [])) 0 (3 ∷ [])) 4 ≡ Vacant
unfolding put
fifth_vacant = refl

pub set-requires-2-clause-vacant : goal.set-requires-2-clause-vacant
set-requires-2-clause-vacant c =
    let one = c.set.ensures.states ∙ ap (λ (l : List State). put l 1 (2 ∷ 1 ∷ [])) c.in_ok-config.ensures.states in
    alone (λ s. state_at c.set.new.self s ≡ Vacant) 3 (ap (λ (l : List State). state_at l 3) one ∙ fourth_vacant)

pub set-requires-3-clause-vacant : goal.set-requires-3-clause-vacant
set-requires-3-clause-vacant c =
    let one = c.set.ensures.states ∙ ap (λ (l : List State). put l 1 (2 ∷ 1 ∷ [])) c.in_ok-config.ensures.states in
    let two = c.set-2.ensures.states ∙ ap (λ (l : List State). put l 0 (3 ∷ [])) one in
    alone (λ s. state_at c.set-2.new.self s ≡ Vacant) 4 (ap (λ (l : List State). state_at l 4) two ∙ fifth_vacant)

pub returns-clause-well_formed : goal.returns-clause-well_formed
returns-clause-well_formed c =
    let dentates = dentates_in c.args.book.now in
    let first : dentates 0 ≡ 1 = ap (λ (ds : List ℕ). slice_index_or ds 0 0) c.requires in
    let second : dentates 1 ≡ 2 = ap (λ (ds : List ℕ). slice_index_or ds 1 0) c.requires in
    c.set-3.ensures.well_formed dentates first
    (c.set-2.ensures.well_formed dentates first
    (c.set.ensures.well_formed dentates second (c.in_ok-config.ensures.well_formed dentates)))
