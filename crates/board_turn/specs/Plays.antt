-- What the caller of each kind of step knows: of the step, the seat before, the word found (at a store, the word stored) and the seat after.
-- The types of src/rule.rt that name the steps have these as their statements: each call of a board takes such steps alone.
use Rattle.std.specs.Prelude.{◌≡◌, ◌≢◌, ℕ, ◌<◌, ◌∷◌, Option, Some, false, All, bit_and}
use Rattle.atomic_table.specs.Table.{Me, Step, rest}
use Rattle.board_turn.specs.Masks.{mask, holder, Within}
use Rattle.board_turn.specs.Views.{finding, claiming, looking, holding, giving}
use Rattle.board_turn.specs.declared.view.View.{View}

-- what a view knows of a word 1 that it finds
pub record Learns {K : Type 0} (v : View K) (word : ℕ) : Type 0 where
  -- those of its claims that are done are its puts
  pub puts : v.puts ≡ bit_and v.claims (mask word)
  -- all that it had found done before is done
  pub found : All (λ w. Within (mask w) (mask word)) v.found
  -- a pass that does not hold the turn is not the holder
  pub apart : 0 < v.number → v.holds ≡ false → holder word ≢ v.number

-- claim (fetch_or of word 0)
pub record Claimed {S K : Type 0} (st : Step S) (m : Me S (View K)) (found : ℕ) (n : Me S (View K)) : Type 0 where
  pub won : bit_and found st.first ≡ 0 → (n ≡ (claiming m.0 found st.first, m.1)) × (bit_and m.0.claims st.first ≡ 0)
  pub lost : bit_and found st.first ≢ 0 → n ≡ (finding m.0 found st.first, m.1)

-- look (load of word 1)
pub record Looked {S K : Type 0} (st : Step S) (m : Me S (View K)) (found : ℕ) (n : Me S (View K)) : Type 0 where
  pub seat : n ≡ (looking m.0 found, m.1)
  pub learns : Learns m.0 found

-- the seat after the turn was taken: the parts are out with it, a patch of their done set, the done mask
pub record Took {B K : Type 0} (is_patch : B → K → Type 0) (done_set : B → ℕ) (m : Me (Option B) (View K)) (found : ℕ)
    (n : Me (Option B) (View K)) : Type 0 where
  pub parts : B
  pub seat : n ≡ (holding m.0 found, (0, Some parts) ∷ m.1)
  pub patch : (k : K) → m.0.key ≡ Some k → is_patch parts k
  pub done : done_set parts ≡ mask found

-- take the turn and the slot (compare-and-exchange of word 1)
pub record Tried {B K : Type 0} (is_patch : B → K → Type 0) (done_set : B → ℕ) (st : Step (Option B))
    (m : Me (Option B) (View K)) (found : ℕ) (n : Me (Option B) (View K)) : Type 0 where
  pub learns : Learns m.0 found
  pub won : found ≡ st.first → Took is_patch done_set m found n
  pub lost : found ≢ st.first → n ≡ (looking m.0 found, m.1)

-- free the turn and give the slot home (store of word 1)
pub record Gave {S K : Type 0} (st : Step S) (m : Me S (View K)) (stored : ℕ) (n : Me S (View K)) : Type 0 where
  pub seat : n ≡ (giving m.0 st.first, rest m.1)
  -- what it had put is those of its claims that were done when it took the turn
  pub puts : m.0.puts ≡ bit_and m.0.claims m.0.known

-- the look after a join (load of word 0): no piece was claimed twice
pub record Audited {S K : Type 0} (st : Step S) (m : Me S (View K)) (found : ℕ) (n : Me S (View K)) : Type 0 where
  pub seat : n ≡ m
  pub apart : m.0.twice ≡ 0
