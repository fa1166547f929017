-- The board's rule, in six points. It holds between any two steps of any threads.
-- Word 0 has the claimed pieces. Word 1 has the holder and the done mask. The one slot has the parts.
use Rattle.std.specs.Prelude.{◌≡◌, ℕ, ◌+◌, ◌^◌, ◌<◌, ◌≤◌, List, length, slice_index, Option, Some, Bool, true, false, All, bit_and}
use mathlib.Core.Option as m
use lib.ListN.{get_elem?}
use Rattle.std.specs.Int.{bit_at}
use Rattle.atomic_table.specs.Table.{State}
use Rattle.board_turn.specs.Masks.{mask, holder, Within}
use Rattle.board_turn.specs.Sums.{total, below, yes_no, only, positive}
use Rattle.board_turn.specs.declared.view.View.{View}

-- 1 for the owner's view
abbrev pub leads_as : {K : Type 0} → View K → ℕ
leads_as v = yes_no v.leads

-- the number where the answer is yes, else 0
abbrev pub counted : Bool → ℕ → ℕ
counted true n = n
counted false n = 0

-- 1 for a view that holds the turn under this number
abbrev pub holds_as : {K : Type 0} → ℕ → View K → ℕ
holds_as n v = counted v.holds (only n v.number)

-- what points 1, 2 and 6 say of one view. A view that was joined has no number
pub record IsClaimer {K : Type 0} (key : K) (drawn next : ℕ) (joined : List ℕ) (v : View K) : Type 0 where
  -- 1. the owner keeps the next number and the numbers that it has joined
  pub leads : v.leads ≡ true → (v.next ≡ next) × (v.joined ≡ joined) × (v.number ≡ 0)
  -- 2. the claims are among the pieces found claimed, and those are claimed
  pub claims : Within v.claims v.seen
  pub seen : Within v.seen drawn
  -- 2. a view that was joined has no claims
  pub hollow : v.leads ≡ false → v.number ≡ 0 → v.claims ≡ 0
  -- 2. no piece was claimed both by the owner and by a pass that it joined
  pub apart : v.twice ≡ 0
  -- 6. the view shows the table's key
  pub keyed : (k : K) → v.key ≡ Some k → k ≡ key

-- points 1, 2 and 6
pub record Claiming {K : Type 0} (key : K) (drawn : ℕ) (views : List (View K)) : Type 0 where
  pub next : ℕ
  pub joined : List ℕ
  -- 1. one view is the owner's
  pub owner : total leads_as views ≡ 1
  -- 1. its next number is from 1 to 65
  pub few : (0 < next) × (next ≤ 65)
  -- 1. the numbers of the passes and of those joined are those below the next, each once, and no pass has number 0
  pub once : (f : ℕ → ℕ) → f 0 ≡ 0 → total (λ v. f v.number) views + total f joined ≡ below f next
  pub given : total positive joined ≡ length joined
  -- 2. word 0 is the union of all claims, and no two views share a claim
  pub union : (p : ℕ) → total (λ v. bit_at v.claims p) views ≡ bit_at drawn p
  pub narrow : drawn < 2 ^ 48
  pub each : (i : ℕ) (v : View K) → get_elem? views i ≡ m.some v → IsClaimer key drawn next joined v

-- what points 3 and 5 say of one view
pub record IsPutter {K : Type 0} (done : ℕ) (v : View K) : Type 0 where
  -- 3. who holds has a number, and keeps the done mask as known
  pub holds : v.holds ≡ true → (0 < v.number) × (v.known ≡ done)
  -- 5. the puts are those of the claims that are done
  pub puts : v.puts ≡ bit_and v.claims done
  -- 5. each done mask that it found lies in the done mask
  pub found : All (λ word. Within (mask word) done) v.found

-- the parts are at home, a patch of their done set, which is the done mask
pub record IsHome {B K : Type 0} (is_patch : B → K → Type 0) (done_set : B → ℕ) (key : K) (done : ℕ)
    (homes : List (m.Option (Option B))) : Type 0 where
  pub parts : B
  pub here : get_elem? homes 0 ≡ m.some (m.some (Some parts))
  pub patch : is_patch parts key
  pub same : done_set parts ≡ done

-- points 3, 4 and 5
pub record Turning {B K : Type 0} (is_patch : B → K → Type 0) (done_set : B → ℕ) (key : K) (drawn word : ℕ)
    (homes : List (m.Option (Option B))) (views : List (View K)) : Type 0 where
  -- 3. one view at most holds the turn. Its number is the holder, which is 0 where none holds
  pub busy : (n : ℕ) → 0 < n → total (holds_as n) views ≡ only n (holder word)
  -- 4. where none holds, the parts are at home
  pub home : holder word ≡ 0 → IsHome is_patch done_set key (mask word) homes
  -- 5. each done piece is claimed
  pub claimed : Within (mask word) drawn
  pub each : (i : ℕ) (v : View K) → get_elem? views i ≡ m.some v → IsPutter (mask word) v

-- the rule: two words and one slot, and the six points
pub record Orderly {B K : Type 0} (is_patch : B → K → Type 0) (done_set : B → ℕ) (key : K) (s : State (Option B) (View K)) : Type 0 where
  pub words : length s.words ≡ 2
  pub slots : length s.homes ≡ 1
  pub claims : Claiming key (slice_index s.words 0) s.views
  pub turn : Turning is_patch done_set key (slice_index s.words 0) (slice_index s.words 1) s.homes s.views
