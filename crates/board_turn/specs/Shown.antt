-- What a pass and the owner show to clauses.
use Rattle.std.specs.Prelude.{◌≡◌, ◌≢◌, ℕ, ◌^◌, ◌<◌, ◌⊎◌, List, [], ◌∷◌, ◌++◌, true, false, Some, All, bit_and, bit_or}
use Rattle.std.specs.Int.{bit_at}
use Rattle.atomic_table.specs.Seated.{TableId}
use Rattle.atomic_table.specs.declared.shared.Seat.{Seat}
use Rattle.board_turn.specs.Masks.{mask, holder, Within}
use Rattle.board_turn.specs.declared.view.View.{View}

module _ {S K : Type 0} where
  -- it is of the board with this table and this key
  abbrev pub IsOf : TableId → K → Seat S (View K) → Type 0
  IsOf table key seat = (seat.table_id ≡ table) × (seat.me.0.key ≡ Some key)

  -- the number of a pass
  abbrev pub number_of : Seat S (View K) → ℕ
  number_of seat = seat.me.0.number

  -- the pieces that it has claimed, as a mask
  abbrev pub claims_of : Seat S (View K) → ℕ
  claims_of seat = seat.me.0.claims

  -- the pieces that it has found claimed, its own among them
  abbrev pub found_claimed : Seat S (View K) → ℕ
  found_claimed seat = seat.me.0.seen

  -- the pieces that it has put
  abbrev pub puts_of : Seat S (View K) → ℕ
  puts_of seat = seat.me.0.puts

  -- the words that it has found at word 1, the latest last
  abbrev pub found_words : Seat S (View K) → List ℕ
  found_words seat = seat.me.0.found

  -- it has the turn
  abbrev pub HasTurn : Seat S (View K) → Type 0
  HasTurn seat = seat.me.0.holds ≡ true

  -- it does not have the turn
  abbrev pub IsIdle : Seat S (View K) → Type 0
  IsIdle seat = seat.me.0.holds ≡ false

  -- the numbers of the passes that the owner has joined
  abbrev pub joined_numbers : Seat S (View K) → List ℕ
  joined_numbers seat = seat.me.0.joined

  -- the number that the owner would give to the next pass
  abbrev pub next_number : Seat S (View K) → ℕ
  next_number seat = seat.me.0.next

  -- a new pass shows no turn and has no claims, puts or found words
  pub record IsNew (seat : Seat S (View K)) : Type 0 where
    pub claims : seat.me.0.claims ≡ 0
    pub found_claimed : seat.me.0.seen ≡ 0
    pub puts : seat.me.0.puts ≡ 0
    pub found_words : seat.me.0.found ≡ []
    pub idle : IsIdle seat

  -- the owner of a new board: it has claimed, put and joined nothing
  pub record IsOpening (seat : Seat S (View K)) : Type 0 where
    pub claims : seat.me.0.claims ≡ 0
    pub puts : seat.me.0.puts ≡ 0
    pub joined : seat.me.0.joined ≡ []

  -- the piece joins the claims, and no other does. It was not among them, nor found claimed
  pub record Claims (old new : Seat S (View K)) (piece : ℕ) : Type 0 where
    pub fresh : bit_at old.me.0.claims piece ≡ 0
    pub unfound : bit_at old.me.0.seen piece ≡ 0
    pub added : new.me.0.claims ≡ bit_or old.me.0.claims (2 ^ piece)
    pub has : bit_at new.me.0.claims piece ≡ 1

  -- all that a claim leaves: the number, the turn, the puts and the found words
  pub record KeepsTurn (old new : Seat S (View K)) : Type 0 where
    pub number : new.me.0.number ≡ old.me.0.number
    pub holds : new.me.0.holds ≡ old.me.0.holds
    pub known : new.me.0.known ≡ old.me.0.known
    pub backing : new.me.0.backing ≡ old.me.0.backing
    pub puts : new.me.0.puts ≡ old.me.0.puts
    pub found_words : new.me.0.found ≡ old.me.0.found

  -- all that a step on word 1 leaves: the number, the claims and the pieces found claimed
  pub record KeepsClaims (old new : Seat S (View K)) : Type 0 where
    pub number : new.me.0.number ≡ old.me.0.number
    pub claims : new.me.0.claims ≡ old.me.0.claims
    pub found_claimed : new.me.0.seen ≡ old.me.0.seen

  -- this pass took the turn, when it was as the second shows
  pub record IsTaker (seat taker : Seat S (View K)) : Type 0 where
    pub holds : HasTurn seat
    pub number : seat.me.0.number ≡ taker.me.0.number
    pub known : seat.me.0.known ≡ taker.me.0.known
    pub claims : seat.me.0.backing ≡ taker.me.0.claims

  -- what a pass knows of a word that it finds: its puts are those of its claims that are done, and all that it had
  -- found done is done
  pub record Finds (seat : Seat S (View K)) (word : ℕ) : Type 0 where
    pub puts : seat.me.0.puts ≡ bit_and seat.me.0.claims (mask word)
    pub found : All (λ w. Within (mask w) (mask word)) seat.me.0.found

  -- a refusal: one word was found, which has a holder, or two, of which the first has none and the second is another
  -- word. The holder in the last isn't this pass
  pub record IsBusy (old new : Seat S (View K)) (was seen : ℕ) : Type 0 where
    pub found : ((new.me.0.found ≡ old.me.0.found ++ was ∷ []) × (seen ≡ was) × (0 < holder was))
        ⊎ ((new.me.0.found ≡ old.me.0.found ++ was ∷ seen ∷ []) × (holder was ≡ 0) × (seen ≢ was))
    pub apart : holder seen ≢ old.me.0.number
    pub first : Finds old was
    pub last : Finds old seen
    pub grows : Within (mask was) (mask seen)
    pub puts : new.me.0.puts ≡ old.me.0.puts
    pub idle : IsIdle new

  -- the turn was taken: the word was found twice, with no holder
  pub record FoundTwice (old new : Seat S (View K)) (word : ℕ) : Type 0 where
    pub found : new.me.0.found ≡ old.me.0.found ++ word ∷ word ∷ []
    pub free : holder word ≡ 0
    pub knows : Finds old word

  -- the pass has taken the turn, and is shown by it. It found the done mask twice
  pub record IsTaking (old new shown : Seat S (View K)) : Type 0 where
    pub taker : shown ≡ new
    pub holds : HasTurn new
    pub backing : new.me.0.backing ≡ old.me.0.claims
    pub found : FoundTwice old new new.me.0.known
