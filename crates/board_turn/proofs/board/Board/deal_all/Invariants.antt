use Rattle.std.proofs.Common.{◌≡◌, ℕ, ◌+◌, ◌<◌, vec_len, vec_capacity}
use Rattle.std.specs.Prelude.{All, slice_index_or}
use Rattle.board_turn.specs.Shown.{IsOf, number_of, claims_of, puts_of, joined_numbers, next_number, IsNew}
use Rattle.board_turn.proofs.board.Board.deal_all.Given as goal

abbrev pub invariant-loop-dealt : goal.invariant-loop-dealt
invariant-loop-dealt g l = record {
  own : IsOf l.self.table.shared.table_id l.self.table.shared.key l.owner.seat;
  next : next_number l.owner.seat ≡ l.dealt + 1;
  claims : claims_of l.owner.seat ≡ claims_of l.fn.owner.seat;
  puts : puts_of l.owner.seat ≡ puts_of l.fn.owner.seat;
  joined : joined_numbers l.owner.seat ≡ joined_numbers l.fn.owner.seat;
  room : vec_capacity l.made ≡ vec_capacity l.fn.made;
  count : vec_len l.made ≡ l.dealt;
  passes : All (λ pass. IsOf l.self.table.shared.table_id l.self.table.shared.key pass.seat × IsNew pass.seat) l.made.items;
  numbers : (k : ℕ) (d : _) → k < l.dealt → number_of (slice_index_or l.made.items k d).seat ≡ k + 1;
}
