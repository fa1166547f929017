-- What a pass shows after a step.
use Rattle.std.proofs.Common.{◌≡◌, ◌≢◌, ℕ, ◌^◌, ◌<◌, List, [], ◌∷◌, ◌++◌, length, false, Option, Some, None, ap, sym, subst, inr, ◌∙◌}
use Rattle.std.proofs.Common.{arith, bit_and, bit_or, append_assoc, length-append, get_or}
use Rattle.std.specs.Prelude.{All}
use Rattle.std.proofs.Math.ListN.{get_or-append}
use Rattle.std.proofs.Math.Seq.{get_or-append_seam}
use Rattle.std.specs.Int.{bit_at}
use Rattle.std.proofs.lemmas.Nat.Bits.{bit_at_or, bit_at-lt}
use mathlib.Core.Logic.{dite}
use native.Mathlib.Decide.{ℕ_discrete}
use Rattle.atomic_table.specs.Table.{Me, Step, rest}
use Rattle.atomic_table.specs.declared.shared.Seat.{Seat}
use Rattle.board_turn.specs.Masks.{mask, holder, Within}
use Rattle.board_turn.specs.Views.{finding, claiming, looking}
use Rattle.board_turn.specs.Plays.{Learns, Claimed, Took}
use Rattle.board_turn.specs.Shown.{IsBusy}
use Rattle.board_turn.specs.declared.view.View.{View}
use Rattle.board_turn.proofs.Bits.{unset_at, or_has}

all_front : {A : Type 0} (P : A → Type 0) (xs : List A) (x : A) → All P (xs ++ x ∷ []) → All P xs
all_front P xs x all k d h = subst P (get_or-append xs (x ∷ []) d k h) (all k d (omega (arith, length-append xs (x ∷ []))))

all_back : {A : Type 0} (P : A → Type 0) (xs : List A) (x : A) → All P (xs ++ x ∷ []) → P x
all_back P xs x all = subst P (get_or-append_seam xs x [] x) (all (length xs) x (omega (arith, length-append xs (x ∷ []))))

module _ {S K : Type 0} where
  -- a claim that found the bit set
  pub record Missed (m n : Me S (View K)) (piece : ℕ) : Type 0 where
    pub found : bit_at n.0.seen piece ≡ 1
    pub claims : n.0.claims ≡ m.0.claims
    pub grows : Within m.0.seen n.0.seen

  pub missed : (m n : Me S (View K)) (r bit piece : ℕ) → bit ≡ 2 ^ piece → n ≡ (finding m.0 r bit, m.1) → Missed m n piece
  missed m n r bit piece is e =
      let seen : n.0.seen ≡ bit_or m.0.seen (bit_or r bit) = ap (λ x. x.0.seen) e in
      record {
        found = omega (
          arith,
          ap (λ x. bit_at x piece) seen,
          bit_at_or m.0.seen (bit_or r bit) piece,
          or_has r bit piece is,
          bit_at-lt m.0.seen piece,
        );
        claims = ap (λ x. x.0.claims) e;
        grows = λ p. omega (arith, ap (λ x. bit_at x p) seen, bit_at_or m.0.seen (bit_or r bit) p);
      }

  -- a claim that found it unset
  pub record Won (m n : Me S (View K)) (piece : ℕ) : Type 0 where
    pub fresh : bit_at m.0.claims piece ≡ 0
    pub added : n.0.claims ≡ bit_or m.0.claims (2 ^ piece)
    pub has : bit_at n.0.claims piece ≡ 1
    pub grows : Within m.0.seen n.0.seen
    pub claims : Within m.0.claims n.0.claims

  pub won : (m n : Me S (View K)) (r bit piece : ℕ) → bit ≡ 2 ^ piece → n ≡ (claiming m.0 r bit, m.1) → bit_and m.0.claims bit ≡ 0 → Won m n piece
  won m n r bit piece is e unset =
      let seen : n.0.seen ≡ bit_or m.0.seen (bit_or r bit) = ap (λ x. x.0.seen) e in
      let claims : n.0.claims ≡ bit_or m.0.claims bit = ap (λ x. x.0.claims) e in
      record {
        fresh = unset_at m.0.claims bit piece is unset;
        added = claims ∙ ap (bit_or m.0.claims) is;
        has = ap (λ x. bit_at x piece) claims ∙ or_has m.0.claims bit piece is;
        grows = λ p. omega (arith, ap (λ x. bit_at x p) seen, bit_at_or m.0.seen (bit_or r bit) p);
        claims = λ p. omega (arith, ap (λ x. bit_at x p) claims, bit_at_or m.0.claims bit p);
      }

  -- a claim that found the bit either way
  pub record Tries (m n : Me S (View K)) (r bit : ℕ) : Type 0 where
    pub leads : n.0.leads ≡ m.0.leads
    pub number : n.0.number ≡ m.0.number
    pub holds : n.0.holds ≡ m.0.holds
    pub seen : n.0.seen ≡ bit_or m.0.seen (bit_or r bit)
    pub slots : n.1 ≡ m.1
    pub grows : Within n.0.claims (bit_or m.0.claims bit)
    pub backs : Within m.0.backing m.0.claims → Within n.0.backing n.0.claims

  pub tries : (st : Step S) (m n : Me S (View K)) (r : ℕ) → Claimed st m r n → Tries m n r st.first
  tries st m n r t = dite (ℕ_discrete (bit_and r st.first) 0)
      (λ unset. let e = (t.won unset).0 in record {
        leads = ap (λ x. x.0.leads) e;
        number = ap (λ x. x.0.number) e;
        holds = ap (λ x. x.0.holds) e;
        seen = ap (λ x. x.0.seen) e;
        slots = ap (λ x. x.1) e;
        grows = λ p. omega (arith, ap (λ x. bit_at x.0.claims p) e);
        backs = λ b p. omega (arith, ap (λ x. bit_at x.0.claims p) e, ap (λ x. bit_at x.0.backing p) e, b p, bit_at_or m.0.claims st.first p);
      })
      (λ isset. let e = t.lost isset in record {
        leads = ap (λ x. x.0.leads) e;
        number = ap (λ x. x.0.number) e;
        holds = ap (λ x. x.0.holds) e;
        seen = ap (λ x. x.0.seen) e;
        slots = ap (λ x. x.1) e;
        grows = λ p. omega (arith, ap (λ x. bit_at x.0.claims p) e, bit_at_or m.0.claims st.first p);
        backs = λ b p. omega (arith, ap (λ x. bit_at x.0.claims p) e, ap (λ x. bit_at x.0.backing p) e, b p);
      })

  -- a look, and a try that lost
  pub busy_again : (old mid new : Seat S (View K)) (was seen : ℕ) → mid.me ≡ (looking old.me.0 was, old.me.1)
      → Learns old.me.0 was → new.me ≡ (looking mid.me.0 seen, mid.me.1) → Learns mid.me.0 seen
      → holder was ≡ 0 → seen ≢ was → 0 < old.me.0.number → old.me.0.holds ≡ false → IsBusy old new was seen
  busy_again old mid new was seen first learns last learns' free ne numbered idle =
      let found : mid.me.0.found ≡ old.me.0.found ++ was ∷ [] = ap (λ x. x.0.found) first in
      let all = subst (λ l. All (λ w. Within (mask w) (mask seen)) l) found learns'.found in
      let number : mid.me.0.number ≡ old.me.0.number = ap (λ x. x.0.number) first in
      record {
        found = inr (ap (λ x. x.0.found) last ∙ (ap (λ l. l ++ seen ∷ []) found ∙ append_assoc old.me.0.found (was ∷ []) (seen ∷ [])), free, ne);
        apart = λ is. learns'.apart (subst (λ n. 0 < n) (sym number) numbered) (ap (λ x. x.0.holds) first ∙ idle) (is ∙ sym number);
        first = record { puts = learns.puts; found = learns.found };
        last = record {
          puts = subst (λ (x : Me S (View K)). x.0.puts ≡ bit_and x.0.claims (mask seen)) first
              learns'.puts;
          found = all_front (λ w. Within (mask w) (mask seen)) old.me.0.found was all;
        };
        grows = all_back (λ w. Within (mask w) (mask seen)) old.me.0.found was all;
        puts = ap (λ x. x.0.puts) last ∙ ap (λ x. x.0.puts) first;
        idle = ap (λ x. x.0.holds) last ∙ (ap (λ x. x.0.holds) first ∙ idle);
      }

module _ {B K : Type 0} (is_patch : B → K → Type 0) (done_set : B → ℕ) where
  pub out_with : (m n : Me (Option B) (View K)) (found : ℕ) (t : Took is_patch done_set m found n) → n.1 ≡ (0, Some t.parts) ∷ rest n.1
  out_with m n found t = let e = ap (λ x. x.1) t.seat in e ∙ ap (λ l. (0, Some t.parts) ∷ l) (sym (ap rest e))

  -- a look, and a try that won: the parts are those that came out of the slot
  pub record Taken (old new : Me (Option B) (View K)) (was : ℕ) (parts : B) (key : K) : Type 0 where
    pub shows : new.0.key ≡ Some key
    pub patch : is_patch parts key
    pub done : done_set parts ≡ new.0.known
    pub known : new.0.known ≡ was
    pub narrow : new.0.known < 281474976710656
    pub claims : new.0.claims ≡ old.0.claims

  pub taken : (old mid m new : Me (Option B) (View K)) (was seen : ℕ) (parts : B) (key : K) (slot : Option B)
      → mid ≡ (looking old.0 was, old.1) → Took is_patch done_set mid seen m → seen ≡ was → m.1 ≡ (0, slot) ∷ rest m.1
      → new ≡ (m.0, (0, None) ∷ rest m.1) → slot ≡ Some parts → old.0.key ≡ Some key → holder was ≡ 0 → Taken old new was parts key
  taken old mid m new was seen parts key slot first t same_word out last is shows free =
      let word : mask seen ≡ was = ap mask same_word ∙ omega (arith, free) in
      let same : t.parts ≡ parts = let two : (0, Some t.parts) ∷ rest m.1 ≡ (0, slot) ∷ rest m.1 =
      sym (out_with mid m seen t) ∙ out in let head : List (ℕ × Option B) → Option B =
      λ l. (get_or {A = ℕ × Option B} l 0 (0, slot)).1 in let one : Some t.parts ≡ slot = ap head two in cc in
      let known : new.0.known ≡ mask seen = ap (λ x. x.0.known) last ∙ ap (λ x. x.0.known) t.seat in
      record {
        shows = ap (λ x. x.0.key) last ∙ (ap (λ x. x.0.key) t.seat ∙ (ap (λ x. x.0.key) first ∙ shows));
        patch = subst (λ p. is_patch p key) same (t.patch key (ap (λ x. x.0.key) first ∙ shows));
        done = ap done_set (sym same) ∙ (t.done ∙ sym known);
        known = known ∙ word;
        narrow = omega (arith, known);
        claims = ap (λ x. x.0.claims) last ∙ (ap (λ x. x.0.claims) t.seat ∙ ap (λ x. x.0.claims) first);
      }
