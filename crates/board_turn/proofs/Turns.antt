-- Points 3, 4 and 5 of the rule over the kinds of step.
use Rattle.std.proofs.Common.{◌≡◌, ◌≢◌, ℕ, zero, suc, ◌+◌, ◌*◌, ◌<◌, ◌≤◌, List, [], ◌∷◌, ◌++◌, set, Bool, true, false, Option, Some, sym}
use Rattle.std.proofs.Common.{refl, ap, subst, ◌∙◌, arith, bit_and, bit_or, true≢false}
use Rattle.std.specs.Prelude.{All, slice_index_or}
use mathlib.Core.Logic.{dite}
use mathlib.Core.Option as m
use native.Mathlib.Decide.{ℕ_discrete}
use lib.ListN.{get_elem?}
use Rattle.std.specs.Int.{bit_at}
use Rattle.std.proofs.lemmas.List.Elements.{All-append, All-nil}
use Rattle.std.proofs.lemmas.Nat.Bits.{bit_at_and, bit_at_or, same_from_bits}
use Rattle.atomic_table.proofs.Lists.{set_else}
use Rattle.board_turn.specs.Masks.{mask, holder, Within}
use Rattle.board_turn.specs.Sums.{only}
use Rattle.board_turn.specs.Views.{spent, first_owner, dealing, new_pass, joining, finding, claiming, looking, holding, giving}
use Rattle.board_turn.specs.Rule.{counted, holds_as, Claiming, IsPutter, IsHome, Turning}
use Rattle.board_turn.specs.declared.view.View.{View}
use Rattle.board_turn.proofs.Sums.{total-append, total-set, term_le, terms_le, each_set, each_snoc, only-same, only-other}
use Rattle.board_turn.proofs.Bits.{Within-trans, apart_bits}
use Rattle.board_turn.proofs.Claims.{apart_claims}

-- the claims that are done stay the same where a piece is claimed that was not
puts_same : (claims bit done drawn puts : ℕ) → puts ≡ bit_and claims done → Within done drawn → bit_and drawn bit ≡ 0
    → puts ≡ bit_and (bit_or claims bit) done
puts_same claims bit done drawn puts e within unset = e ∙ same_from_bits (bit_and claims done) (bit_and (bit_or claims bit) done)
    (λ p. omega (
      arith,
      bit_at_and claims done p,
      bit_at_and (bit_or claims bit) done p,
      bit_at_or claims bit p,
      within p,
      apart_bits drawn bit p unset,
    ))

-- and where pieces become done that are claimed by another
puts_apart : (claims done done' others puts : ℕ) → puts ≡ bit_and claims done → Within done done'
    → Within done' (bit_or done others) → ((p : ℕ) → bit_at others p + bit_at claims p ≤ 1)
    → puts ≡ bit_and claims done'
puts_apart claims done done' others puts e grows within apart = e ∙ same_from_bits (bit_and claims done) (bit_and claims done')
    (λ p. omega (arith, bit_at_and claims done p, bit_at_and claims done' p, bit_at_or done others p, grows p, within p, apart p))

puts_both : (a b done x y : ℕ) → x ≡ bit_and a done → y ≡ bit_and b done → bit_or x y ≡ bit_and (bit_or a b) done
puts_both a b done x y e f = same_from_bits (bit_or x y) (bit_and (bit_or a b) done)
    (λ p. omega (
      arith,
      bit_at_or x y p,
      ap (λ n. bit_at n p) e,
      ap (λ n. bit_at n p) f,
      bit_at_and a done p,
      bit_at_and b done p,
      bit_at_or a b p,
      bit_at_and (bit_or a b) done p,
    ))

all_one : {A : Type 0} (P : A → Type 0) (x : A) → P x → All P (x ∷ [])
all_one P x p zero d h = p
all_one P x p (suc k) d h = absurd (omega arith)

-- the found words with one more
pub found_more : (done word : ℕ) (found : List ℕ) → All (λ w. Within (mask w) done) found → Within (mask word) done
    → All (λ w. Within (mask w) done) (found ++ word ∷ [])
found_more done word found all here = All-append (λ w. Within (mask w) done) found (word ∷ []) all (all_one (λ w. Within (mask w) done) word here)

found_wider : (done done' : ℕ) (found : List ℕ) → Within done done' → All (λ w. Within (mask w) done) found → All (λ w. Within (mask w) done') found
found_wider done done' found grows all k d h = Within-trans (mask (slice_index_or found k d)) done done' (all k d h) grows

only-one : (k n : ℕ) → 0 < only k n → n ≡ k
only-one k n h = dite (ℕ_discrete n k) (λ e. e) (λ ne. absurd (omega (arith, only-other k n ne)))

module _ {K : Type 0} where
  yes : (n : ℕ) (v : View K) → v.holds ≡ true → holds_as n v ≡ only n v.number
  yes n v h = ap (λ b. counted b (only n v.number)) h

  no : (n : ℕ) (v : View K) → v.holds ≡ false → holds_as n v ≡ 0
  no n v h = ap (λ b. counted b (only n v.number)) h

module _ {B K : Type 0} (is_patch : B → K → Type 0) (done_set : B → ℕ) (key : K) where
  -- one view goes from v to w, and all else is given
  stepped : (d d' word word' : ℕ) (homes homes' : List (m.Option (Option B))) (views : List (View K)) (id : ℕ)
      (v w : View K) → Turning is_patch done_set key d word homes views → get_elem? views id ≡ m.some v
      → ((n : ℕ) → 0 < n → holds_as n w + only n (holder word) ≡ holds_as n v + only n (holder word'))
      → (holder word' ≡ 0 → IsHome is_patch done_set key (mask word') homes') → Within (mask word') d'
      → ((j : ℕ) (u : View K) → j ≢ id → get_elem? views j ≡ m.some u → IsPutter (mask word') u)
      → IsPutter (mask word') w → Turning is_patch done_set key d' word' homes' (set views id w)
  stepped d d' word word' homes homes' views id v w t me busy home claimed others mine = record {
    busy = λ n h. omega (arith, total-set (holds_as n) views id v w me, t.busy n h, busy n h);
    home = home;
    claimed = claimed;
    each = each_set (IsPutter (mask word')) views id w others mine;
  }

  -- a step on word 0
  pub unturned : (d d' word : ℕ) (homes : List (m.Option (Option B))) (views : List (View K)) (id : ℕ) (v w : View K)
      → Turning is_patch done_set key d word homes views → get_elem? views id ≡ m.some v
      → w.holds ≡ v.holds → w.number ≡ v.number → Within d d' → IsPutter (mask word) w → Turning is_patch done_set key d' word homes (set views id w)
  unturned d d' word homes views id v w t me holds number grows mine =
      stepped d d' word word homes homes views id v w t me
      (λ n h. ap (λ (x : Bool × ℕ). counted x.0 (only n x.1) + only n (holder word)) (λ i. (holds i, number i)))
      t.home (Within-trans (mask word) d d' t.claimed grows)
      (λ j u ne e. t.each j u e) mine

  pub found : (d bit word : ℕ) (homes : List (m.Option (Option B))) (views : List (View K)) (id : ℕ) (v : View K)
      → Turning is_patch done_set key d word homes views → get_elem? views id ≡ m.some v
      → Turning is_patch done_set key (bit_or d bit) word homes (set views id (finding v d bit))
  found d bit word homes views id v t me = let a = t.each id v me in
      unturned d (bit_or d bit) word homes views id v (finding v d bit) t me refl refl
      (λ p. omega (arith, bit_at_or d bit p)) record { holds = a.holds; puts = a.puts; found = a.found }

  pub claimed : (d bit word : ℕ) (homes : List (m.Option (Option B))) (views : List (View K)) (id : ℕ) (v : View K)
      → Turning is_patch done_set key d word homes views → get_elem? views id ≡ m.some v → bit_and d bit ≡ 0
      → Turning is_patch done_set key (bit_or d bit) word homes (set views id (claiming v d bit))
  claimed d bit word homes views id v t me unset = let a = t.each id v me in
      unturned d (bit_or d bit) word homes views id v (claiming v d bit) t me refl refl (λ p. omega (arith, bit_at_or d bit p))
      record { holds = a.holds; puts = puts_same v.claims bit (mask word) d v.puts a.puts t.claimed unset; found = a.found }

  pub looked : (d word : ℕ) (homes : List (m.Option (Option B))) (views : List (View K)) (id : ℕ) (v : View K)
      → Turning is_patch done_set key d word homes views → get_elem? views id ≡ m.some v
      → Turning is_patch done_set key d word homes (set views id (looking v word))
  looked d word homes views id v t me = let a = t.each id v me in
      unturned d d word homes views id v (looking v word) t me refl refl (λ p. omega arith)
      record {
        holds = a.holds;
        puts = a.puts;
        found = found_more (mask word) word v.found a.found (λ p. omega arith);
      }

  -- the turn is taken: the slot is out
  pub took : (d word : ℕ) (homes homes' : List (m.Option (Option B))) (views : List (View K)) (id : ℕ) (v : View K)
      → Turning is_patch done_set key d word homes views → get_elem? views id ≡ m.some v
      → holder word ≡ 0 → 0 < v.number → v.holds ≡ false
      → Turning is_patch done_set key d (v.number * 281474976710656 + word) homes' (set views id (holding v word))
  took d word homes homes' views id v t me free numbered idle =
      let a = t.each id v me in
      let w : View K = holding v word in
      let word' : ℕ = v.number * 281474976710656 + word in
      let same : mask word' ≡ mask word = omega (arith, free) in
      let holds : holder word' ≡ v.number = omega (arith, free) in
      stepped d d word word' homes homes' views id v w t me
      (λ n h. omega (arith, no n v idle, ap (only n) holds, ap (only n) free, only-other n 0 (λ e. omega arith)))
      (λ z. absurd (omega arith)) (subst (λ n. Within n d) (sym same) t.claimed)
      (λ j u ne e. subst (λ n. IsPutter n u) (sym same) (t.each j u e)) (subst (λ n. IsPutter n w) (sym same) record {
        holds = λ h. (numbered, refl);
        puts = a.puts;
        found = found_more (mask word) word v.found a.found (λ p. omega arith);
      })

  -- the one that holds the turn is the holder
  holder_is : (d word : ℕ) (homes : List (m.Option (Option B))) (views : List (View K)) (id : ℕ) (v : View K)
      → Turning is_patch done_set key d word homes views → get_elem? views id ≡ m.some v → v.holds ≡ true
      → holder word ≡ v.number
  holder_is d word homes views id v t me holds =
      let n = ((t.each id v me).holds holds).0 in
      only-one v.number (holder word)
      (omega (
        arith,
        t.busy v.number n,
        term_le (holds_as v.number) views id v me,
        yes v.number v holds,
        only-same v.number,
      ))

  -- and no other view holds it
  idle_else : (d word : ℕ) (homes : List (m.Option (Option B))) (views : List (View K)) (id j : ℕ) (v u : View K)
      → Turning is_patch done_set key d word homes views → j ≢ id
      → get_elem? views id ≡ m.some v → get_elem? views j ≡ m.some u → v.holds ≡ true → u.holds ≡ true → ⊥
  idle_else d word homes views id j v u t ne me them mine theirs =
      let same : u.number ≡ v.number = sym (holder_is d word homes views j u t them theirs) ∙ holder_is d word homes views id v t me mine in
      let n = ((t.each id v me).holds mine).0 in
      omega (
        arith,
        terms_le (holds_as v.number) views id j v u ne me them,
        t.busy v.number n,
        ap (only v.number) (holder_is d word homes views id v t me mine),
        yes v.number v mine,
        yes v.number u theirs,
        ap (only v.number) same,
        only-same v.number,
      )

  -- the turn is given back: the slot is at home
  pub gave : (d word done : ℕ) (homes homes' : List (m.Option (Option B))) (views : List (View K)) (id : ℕ)
      (v : View K) → Claiming key d views → Turning is_patch done_set key d word homes views
      → get_elem? views id ≡ m.some v
      → v.holds ≡ true → done < 281474976710656 → Within v.known done → Within done (bit_or v.known v.claims)
      → IsHome is_patch done_set key done homes'
      → Turning is_patch done_set key d done homes' (set views id (giving v done))
  gave d word done homes homes' views id v c t me holds small grows within home =
      let a = t.each id v me in
      let known : v.known ≡ mask word = (a.holds holds).1 in
      let same : mask done ≡ done = omega arith in
      let free : holder done ≡ 0 = omega arith in
      let was = holder_is d word homes views id v t me holds in
      let grows' : Within (mask word) done = subst (λ n. Within n done) known grows in
      let within' : Within done (bit_or (mask word) v.claims) = subst (λ n. Within done (bit_or n v.claims)) known within in
      let b = c.each id v me in
      stepped d d word done homes homes' views id v (giving v done) t me
      (λ n h. omega (arith, yes n v holds, ap (only n) was, ap (only n) free, only-other n 0 (λ e. omega arith)))
      (λ z. subst (λ n. IsHome is_patch done_set key n homes') (sym same) home)
      (λ p. omega (arith, ap (λ n. bit_at n p) same, within' p, bit_at_or (mask word) v.claims p, t.claimed p, b.claims p, b.seen p))
      (λ j u ne e. let x = t.each j u e in subst (λ n. IsPutter n u) (sym same) record {
        holds = λ h. absurd (idle_else d word homes views id j v u t ne me e holds h);
        puts = puts_apart u.claims (mask word) done v.claims u.puts x.puts grows' within' (apart_claims key d views id j v u c ne me e);
        found = found_wider (mask word) done u.found grows' x.found;
      })
      (subst (λ n. IsPutter n (giving v done)) (sym same) record {
        holds = λ h. absurd (true≢false (sym h));
        puts = refl;
        found = found_wider (mask word) done v.found grows' a.found;
      })

  first : (i : ℕ) (v : View K) → get_elem? (first_owner key ∷ []) i ≡ m.some v → IsPutter 0 v
  first zero v e = subst (IsPutter 0) (m.some-injective _ _ e)
      record { holds = λ h. absurd (true≢false (sym h)); puts = refl; found = All-nil (λ w. Within (mask w) 0) }
  first (suc i) v e = absurd (m.some-ne-none v (sym e))

  pub begins : (parts : B) → is_patch parts key → done_set parts ≡ 0
      → Turning is_patch done_set key 0 0 (m.some (Some parts) ∷ []) (first_owner key ∷ [])
  begins parts patch none = record {
    busy = λ n h. sym (only-other n 0 (λ e. omega arith));
    home = λ z. record { parts = parts; here = refl; patch = patch; same = none };
    claimed = λ p. omega arith;
    each = first;
  }

  pub dealt : (d word : ℕ) (homes : List (m.Option (Option B))) (views : List (View K)) (id : ℕ) (v : View K)
      → Turning is_patch done_set key d word homes views → get_elem? views id ≡ m.some v
      → Turning is_patch done_set key d word homes (set views id (dealing v) ++ new_pass v ∷ [])
  dealt d word homes views id v t me =
      let a = t.each id v me in
      let o = unturned d d word homes views id v (dealing v) t me refl refl (λ p. omega arith)
      record { holds = a.holds; puts = a.puts; found = a.found } in
      record {
        busy = λ n h. omega (arith, total-append (holds_as n) (set views id (dealing v)) (new_pass v ∷ []), o.busy n h);
        home = o.home;
        claimed = o.claimed;
        each = each_snoc (IsPutter (mask word)) (set views id (dealing v)) (new_pass v) o.each
            record {
              holds = λ h. absurd (true≢false (sym h));
              puts = refl;
              found = All-nil (λ w. Within (mask w) (mask word));
            };
      }

  pub gathered : (d word : ℕ) (homes : List (m.Option (Option B))) (views : List (View K)) (id other : ℕ)
      (v w : View K) → Turning is_patch done_set key d word homes views → get_elem? views id ≡ m.some v → other ≢ id
      → get_elem? views other ≡ m.some w → w.holds ≡ false → Turning is_patch done_set key d word homes (set (set views id (joining v w)) other spent)
  gathered d word homes views id other v w t me ne them idle =
      let a = t.each id v me in
      let b = t.each other w them in
      let both : View K = joining v w in
      let none : View K = spent in
      let o = unturned d d word homes views id v both t me refl refl (λ p. omega arith)
      record {
        holds = a.holds;
        puts = puts_both v.claims w.claims (mask word) v.puts w.puts a.puts b.puts;
        found = a.found;
      } in
      let there : get_elem? (set views id both) other ≡ m.some w = set_else views id other both ne ∙ them in
      stepped d d word word homes homes (set views id both) other w none o there (λ n h. omega (arith, no n w idle))
      o.home o.claimed (λ j u far e. o.each j u e)
      record { holds = λ h. absurd (true≢false (sym h)); puts = refl; found = All-nil (λ x. Within (mask x) (mask word)) }
