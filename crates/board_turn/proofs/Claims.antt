-- Points 1, 2 and 6 of the rule over the kinds of step.
use Rattle.std.proofs.Common.{◌≡◌, ◌≢◌, ℕ, zero, suc, ◌+◌, ◌^◌, ◌<◌, ◌≤◌, min, List, [], ◌∷◌, ◌++◌, length, set, true, false, sym, refl}
use Rattle.std.proofs.Common.{ap, subst, ◌∙◌, arith, bit_and, bit_or, length-append, true≢false}
use Rattle.std.proofs.lemmas.Bool.{false_from_ne_true}
use mathlib.Core.Option.{some, some-injective, some-ne-none}
use lib.ListN.{get_elem?}
use Rattle.std.specs.Int.{bit_at}
use Rattle.std.proofs.lemmas.Nat.{or_lt}
use Rattle.std.proofs.lemmas.Nat.Bits.{bit_at_or, bit_at-lt, bit_at-zero, same_from_bits}
use Rattle.atomic_table.proofs.Lists.{set_else}
use Rattle.board_turn.specs.Masks.{Within}
use Rattle.board_turn.specs.Sums.{total, yes_no, positive}
use Rattle.board_turn.specs.Views.{spent, first_owner, dealing, new_pass, joining, finding, claiming}
use Rattle.board_turn.specs.Rule.{leads_as, IsClaimer, Claiming}
use Rattle.board_turn.specs.declared.view.View.{View}
use Rattle.board_turn.proofs.Sums.{total-append, total-set, term_le, terms_le, each_set, each_snoc, total-none, below-positive, positive_of}
use Rattle.board_turn.proofs.Bits.{Within-trans, Within-or, or-Within, or-mono, zero-Within, apart_bits, bits_apart}

unnumbered : (n : ℕ) → positive n ≡ 0 → n ≡ 0
unnumbered zero e = refl
unnumbered (suc n) e = absurd (omega arith)

module _ {K : Type 0} where
  -- the same with more pieces claimed
  wider : (key : K) (d d' next : ℕ) (joined : List ℕ) (v : View K) → Within d d' → IsClaimer key d next joined v → IsClaimer key d' next joined v
  wider key d d' next joined v grows a =
      record {
        leads = a.leads;
        claims = a.claims;
        seen = Within-trans v.seen d d' a.seen grows;
        hollow = a.hollow;
        apart = a.apart;
        keyed = a.keyed;
      }

  -- one view goes from v to w, which leads and is numbered alike, and word 0 grows by its new claims
  pub stepped : (key : K) (d d' : ℕ) (views : List (View K)) (id : ℕ) (v w : View K) (c : Claiming key d views)
      → get_elem? views id ≡ some v → w.leads ≡ v.leads → w.number ≡ v.number
      → ((p : ℕ) → bit_at w.claims p + bit_at d p ≡ bit_at v.claims p + bit_at d' p) → Within d d' → d' < 2 ^ 48
      → IsClaimer key d' c.next c.joined w → Claiming key d' (set views id w)
  stepped key d d' views id v w c me leads number claims grows narrow mine = record {
    next = c.next;
    joined = c.joined;
    owner = omega (arith, total-set leads_as views id v w me, ap yes_no leads, c.owner);
    few = c.few;
    once = λ f z. omega (arith, total-set (λ u. f u.number) views id v w me, ap f number, c.once f z);
    given = c.given;
    union = λ p. omega (arith, total-set (λ u. bit_at u.claims p) views id v w me, c.union p, claims p);
    narrow = narrow;
    each = each_set (IsClaimer key d' c.next c.joined) views id w (λ j u ne e. wider key d d' c.next c.joined u grows (c.each j u e)) mine;
  }

  -- a step on word 1
  pub unclaimed : (key : K) (d : ℕ) (views : List (View K)) (id : ℕ) (v w : View K) (c : Claiming key d views)
      → get_elem? views id ≡ some v → w.leads ≡ v.leads → w.number ≡ v.number → w.claims ≡ v.claims
      → IsClaimer key d c.next c.joined w → Claiming key d (set views id w)
  unclaimed key d views id v w c me leads number claims mine =
      stepped key d d views id v w c me leads number (λ p. ap (λ n. bit_at n p + bit_at d p) claims)
      (λ p. omega arith) c.narrow mine

  -- the claim of a piece that was claimed: the bits stay
  pub found : (key : K) (d bit : ℕ) (views : List (View K)) (id : ℕ) (v : View K) (c : Claiming key d views)
      → get_elem? views id ≡ some v → bit < 2 ^ 48 → Within bit d
      → Claiming key (bit_or d bit) (set views id (finding v d bit))
  found key d bit views id v c me small set-already =
      let a = c.each id v me in
      let same : (p : ℕ) → bit_at (bit_or d bit) p ≡ bit_at d p = λ p. omega (arith, bit_at_or d bit p, set-already p) in
      stepped key d (bit_or d bit) views id v (finding v d bit) c me refl refl (λ p. omega (arith, same p))
      (λ p. omega (arith, same p)) (or_lt 48 d bit c.narrow small) record {
        leads = a.leads;
        claims = Within-or v.claims v.seen (bit_or d bit) a.claims;
        seen = or-Within v.seen (bit_or d bit) (bit_or d bit) (Within-or v.seen d bit a.seen) (λ p. omega arith);
        hollow = a.hollow;
        apart = a.apart;
        keyed = a.keyed;
      }

  -- the claim of a piece that was not, by a pass
  pub claimed : (key : K) (d bit : ℕ) (views : List (View K)) (id : ℕ) (v : View K) (c : Claiming key d views)
      → get_elem? views id ≡ some v → bit < 2 ^ 48 → bit_and d bit ≡ 0 → 0 < v.number
      → Claiming key (bit_or d bit) (set views id (claiming v d bit))
  claimed key d bit views id v c me small unset numbered =
      let a = c.each id v me in
      let apart : (p : ℕ) → min (bit_at d p) (bit_at bit p) ≡ 0 = λ p. apart_bits d bit p unset in
      stepped key d (bit_or d bit) views id v (claiming v d bit) c me refl refl
      (λ p. omega (arith, bit_at_or d bit p, bit_at_or v.claims bit p, apart p, a.claims p, a.seen p))
      (λ p. omega (arith, bit_at_or d bit p)) (or_lt 48 d bit c.narrow small) record {
        leads = λ l. absurd (omega (arith, (a.leads l).2));
        claims = λ p. omega (arith, a.claims p, bit_at_or v.claims bit p, bit_at_or v.seen (bit_or d bit) p, bit_at_or d bit p);
        seen = or-Within v.seen (bit_or d bit) (bit_or d bit) (Within-or v.seen d bit a.seen) (λ p. omega arith);
        hollow = λ l z. absurd (omega arith);
        apart = a.apart;
        keyed = a.keyed;
      }

  -- no two views share a claim
  pub apart_claims : (key : K) (d : ℕ) (views : List (View K)) (i j : ℕ) (v u : View K) → Claiming key d views → j ≢ i
      → get_elem? views i ≡ some v → get_elem? views j ≡ some u → (p : ℕ) → bit_at v.claims p + bit_at u.claims p ≤ 1
  apart_claims key d views i j v u c ne me them p =
      omega (arith, terms_le (λ x. bit_at x.claims p) views i j v u ne me them, c.union p, bit_at-lt d p)

  -- a view beside the owner's
  follows : (key : K) (d : ℕ) (views : List (View K)) (i j : ℕ) (v u : View K) → Claiming key d views → v.leads ≡ true
      → j ≢ i → get_elem? views i ≡ some v → get_elem? views j ≡ some u → u.leads ≡ false
  follows key d views i j v u c leads ne me them =
      false_from_ne_true u.leads
      (λ l. omega (arith, terms_le leads_as views i j v u ne me them, c.owner, ap yes_no leads, ap yes_no l))

  -- a view that follows is told nothing by the owner's numbers
  follower : (key : K) (d next next' : ℕ) (joined joined' : List ℕ) (v : View K) → v.leads ≡ false
      → IsClaimer key d next joined v → IsClaimer key d next' joined' v
  follower key d next next' joined joined' v f a =
      record {
        leads = λ l. absurd (true≢false (sym l ∙ f));
        claims = a.claims;
        seen = a.seen;
        hollow = a.hollow;
        apart = a.apart;
        keyed = a.keyed;
      }

  first : (key : K) (i : ℕ) (v : View K) → get_elem? (first_owner key ∷ []) i ≡ some v → IsClaimer key 0 1 [] v
  first key zero v e = subst (IsClaimer key 0 1 []) (some-injective _ _ e) record {
    leads = λ l. (refl, refl, refl);
    claims = λ p. omega arith;
    seen = λ p. omega arith;
    hollow = λ l z. refl;
    apart = refl;
    keyed = λ k is. cc;
  }
  first key (suc i) v e = absurd (some-ne-none v (sym e))

  -- the owner alone, who has claimed nothing
  pub begins : (key : K) → Claiming key 0 (first_owner key ∷ [])
  begins key = record {
    next = 1;
    joined = [];
    owner = refl;
    few = (omega arith, omega arith);
    once = λ f z. omega (arith, z);
    given = refl;
    union = λ p. omega arith;
    narrow = omega arith;
    each = first key;
  }

  -- a new pass
  pub dealt : (key : K) (d : ℕ) (views : List (View K)) (id : ℕ) (v : View K) → Claiming key d views
      → get_elem? views id ≡ some v → v.leads ≡ true → v.next < 65
      → Claiming key d (set views id (dealing v) ++ new_pass v ∷ [])
  dealt key d views id v c me leads few =
      let a = c.each id v me in
      let owns = a.leads leads in
      let vs = set views id (dealing v) in
      let new = new_pass v in
      record {
        next = suc c.next;
        joined = c.joined;
        owner = omega (arith, total-append leads_as vs (new ∷ []), total-set leads_as views id v (dealing v) me, c.owner);
        few = (omega arith, omega (arith, owns.0));
        once = λ f z. omega (
          arith,
          total-append (λ u. f u.number) vs (new ∷ []),
          total-set (λ u. f u.number) views id v (dealing v) me,
          c.once f z,
          ap f owns.0,
        );
        given = c.given;
        union = λ p. omega (
          arith,
          total-append (λ u. bit_at u.claims p) vs (new ∷ []),
          total-set (λ u. bit_at u.claims p) views id v (dealing v) me,
          c.union p,
          bit_at-zero p,
        );
        narrow = c.narrow;
        each = each_snoc (IsClaimer key d (suc c.next) c.joined) vs new
            (each_set (IsClaimer key d (suc c.next) c.joined) views id (dealing v)
            (λ j u ne e. follower key d c.next (suc c.next) c.joined c.joined u
            (follows key d views id j v u c leads ne me e) (c.each j u e)) record {
              leads = λ l. (omega (arith, owns.0), owns.1, owns.2);
              claims = a.claims;
              seen = a.seen;
              hollow = a.hollow;
              apart = a.apart;
              keyed = a.keyed;
            })
            record {
              leads = λ l. absurd (true≢false (sym l));
              claims = λ p. omega arith;
              seen = zero-Within d;
              hollow = λ l z. refl;
              apart = refl;
              keyed = a.keyed;
            };
      }

  -- a pass that becomes the owner's
  pub gathered : (key : K) (d : ℕ) (views : List (View K)) (id other : ℕ) (v w : View K) → Claiming key d views
      → get_elem? views id ≡ some v → other ≢ id → get_elem? views other ≡ some w
      → v.leads ≡ true → w.leads ≡ false → 0 < w.number → Claiming key d (set (set views id (joining v w)) other spent)
  gathered key d views id other v w c me ne them leads led numbered =
      let a = c.each id v me in
      let b = c.each other w them in
      let owns = a.leads leads in
      let both : View K = joining v w in
      let none : View K = spent in
      let vs : List (View K) = set views id both in
      let there : get_elem? vs other ≡ some w = set_else views id other both ne ∙ them in
      let moved : (g : View K → ℕ) → total g (set vs other none) + g w + g v ≡ total g views + g both + g none =
      λ g. omega (arith, total-set g views id v both me, total-set g vs other w none there) in
      let joined : List ℕ = c.joined ++ w.number ∷ [] in
      let apart = apart_claims key d views id other v w c ne me them in
      record {
        next = c.next;
        joined = joined;
        owner = omega (arith, moved leads_as, ap yes_no led, c.owner);
        few = c.few;
        once = λ f z. omega (arith, moved (λ u. f u.number), c.once f z, total-append f c.joined (w.number ∷ []));
        given = omega (
          arith,
          c.given,
          total-append positive c.joined (w.number ∷ []),
          positive_of w.number numbered,
          length-append c.joined (w.number ∷ []),
        );
        union = λ p. omega (arith, moved (λ u. bit_at u.claims p), c.union p, bit_at_or v.claims w.claims p, apart p, bit_at-zero p);
        narrow = c.narrow;
        each = each_set (IsClaimer key d c.next joined) vs other none
            (λ j u far. each_set (IsClaimer key d c.next joined) views id both
            (λ i x apart e. follower key d c.next c.next c.joined joined x
            (follows key d views id i v x c leads apart me e) (c.each i x e)) record {
              leads = λ l. (owns.0, ap (λ xs. xs ++ w.number ∷ []) owns.1, owns.2);
              claims = or-mono v.claims w.claims v.seen w.seen a.claims b.claims;
              seen = or-Within v.seen w.seen d a.seen b.seen;
              hollow = λ l z. absurd (true≢false (sym leads ∙ l));
              apart = bits_apart v.claims w.claims apart;
              keyed = a.keyed;
            } j u)
            record {
              leads = λ l. absurd (true≢false (sym l));
              claims = λ p. omega arith;
              seen = zero-Within d;
              hollow = λ l z. refl;
              apart = refl;
              keyed = λ k is. absurd (cc);
            };
      }

  -- once each number below the next one is joined, no view has a number
  pub none_left : (key : K) (d : ℕ) (views : List (View K)) (c : Claiming key d views) → length c.joined + 1 ≡ c.next
      → (j : ℕ) (u : View K) → get_elem? views j ≡ some u → u.number ≡ 0
  none_left key d views c all j u e =
      unnumbered u.number (omega (
        arith,
        term_le (λ x. positive x.number) views j u e,
        c.once positive refl,
        c.given,
        below-positive c.next c.few.0,
      ))

  -- and then word 0 has the owner's claims
  pub owners_claims : (key : K) (d : ℕ) (views : List (View K)) (id : ℕ) (v : View K) (c : Claiming key d views)
      → get_elem? views id ≡ some v → v.leads ≡ true → length c.joined + 1 ≡ c.next → v.claims ≡ d
  owners_claims key d views id v c me leads all = same_from_bits v.claims d (λ p.
      let g : View K → ℕ = λ u. bit_at u.claims p in
      let nothing : total g (set views id spent) ≡ 0 = total-none g (set views id spent) (each_set (λ u. bit_at u.claims p ≡ 0) views id spent
      (λ j u ne e. ap (λ n. bit_at n p)
      ((c.each j u e).hollow (follows key d views id j v u c leads ne me e) (none_left key d views c all j u e))
      ∙ bit_at-zero p) (bit_at-zero p)) in
      omega (arith, total-set g views id v spent me, c.union p, bit_at-zero p))
