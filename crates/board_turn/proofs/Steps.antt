-- Each kind of step keeps the rule, and gives what its play says.
use Rattle.std.proofs.Common.{◌≡◌, ℕ, ◌+◌, ◌*◌, ◌^◌, ◌<◌, ◌≤◌, List, [], ◌∷◌, length, get_or, set, Bool, true, false, Option, Some, None}
use Rattle.std.proofs.Common.{sym, refl, ap, subst, ◌∙◌, arith, bit_and, bit_or, eqb, length-set, get_or-set_same, get_or-set_other}
use mathlib.Core.Logic.{dite}
use mathlib.Core.Option as m
use native.Mathlib.Decide.{ℕ_discrete}
use lib.ListN.{get_elem?}
use prog.Atomic.{either}
use Rattle.std.specs.Int.{bit_at}
use Rattle.atomic_table.specs.Table.{State, Me, step, Act, keeps, takes, gives, Valid, carried_after, stepped, opening, Allows, Splits}
use Rattle.atomic_table.specs.Table.{Joins, Final, Seen}
use Rattle.atomic_table.proofs.Lists.{set_here, set_else, set_again, exchanged}
use Rattle.board_turn.specs.Masks.{mask, holder, Within}
use Rattle.board_turn.specs.Sums.{total, only}
use Rattle.board_turn.specs.Views.{spent, first_owner, dealing, new_pass, joining, finding, claiming, looking, holding, giving}
use Rattle.board_turn.specs.Rule.{counted, holds_as, IsClaimer, Claiming, Turning, Orderly}
use Rattle.board_turn.specs.Plays.{Learns, Claimed, Looked, Tried, Gave, Audited}
use Rattle.board_turn.specs.declared.view.View.{View}
use Rattle.board_turn.proofs.Sums.{total-none, total_less, only-same, only-other, below-once}
use Rattle.board_turn.proofs.Bits.{pow-Within, set_bit, apart_less, and_within}
use Rattle.board_turn.proofs.Claims as claims
use Rattle.board_turn.proofs.Turns as turns

counted_le : (b : Bool) (n : ℕ) → counted b n ≤ n
counted_le true n = omega arith
counted_le false n = omega arith

first_of_all : (ws : List ℕ) (n : ℕ) → get_elem? ws 0 ≡ m.some n → get_or ws 0 0 ≡ n
first_of_all [] n e = absurd (m.some-ne-none n (sym e))
first_of_all (x ∷ xs) n e = m.some-injective x n e

module _ {B K : Type 0} (is_patch : B → K → Type 0) (done_set : B → ℕ) (key : K) where
  abbrev Rule : State (Option B) (View K) → Type 0
  Rule = Orderly is_patch done_set key

  abbrev Out : Type 0
  Out = Me (Option B) (View K)

  abbrev board : List ℕ → List (m.Option (Option B)) → List (View K) → State (Option B) (View K)
  board ws hs vs = record { words = ws; homes = hs; views = vs }

  -- the table after word 0 became n
  after0 : (s : State (Option B) (View K)) (o : Rule s) (n : ℕ) (vs : List (View K)) → Claiming key n vs
      → Turning is_patch done_set key n (get_or s.words 1 0) s.homes vs → Rule (board (set s.words 0 n) s.homes vs)
  after0 s o n vs c t =
      let two = o.words in
      let here : get_or (set s.words 0 n) 0 0 ≡ n = get_or-set_same s.words 0 n 0 (omega arith) in
      let else : get_or (set s.words 0 n) 1 0 ≡ get_or s.words 1 0 = get_or-set_other s.words 0 1 n 0 (λ e. omega arith) in
      record {
        words = length-set s.words 0 n ∙ two;
        slots = o.slots;
        claims = subst (λ d. Claiming key d vs) (sym here) c;
        turn = subst (λ d. Turning is_patch done_set key d (get_or (set s.words 0 n) 1 0) s.homes vs) (sym here)
            (subst (λ w. Turning is_patch done_set key n w s.homes vs) (sym else) t);
      }

  -- the table after word 1 became n
  after1 : (s : State (Option B) (View K)) (o : Rule s) (n : ℕ) (hs : List (m.Option (Option B))) (vs : List (View K))
      → length hs ≡ length s.homes → Claiming key (get_or s.words 0 0) vs
      → Turning is_patch done_set key (get_or s.words 0 0) n hs vs → Rule (board (set s.words 1 n) hs vs)
  after1 s o n hs vs long c t =
      let two = o.words in
      let here : get_or (set s.words 1 n) 1 0 ≡ n = get_or-set_same s.words 1 n 0 (omega arith) in
      let else : get_or (set s.words 1 n) 0 0 ≡ get_or s.words 0 0 = get_or-set_other s.words 1 0 n 0 (λ e. omega arith) in
      record {
        words = length-set s.words 1 n ∙ two;
        slots = long ∙ o.slots;
        claims = subst (λ d. Claiming key d vs) (sym else) c;
        turn = subst (λ d. Turning is_patch done_set key d (get_or (set s.words 1 n) 1 0) hs vs) (sym else)
            (subst (λ w. Turning is_patch done_set key (get_or s.words 0 0) w hs vs) (sym here) t);
      }

  -- what a look gives
  learns : (d word : ℕ) (homes : List (m.Option (Option B))) (views : List (View K)) (id : ℕ) (v : View K)
      → Claiming key d views → Turning is_patch done_set key d word homes views → get_elem? views id ≡ m.some v
      → Learns v word
  learns d word homes views id v c t me = let a = t.each id v me in record {
    puts = a.puts;
    found = a.found;
    apart = λ numbered idle is. omega (
      arith,
      total_less (holds_as v.number) (λ u. only v.number u.number) views id v (λ u. counted_le u.holds (only v.number u.number)) me,
      c.once (only v.number) (only-other v.number 0 (λ e. omega arith)),
      below-once v.number c.next,
      t.busy v.number numbered,
      ap (only v.number) is,
      only-same v.number,
      ap (λ b. counted b (only v.number v.number)) idle,
    );
  }

  pub begins : (parts : B) → is_patch parts key → done_set parts ≡ 0 → Rule (opening (0 ∷ 0 ∷ []) (Some parts ∷ []) (first_owner key))
  begins parts patch none =
      record {
        words = refl;
        slots = refl;
        claims = claims.begins key;
        turn = turns.begins is_patch done_set key parts patch none;
      }

  pub deals : (id : ℕ) (v : View K) → v.leads ≡ true → v.next < 65 → Splits Rule id v (dealing v) (new_pass v)
  deals id v leads few s o me = record {
    words = o.words;
    slots = o.slots;
    claims = claims.dealt key (get_or s.words 0 0) s.views id v o.claims me leads few;
    turn = turns.dealt is_patch done_set key (get_or s.words 0 0) (get_or s.words 1 0) s.homes s.views id v o.turn me;
  }

  pub gathers : (id : ℕ) (v : View K) (other : ℕ) (w : View K) → v.leads ≡ true → w.leads ≡ false → 0 < w.number
      → w.holds ≡ false → Joins Rule id v other w (joining v w) spent
  gathers id v other w leads led numbered idle s o me apart them =
      let there : get_elem? s.views other ≡ m.some w = sym (set_else s.views id other (joining v w) apart) ∙ them in
      record {
        words = o.words;
        slots = o.slots;
        claims = claims.gathered key (get_or s.words 0 0) s.views id other v w o.claims me apart there leads led numbered;
        turn = turns.gathered is_patch done_set key (get_or s.words 0 0) (get_or s.words 1 0) s.homes s.views id other v w o.turn me apart there idle;
      }

  pub audits : (n id : ℕ) (out : Out) → Allows Rule n id out 0 (λ x. x) (Audited (step n 0 0 0 m.none) out)
  audits n id out s o wide me _ =
      let r : ℕ = get_or s.words 0 0 in
      let same : set s.views id out.0 ≡ s.views = set_again s.views id out.0 me in
      let kept : Rule (board (set s.words 0 r) s.homes s.views) = after0 s o r s.views o.claims o.turn in (
        out.0,
        keeps,
        tt,
        subst (λ vs. Rule (board (set s.words 0 r) s.homes vs)) (sym same) kept,
        record { seat = refl; apart = (o.claims.each id out.0 me).apart },
      )

  pub claims_one : (n id : ℕ) (out : Out) (bit piece : ℕ) → bit ≡ 2 ^ piece → bit < 2 ^ 48 → 0 < out.0.number
      → Allows Rule n id out 0 (λ x. bit_or x bit) (Claimed (step n 0 bit 0 m.none) out)
  claims_one n id out bit piece is small numbered s o wide me _ =
      let r : ℕ = get_or s.words 0 0 in
      let word : ℕ = get_or s.words 1 0 in
      let v = out.0 in
      dite (ℕ_discrete (bit_and r bit) 0)
      (λ unset. (
        claiming v r bit,
        keeps,
        tt,
        after0 s o (bit_or r bit) (set s.views id (claiming v r bit))
            (claims.claimed key r bit s.views id v o.claims me small unset numbered)
            (turns.claimed is_patch done_set key r bit word s.homes s.views id v o.turn me unset),
        record {
          won = λ _. (
            refl,
            apart_less v.claims bit r
                (λ p. omega (arith, (o.claims.each id v me).claims p, (o.claims.each id v me).seen p)) unset,
          );
          lost = λ ne. absurd (ne unset);
        },
      ))
      (λ isset. (
        finding v r bit,
        keeps,
        tt,
        after0 s o (bit_or r bit) (set s.views id (finding v r bit))
            (claims.found key r bit s.views id v o.claims me small
            (subst (λ x. Within x r) (sym is)
            (pow-Within piece r (set_bit r piece (λ z. isset (ap (bit_and r) is ∙ z))))))
            (turns.found is_patch done_set key r bit word s.homes s.views id v o.turn me),
        record { won = λ z. absurd (isset z); lost = λ _. refl },
      ))

  -- the rest of a step on word 1
  same_claimer : (d next : ℕ) (joined : List ℕ) (v w : View K) → (w.leads ≡ v.leads) × (w.next ≡ v.next)
      × (w.joined ≡ v.joined) × (w.number ≡ v.number) × (w.claims ≡ v.claims) × (w.seen ≡ v.seen)
      × (w.twice ≡ v.twice) × (w.key ≡ v.key)
      → IsClaimer key d next joined v → IsClaimer key d next joined w
  same_claimer d next joined v w e a = record {
    leads = λ l. let t = a.leads (sym e.0 ∙ l) in (e.1 ∙ t.0, e.2 ∙ t.1, e.3 ∙ t.2);
    claims = λ p. omega (arith, ap (λ n. bit_at n p) e.4, ap (λ n. bit_at n p) e.5, a.claims p);
    seen = λ p. omega (arith, ap (λ n. bit_at n p) e.5, a.seen p);
    hollow = λ l z. e.4 ∙ a.hollow (sym e.0 ∙ l) (sym e.3 ∙ z);
    apart = e.6 ∙ a.apart;
    keyed = λ k is. a.keyed k (sym e.7 ∙ is);
  }

  look_at : (s : State (Option B) (View K)) (o : Rule s) (id : ℕ) (v : View K) → get_elem? s.views id ≡ m.some v
      → Rule (board (set s.words 1 (get_or s.words 1 0)) s.homes (set s.views id (looking v (get_or s.words 1 0))))
  look_at s o id v me =
      let d : ℕ = get_or s.words 0 0 in
      let r : ℕ = get_or s.words 1 0 in
      let w : View K = looking v r in
      after1 s o r s.homes (set s.views id w) refl
      (claims.unclaimed key d s.views id v w o.claims me refl refl refl
      (same_claimer d o.claims.next o.claims.joined v w (refl, refl, refl, refl, refl, refl, refl, refl)
      (o.claims.each id v me)))
      (turns.looked is_patch done_set key d r s.homes s.views id v o.turn me)

  pub looks : (n id : ℕ) (out : Out) → Allows Rule n id out 1 (λ x. x) (Looked (step n 1 0 0 m.none) out)
  looks n id out s o wide me _ = (
    looking out.0 (get_or s.words 1 0),
    keeps,
    tt,
    look_at s o id out.0 me,
    record { seat = refl; learns = learns (get_or s.words 0 0) (get_or s.words 1 0) s.homes s.views id out.0 o.claims o.turn me },
  )

  -- what `Allows` asks where the word becomes x
  abbrev Goes : State (Option B) (View K) → ℕ → Out → (ℕ → Out → Type 0) → ℕ → Type 0
  Goes s id out then x = (w : View K) × (a : Act (Option B)) × Valid s.homes out.1 a
      × Rule (stepped s 1 x id out.1 w a) × then (get_or s.words 1 0) (w, carried_after out.1 a)

  pub takes_turn : (n id : ℕ) (out : Out) (old new : ℕ) → holder old ≡ 0 → new ≡ out.0.number * 281474976710656 + old
      → 0 < out.0.number → out.0.holds ≡ false
      → Allows Rule n id out 1 (λ x. either (eqb x old) new x) (Tried is_patch done_set (step n 1 old new m.none) out)
  takes_turn n id out old new free is numbered idle s o wide me _ =
      let d : ℕ = get_or s.words 0 0 in
      let r : ℕ = get_or s.words 1 0 in
      let v = out.0 in
      let told = learns d r s.homes s.views id v o.claims o.turn me in
      let then : ℕ → Out → Type 0 = Tried is_patch done_set (step n 1 old new m.none) out in
      exchanged r old new (Goes s id out then)
      (λ hit.
      let w : View K = holding v r in
      let home = o.turn.home (ap holder hit ∙ free) in
      let hs : List (m.Option (Option B)) = set s.homes 0 m.none in
      let word : new ≡ v.number * 281474976710656 + r = is ∙ ap (λ x. v.number * 281474976710656 + x) (sym hit) in (
        w,
        takes 0 (Some home.parts),
        home.here,
        after1 s o new hs (set s.views id w) (length-set s.homes 0 m.none)
            (claims.unclaimed key d s.views id v w o.claims me refl refl refl
            (same_claimer d o.claims.next o.claims.joined v w (refl, refl, refl, refl, refl, refl, refl, refl)
            (o.claims.each id v me)))
            (subst (λ x. Turning is_patch done_set key d x hs (set s.views id w)) (sym word)
            (turns.took is_patch done_set key d r s.homes hs s.views id v o.turn me (ap holder hit ∙ free)
            numbered idle)),
        record {
          learns = told;
          won = λ _. record {
            parts = home.parts;
            seat = refl;
            patch = λ k shows. subst (is_patch home.parts) (sym ((o.claims.each id v me).keyed k shows)) home.patch;
            done = home.same;
          };
          lost = λ ne. absurd (ne hit);
        },
      ))
      (λ miss. (looking v r, keeps, tt, look_at s o id v me, record { learns = told; won = λ hit. absurd (miss hit); lost = λ _. refl }))

  gives_as : (n id : ℕ) (v : View K) (parts : B) (k : K) (new : ℕ) → v.holds ≡ true → v.key ≡ Some k
      → is_patch parts k → done_set parts ≡ new → new < 281474976710656 → Within v.known new
      → Within new (bit_or v.known v.claims)
      → let out : Out = (v, (0, Some parts) ∷ []) in Allows Rule n id out 1 (λ _. new) (λ _. Gave (step n 1 new 0 m.none) out new)
  gives_as n id v parts k new holds shows patch done small grows within s o wide me _ =
      let d : ℕ = get_or s.words 0 0 in
      let r : ℕ = get_or s.words 1 0 in
      let w : View K = giving v new in
      let one = o.slots in
      let hs : List (m.Option (Option B)) = set s.homes 0 (m.some (Some parts)) in
      let a = o.claims.each id v me in
      let b = o.turn.each id v me in (
        w,
        gives,
        tt,
        after1 s o new hs (set s.views id w) (length-set s.homes 0 (m.some (Some parts)))
            (claims.unclaimed key d s.views id v w o.claims me refl refl refl
            (same_claimer d o.claims.next o.claims.joined v w (refl, refl, refl, refl, refl, refl, refl, refl) a))
            (turns.gave is_patch done_set key d r new s.homes hs s.views id v o.claims o.turn me holds small grows within
            record {
              parts = parts;
              here = set_here s.homes 0 (m.some (Some parts)) (omega arith);
              patch = subst (is_patch parts) (a.keyed k shows) patch;
              same = done;
            }),
        record { seat = refl; puts = b.puts ∙ ap (bit_and v.claims) (sym (b.holds holds).1) },
      )

  pub gives_turn : (n id : ℕ) (out : Out) (parts : B) (k : K) (new : ℕ) → out.1 ≡ (0, Some parts) ∷ []
      → out.0.holds ≡ true → out.0.key ≡ Some k → is_patch parts k → done_set parts ≡ new → new < 281474976710656
      → Within out.0.known new → Within new (bit_or out.0.known out.0.claims)
      → Allows Rule n id out 1 (λ _. new) (λ _. Gave (step n 1 new 0 m.none) out new)
  gives_turn n id out parts k new carries holds shows patch done small grows within =
      subst (λ (x : List (ℕ × Option B)). Allows Rule n id (out.0, x) 1 (λ _. new)
      (λ _. Gave (step n 1 new 0 m.none) (out.0, x) new)) (sym carries)
      (gives_as n id out.0 parts k new holds shows patch done small grows within)

  -- nobody holds the turn where no view has a number
  free_at_last : (d word : ℕ) (homes : List (m.Option (Option B))) (views : List (View K))
      → Turning is_patch done_set key d word homes views
      → ((j : ℕ) (u : View K) → get_elem? views j ≡ m.some u → u.number ≡ 0) → holder word ≡ 0
  free_at_last d word homes views t none = dite (ℕ_discrete (holder word) 0) (λ z. z) (λ nz.
      let n : ℕ = holder word in
      let nobody : total (holds_as n) views ≡ 0 =
      total-none (holds_as n) views
      (λ j u e. omega (
        arith,
        counted_le u.holds (only n u.number),
        ap (only n) (none j u e),
        only-other n 0 (λ x. nz (sym x)),
      )) in
      absurd (omega (arith, t.busy n (omega arith), only-same n)))

  -- what is left when the board is closed
  pub record Left (v : View K) (ws : List ℕ) (xs : List (Option B)) : Type 0 where
    pub parts : B
    pub here : get_elem? xs 0 ≡ m.some (Some parts)
    pub patch : is_patch parts key
    pub puts : v.puts ≡ done_set parts
    pub claims : v.claims ≡ get_or ws 0 0

  pub closes : (id : ℕ) (v : View K) (ws : List ℕ) (xs : List (Option B)) → v.leads ≡ true
      → length v.joined + 1 ≡ v.next → Final (Seen Rule id v) ws xs → Left v ws xs
  closes id v ws xs leads all end =
      let s = end.0 in
      let o = end.1.0 in
      let me = end.1.1 in
      let c = o.claims in
      let t = o.turn in
      let d : ℕ = get_or s.words 0 0 in
      let r : ℕ = get_or s.words 1 0 in
      let owns = (c.each id v me).leads leads in
      let joined : length c.joined + 1 ≡ c.next = ap (λ l. length l + 1) (sym owns.1) ∙ (all ∙ owns.0) in
      let drawn : v.claims ≡ d = claims.owners_claims key d s.views id v c me leads joined in
      let home = t.home (free_at_last d r s.homes s.views t (claims.none_left key d s.views c joined)) in
      record {
        parts = home.parts;
        here = end.4 0 (Some home.parts) home.here;
        patch = home.patch;
        puts = (t.each id v me).puts ∙ (ap (λ n. bit_and n (mask r)) drawn ∙ (and_within d (mask r) t.claimed ∙ sym home.same));
        claims = drawn ∙ ap (λ l. get_or l 0 0) end.2;
      }

  -- the parts and the first word, as they come out of the table
  pub record Ended (v : View K) (parts : B) (word : ℕ) : Type 0 where
    pub patch : is_patch parts key
    pub puts : done_set parts ≡ v.puts
    pub claims : word ≡ v.claims

  pub ends : (v : View K) (ws : List ℕ) (xs : List (Option B)) (slot : Option B) (parts : B) (word : ℕ) → Left v ws xs
      → get_elem? xs 0 ≡ m.some slot → slot ≡ Some parts → get_elem? ws 0 ≡ m.some word → Ended v parts word
  ends v ws xs slot parts word left out is first =
      let found : Some left.parts ≡ slot = m.some-injective _ _ (sym left.here ∙ out) in
      let same : left.parts ≡ parts = cc in
      record {
        patch = subst (λ p. is_patch p key) same left.patch;
        puts = ap done_set (sym same) ∙ sym left.puts;
        claims = sym (first_of_all ws word first) ∙ sym left.claims;
      }

  pub never_empty : (v : View K) (ws : List ℕ) (xs : List (Option B)) (slot : Option B) → Left v ws xs
      → get_elem? xs 0 ≡ m.some slot → slot ≡ None → ⊥
  never_empty v ws xs slot left out is = let found : Some left.parts ≡ slot = m.some-injective _ _ (sym left.here ∙ out) in cc
