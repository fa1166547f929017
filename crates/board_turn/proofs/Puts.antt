-- What one put does to the parts that are out.
use Rattle.std.proofs.Common.{◌≡◌, ℕ, ◌^◌, Option, Some, None, Result, Ok, Err, OnOk, IfErr, IsSome, refl, ap, subst, sym, arith, bit_and, bit_or}
use Rattle.std.specs.Int.{bit_at}
use Rattle.std.specs.Option.{ForSome}
use Rattle.std.proofs.lemmas.Nat.Bits.{bit_at_and, bit_at_or, same_from_bits}
use Rattle.board_turn.specs.Masks.{Within}
use Rattle.board_turn.proofs.Bits.{Within-or, or-Within, pow-Within, or_has}

module _ {B K : Type 0} (is_patch : B → K → Type 0) (done : B → ℕ) where
  pub record Keeps (new : B) (shown : Option K) (known claims : ℕ) : Type 0 where
    pub patch : ForSome shown (λ key. is_patch new key)
    pub grows : Within known (done new)
    pub within : Within (done new) (bit_or known claims)

module _ {B K F M X : Type 0} (is_patch : B → K → Type 0) (is_right : K → F → Type 0) (done : B → ℕ) where
  pub put_keeps : (r : Result X (F × M)) (old new : B) (shown : Option K) (finding : F) (piece known claims : ℕ)
      → OnOk r (done new ≡ bit_or (done old) (2 ^ piece))
      → OnOk r ((k : K) → is_patch old k → is_right k finding → is_patch new k)
      → IfErr r (λ back. (back.0 ≡ finding) × (new ≡ old)) → ForSome shown (λ key. is_right key finding)
      → bit_at claims piece ≡ 1
      → ForSome shown (λ key. is_patch old key) → Within known (done old) → Within (done old) (bit_or known claims)
      → Keeps is_patch done new shown known claims
  put_keeps (Ok x) old new shown finding piece known claims did patched back right claimed patch grows within = record {
    patch = λ key is. patched key (patch key is) (right key is);
    grows = subst (Within known) (sym did) (Within-or known (done old) (2 ^ piece) grows);
    within = subst (λ n. Within n (bit_or known claims)) (sym did)
        (or-Within (done old) (2 ^ piece) (bit_or known claims) within
        (pow-Within piece (bit_or known claims) (omega (arith, bit_at_or known claims piece))));
  }
  put_keeps (Err e) old new shown finding piece known claims did patched back right claimed patch grows within = record {
    patch = λ key is. subst (λ x. is_patch x key) (sym back.1) (patch key is);
    grows = subst (λ x. Within known (done x)) (sym back.1) grows;
    within = subst (λ x. Within (done x) (bit_or known claims)) (sym back.1) within;
  }

-- two facts of the key that is shown
pub shown_key : {K : Type 0} (P Q : K → Type 0) (o : Option K) → IsSome o → ForSome o P → ForSome o Q → (key : K) × P key × Q key
shown_key P Q (Some key) some p q = (key, p key refl, q key refl)
shown_key P Q None none p q = absurd (cc)

-- a fact of the one key that is shown
pub on_key : {K : Type 0} (P : K → Type 0) (o : Option K) (key : K) → o ≡ Some key → P key → ForSome o P
on_key P o key shown p other is = let same : key ≡ other = cc in subst P same p

-- one piece more is done, which is claimed: it joins the puts
pub put_joins : (claims known done had puts piece : ℕ) → had ≡ bit_and claims known → done ≡ bit_or known (2 ^ piece)
    → puts ≡ bit_and claims done → bit_at claims piece ≡ 1 → puts ≡ bit_or had (2 ^ piece)
put_joins claims known done had puts piece was more now claimed = same_from_bits puts (bit_or had (2 ^ piece)) (λ p. omega (
  arith,
  ap (λ n. bit_at n p) was,
  ap (λ n. bit_at n p) more,
  ap (λ n. bit_at n p) now,
  bit_at_and claims known p,
  bit_at_and claims done p,
  bit_at_or known (2 ^ piece) p,
  bit_at_or had (2 ^ piece) p,
  pow-Within piece claims claimed p,
))

pub put_has : (claims known done puts piece : ℕ) → done ≡ bit_or known (2 ^ piece) → puts ≡ bit_and claims done
    → bit_at claims piece ≡ 1 → bit_at puts piece ≡ 1
put_has claims known done puts piece more now claimed = omega (
  arith,
  ap (λ n. bit_at n piece) more,
  ap (λ n. bit_at n piece) now,
  bit_at_and claims done piece,
  or_has known (2 ^ piece) piece refl,
)
