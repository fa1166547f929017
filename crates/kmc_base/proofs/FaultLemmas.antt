-- Counts of faults over one call after another.
use Rattle.std.proofs.Common.{ℕ, Option, None, Some, ◌∙◌, subst}
use Rattle.kmc_base.specs.Faults.{OnlyFailed, Rose, SameCounts}

-- no fault, and then none
pub same_then : {K : Type 0} (a b c : K → ℕ) → SameCounts a b → SameCounts b c → SameCounts a c
same_then a b c p q = λ k. q k ∙ p k

-- no fault, and then at most one
pub failed_then : {K : Type 0} (one : Option K) (a b c : K → ℕ) → SameCounts a b → OnlyFailed one b c → OnlyFailed one a c
failed_then None a b c p q = same_then a b c p q
failed_then (Some one) a b c p q = (subst (λ n. Rose n (c one)) (p one) q.0, λ k ne. q.1 k ne ∙ p k)
