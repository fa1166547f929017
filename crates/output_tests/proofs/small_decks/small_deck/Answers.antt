use Rattle.std.proofs.Common.{◌∷◌, [], ◌≤◌, ℕ, List, arith, rules, slice_index, subst, sym, zero, suc, ◌∙◌, lit≤}
use Rattle.std.specs.List.{All}
use Rattle.deck.specs.Soundness.{HasSoundGas, IsOfBook}
use Rattle.kmc_base.specs.declared.limits.TheConstants.{MAX_DENTATES}
use Rattle.rate_rules.specs.Soundness.{IsSoundChemistry}
use Rattle.rate_rules.specs.declared.chemistry.Cluster.{Cluster}
use Rattle.output_tests.proofs.small_decks.small_deck.Goals as goal

-- one dentate and two dentates are numbers of dentates
one_and_two : All (λ (d : ℕ). (1 ≤ d) × (d ≤ MAX_DENTATES)) (1 ∷ 2 ∷ [])
one_and_two zero d below = (lit≤ tt, lit≤ tt)
one_and_two (suc zero) d below = (lit≤ tt, lit≤ tt)
one_and_two (suc (suc k)) d below = absurd (omega arith)

pub returns-clause-sound : goal.returns-clause-sound
returns-clause-sound c = record {
  chemistry = subst (λ (ds : List ℕ). IsSoundChemistry (λ s. slice_index ds s) c.in_ok-chem.chem)
      (sym c.in_ok-book.ensures.dentates) c.in_ok-chem.ensures.sound;
  plan = search rules;
  clusters = subst (λ (cs : List Cluster). All (λ cluster. All (IsOfBook c.in_ok-book.book) cluster.pattern.wanted) cs)
      (sym c.in_ok-chem.ensures.clusters) (λ k d below. absurd (omega arith));
  gas = subst (λ (n : ℕ). All (HasSoundGas n) c.in_ok-chem.chem.processes) (sym c.in_ok-book.ensures.gas) c.in_ok-chem.ensures.gas;
  one_name_each = search rules;
  dentates = subst (λ (ds : List ℕ). All (λ (d : ℕ). (1 ≤ d) × (d ≤ MAX_DENTATES)) ds) (sym c.in_ok-book.ensures.dentates) one_and_two;
  opening = c.new-3.ensures ∙ c.new-2.ensures.items;
}
