use Rattle.std.proofs.Common.{[], ◌∷◌}
use Rattle.std.proofs.lemmas.Result.{err_from_is_err_and}
use Rattle.kmc_base.specs.declared.ids.FileId.TheVariants.{Simulation, Lattice, Energetics, Mechanism}
use Rattle.deck_join.proofs.LoadLemmas.{earlier_passed}
use Rattle.deck_join.proofs.loading.load_texts.Goals as goal

pub returns-in_err-lattice-clause-failed : goal.returns-in_err-lattice-clause-failed
returns-in_err-lattice-clause-failed g c =
    let p = err_from_is_err_and c.from_residual-in_err-lattice.result c.from_residual-in_err-lattice.ensures.1 in
    let after = Energetics ∷ Mechanism ∷ [] in
    rw (p.1, p.2) (earlier_passed _ _ Simulation (Lattice ∷ after) c.in_err-lattice.field-0.0
    c.load_text.ensures.loads c.in_ok-simulation.ensures.passed (c.in_err-lattice.ensures.failed after))

pub returns-in_err-energetics-clause-failed : goal.returns-in_err-energetics-clause-failed
returns-in_err-energetics-clause-failed g c =
    let p = err_from_is_err_and c.from_residual-in_err-energetics.result c.from_residual-in_err-energetics.ensures.1 in
    let status = c.in_err-energetics.field-0.0 in
    let after = Mechanism ∷ [] in
    rw (p.1, p.2)
    (earlier_passed _ _ Simulation (Lattice ∷ Energetics ∷ after) status c.load_text.ensures.loads c.in_ok-simulation.ensures.passed
    (earlier_passed _ _ Lattice (Energetics ∷ after) status c.load_text-2.ensures.loads c.in_ok-lattice.ensures.passed
    (c.in_err-energetics.ensures.failed after)))

pub returns-in_err-mechanism-clause-failed : goal.returns-in_err-mechanism-clause-failed
returns-in_err-mechanism-clause-failed g c =
    let p = err_from_is_err_and c.from_residual-in_err-mechanism.result c.from_residual-in_err-mechanism.ensures.1 in
    let status = c.in_err-mechanism.field-0.0 in
    rw (p.1, p.2)
    (earlier_passed _ _ Simulation (Lattice ∷ Energetics ∷ Mechanism ∷ []) status c.load_text.ensures.loads c.in_ok-simulation.ensures.passed
    (earlier_passed _ _ Lattice (Energetics ∷ Mechanism ∷ []) status c.load_text-2.ensures.loads c.in_ok-lattice.ensures.passed
    (earlier_passed _ _ Energetics (Mechanism ∷ []) status c.load_text-3.ensures.loads
    c.in_ok-energetics.ensures.passed (c.in_err-mechanism.ensures.failed []))))
