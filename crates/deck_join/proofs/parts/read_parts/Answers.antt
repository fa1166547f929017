use Rattle.std.proofs.Common.{refl}
use Rattle.std.proofs.lemmas.Result.{err_from_is_err_and}
use Rattle.kmc_base.specs.declared.ids.FileId.TheVariants.{Simulation, Lattice, Energetics, Mechanism}
use Rattle.deck_join.specs.Passes.{values_in}
use Rattle.deck_join.proofs.Chains.{ends, file_fails}
use Rattle.deck_join.proofs.parts.read_parts.Goals as goal

pub returns-in_err-simulation-clause-values : goal.returns-in_err-simulation-clause-values
unfolding values_in
returns-in_err-simulation-clause-values c =
    let p = err_from_is_err_and c.from_residual.result c.from_residual.ensures.1 in
    let fault = c.in_err-simulation.field-0.0 in
    rw (p.1, p.2) (ends fault _ _ (file_fails Simulation _ fault c.in_err-simulation.ensures.fault))

pub returns-in_err-lattice-clause-values : goal.returns-in_err-lattice-clause-values
unfolding values_in
returns-in_err-lattice-clause-values c =
    let p = err_from_is_err_and c.from_residual-in_err-lattice.result c.from_residual-in_err-lattice.ensures.1 in
    let fault = c.in_err-lattice.field-0.0 in
    rw (p.1, p.2, c.in_ok-simulation.ensures.values) (ends fault _ _ (file_fails Lattice _ fault c.in_err-lattice.ensures.fault))

pub returns-in_err-energetics-clause-values : goal.returns-in_err-energetics-clause-values
unfolding values_in
returns-in_err-energetics-clause-values c =
    let p = err_from_is_err_and c.from_residual-in_err-energetics.result c.from_residual-in_err-energetics.ensures.1 in
    let fault = c.in_err-energetics.field-0.0 in
    rw (p.1, p.2, c.in_ok-simulation.ensures.values, c.in_ok-lattice.ensures.values)
    (ends fault _ _ (file_fails Energetics _ fault c.in_err-energetics.ensures.fault))

pub returns-in_err-mechanism-clause-values : goal.returns-in_err-mechanism-clause-values
unfolding values_in
returns-in_err-mechanism-clause-values c =
    let p = err_from_is_err_and c.from_residual-in_err-mechanism.result c.from_residual-in_err-mechanism.ensures.1 in
    let fault = c.in_err-mechanism.field-0.0 in
    rw (p.1, p.2, c.in_ok-simulation.ensures.values, c.in_ok-lattice.ensures.values, c.in_ok-energetics.ensures.values)
    (ends fault _ _ (file_fails Mechanism _ fault c.in_err-mechanism.ensures.fault))

pub returns-clause-values : goal.returns-clause-values
unfolding values_in
returns-clause-values c =
    rw (
      c.in_ok-simulation.ensures.values,
      c.in_ok-lattice.ensures.values,
      c.in_ok-energetics.ensures.values,
      c.in_ok-mechanism.ensures.values,
    )
    refl
