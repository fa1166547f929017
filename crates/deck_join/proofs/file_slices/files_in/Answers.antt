use Rattle.std.proofs.Common.{refl}
use Rattle.std.proofs.lemmas.Result.{err_from_is_err_and}
use Rattle.deck_join.specs.Passes.{files_in}
use Rattle.deck_join.proofs.Chains.{ends}
use Rattle.deck_join.proofs.file_slices.files_in.Goals as goal

pub returns-in_err-simulation-clause-bytes : goal.returns-in_err-simulation-clause-bytes
unfolding files_in
returns-in_err-simulation-clause-bytes c =
    let p = err_from_is_err_and c.from_residual.result c.from_residual.ensures.1 in
    rw (p.1, p.2) (ends c.in_err-simulation.field-0.0 _ _ c.in_err-simulation.ensures.bytes)

pub returns-in_err-lattice-clause-bytes : goal.returns-in_err-lattice-clause-bytes
unfolding files_in
returns-in_err-lattice-clause-bytes c =
    let p = err_from_is_err_and c.from_residual-in_err-lattice.result c.from_residual-in_err-lattice.ensures.1 in
    rw (p.1, p.2, c.in_ok-simulation.ensures.bytes) (ends c.in_err-lattice.field-0.0 _ _ c.in_err-lattice.ensures.bytes)

pub returns-in_err-energetics-clause-bytes : goal.returns-in_err-energetics-clause-bytes
unfolding files_in
returns-in_err-energetics-clause-bytes c =
    let p = err_from_is_err_and c.from_residual-in_err-energetics.result c.from_residual-in_err-energetics.ensures.1 in
    rw (p.1, p.2, c.in_ok-simulation.ensures.bytes, c.in_ok-lattice.ensures.bytes)
    (ends c.in_err-energetics.field-0.0 _ _ c.in_err-energetics.ensures.bytes)

pub returns-in_err-mechanism-clause-bytes : goal.returns-in_err-mechanism-clause-bytes
unfolding files_in
returns-in_err-mechanism-clause-bytes c =
    let p = err_from_is_err_and c.from_residual-in_err-mechanism.result c.from_residual-in_err-mechanism.ensures.1 in
    rw (p.1, p.2, c.in_ok-simulation.ensures.bytes, c.in_ok-lattice.ensures.bytes, c.in_ok-energetics.ensures.bytes)
    (ends c.in_err-mechanism.field-0.0 _ _ c.in_err-mechanism.ensures.bytes)

pub returns-clause-bytes : goal.returns-clause-bytes
unfolding files_in
returns-clause-bytes c =
    rw (
      c.in_ok-simulation.ensures.bytes,
      c.in_ok-lattice.ensures.bytes,
      c.in_ok-energetics.ensures.bytes,
      c.in_ok-mechanism.ensures.bytes,
    )
    refl
