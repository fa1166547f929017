use Rattle.std.proofs.Common.{refl}
use Rattle.std.proofs.lemmas.Result.{err_from_is_err_and}
use Rattle.kmc_base.specs.declared.ids.FileId.TheVariants.{Simulation, Lattice, Energetics, Mechanism}
use Rattle.deck_join.specs.Passes.{lines_in}
use Rattle.deck_join.proofs.Chains.{ends, file_fails, lines_read}
use Rattle.deck_join.proofs.shapes.read_shapes.Goals as goal

pub returns-in_err-simulation : goal.returns-in_err-simulation
unfolding lines_in
returns-in_err-simulation c =
    let p = err_from_is_err_and c.from_residual.result c.from_residual.ensures.1 in
    let fault = c.in_err-simulation.field-0.0 in
    rw (p.1, p.2) (ends fault _ _ (file_fails Simulation _ fault c.in_err-simulation.ensures.fault))

pub returns-in_err-lattice : goal.returns-in_err-lattice
unfolding lines_in
returns-in_err-lattice c =
    let p = err_from_is_err_and c.from_residual-in_err-lattice.result c.from_residual-in_err-lattice.ensures.1 in
    let fault = c.in_err-lattice.field-0.0 in
    let first = lines_read Simulation c.args.files.now.simulation.now _ c.in_ok-simulation.ensures.shape in
    rw (p.1, p.2, first) (ends fault _ _ (file_fails Lattice _ fault c.in_err-lattice.ensures.fault))

pub returns-in_err-energetics : goal.returns-in_err-energetics
unfolding lines_in
returns-in_err-energetics c =
    let p = err_from_is_err_and c.from_residual-in_err-energetics.result c.from_residual-in_err-energetics.ensures.1 in
    let fault = c.in_err-energetics.field-0.0 in
    let first = lines_read Simulation c.args.files.now.simulation.now _ c.in_ok-simulation.ensures.shape in
    let second = lines_read Lattice c.args.files.now.lattice.now _ c.in_ok-lattice.ensures.shape in
    rw (p.1, p.2, first, second) (ends fault _ _ (file_fails Energetics _ fault c.in_err-energetics.ensures.fault))

pub returns-in_err-mechanism : goal.returns-in_err-mechanism
unfolding lines_in
returns-in_err-mechanism c =
    let p = err_from_is_err_and c.from_residual-in_err-mechanism.result c.from_residual-in_err-mechanism.ensures.1 in
    let fault = c.in_err-mechanism.field-0.0 in
    let first = lines_read Simulation c.args.files.now.simulation.now _ c.in_ok-simulation.ensures.shape in
    let second = lines_read Lattice c.args.files.now.lattice.now _ c.in_ok-lattice.ensures.shape in
    let third = lines_read Energetics c.args.files.now.energetics.now _ c.in_ok-energetics.ensures.shape in
    rw (p.1, p.2, first, second, third) (ends fault _ _ (file_fails Mechanism _ fault c.in_err-mechanism.ensures.fault))

pub returns : goal.returns
unfolding lines_in
returns c =
    rw (
      lines_read Simulation c.args.files.now.simulation.now _ c.in_ok-simulation.ensures.shape,
      lines_read Lattice c.args.files.now.lattice.now _ c.in_ok-lattice.ensures.shape,
      lines_read Energetics c.args.files.now.energetics.now _ c.in_ok-energetics.ensures.shape,
      lines_read Mechanism c.args.files.now.mechanism.now _ c.in_ok-mechanism.ensures.shape,
    )
    refl
