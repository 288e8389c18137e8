-- `start_from` meets its contract: what the start by value answered and left is told on, or the check's refusal. Assumes nothing.
use mathlib.Core.Path.{◌∙◌}
use Rattle.engine_checks.specs.Room.{basis_few}
use Rattle.c_engine.specs.CodeLaws.{start_from_fits}
use Rattle.c_engine.specs.WordLaws.{answer_fits, call_told, list_fitting, list_misfit, list_without}
use Rattle.c_engine.proofs.start_from.Goals as goal

pub tell-requires : goal.tell-requires
tell-requires c =
    answer_fits c.start_from-o.result c.start_from-o.ensures (start_from_fits _ _ _ _ _ _ _)

pub returns-then-fits : goal.returns-then-fits
returns-then-fits c =
    let e = rw (c.read-r.ensures, c.lengths-beside.ensures) at c.start_from-o.ensures in
    let same = list_without _ _ _ _ _ _ _ _ _ _ c.start_from-o.result e ∙ list_fitting _ _ _ _ _ _ _ c.fits.ensures _ _ c.if-fits.true in
    call_told _ c.start_from-o.result same c.tell.ensures.value c.tell.ensures.run_after

pub misfit_list-requires : goal.misfit_list-requires
misfit_list-requires c = rw c.basis_room-most.ensures (basis_few _ _ _).1

pub returns : goal.returns
returns c =
    let e = rw c.basis_room-most.ensures at c.misfit_list.ensures in
    list_misfit _ _ _ _ _ _ _ c.fits.ensures _ _ c.if-fits.false e
