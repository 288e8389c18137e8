-- `start` meets its contract: what the start by value answered and left is told on, or the check's refusal. Assumes nothing.
use mathlib.Core.Path.{◌∙◌}
use Rattle.c_engine.specs.CodeLaws.{start_fits}
use Rattle.c_engine.specs.WordLaws.{answer_fits, call_told, start_fitting, start_misfit, start_without}
use Rattle.c_engine.proofs.start.Goals as goal

pub tell-requires : goal.tell-requires
tell-requires c =
    answer_fits c.start-o.result c.start-o.ensures (start_fits _ _ _ _ _)

pub returns-then-fits : goal.returns-then-fits
returns-then-fits c =
    let e = rw (c.read-r.ensures, c.lengths-l.ensures) at c.start-o.ensures in
    let same = start_without _ _ _ _ _ _ _ _ c.start-o.result e ∙ start_fitting _ _ _ _ _ _ _ c.fits.ensures c.if-fits.true in
    call_told _ c.start-o.result same c.tell.ensures.value c.tell.ensures.run_after

pub returns : goal.returns
returns c =
    let e = rw c.basis_room-most.ensures at c.misfit.ensures in
    start_misfit _ _ _ _ _ _ _ c.fits.ensures c.if-fits.false e
