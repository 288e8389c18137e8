-- `start_sides` meets its contract: what the start by value answered and left is told on, or the check's refusal. Assumes nothing.
use mathlib.Core.Path.{◌∙◌}
use Rattle.c_engine.specs.CodeLaws.{start_sides_fits}
use Rattle.c_engine.specs.WordLaws.{answer_fits, call_told, sides_fitting, sides_misfit, sides_without}
use Rattle.c_engine.proofs.start_sides.Goals as goal

pub tell-requires : goal.tell-requires
tell-requires c =
    answer_fits c.start_sides-o.result c.start_sides-o.ensures (start_sides_fits _ _ _ _ _ _ _)

pub returns-then-fits : goal.returns-then-fits
returns-then-fits c =
    let e = rw (c.read-r.ensures, c.lengths-beside.ensures) at c.start_sides-o.ensures in
    let same =
    sides_without _ _ _ _ _ _ _ _ _ _ c.start_sides-o.result e ∙ sides_fitting _ _ _ _ _ _ _ _ _ c.fits.ensures c.if-fits.true in
    call_told _ c.start_sides-o.result same c.tell.ensures.value c.tell.ensures.run_after

pub returns : goal.returns
returns c =
    sides_misfit _ _ _ _ _ _ _ _ _ c.fits.ensures c.if-fits.false c.misfit_sides.ensures
