-- `misfit_sides` meets its contract: a refusal of the check is told, or 6. Assumes nothing.
use mathlib.Core.Path.{◌∙◌}
use Rattle.c_engine.specs.WordLaws.{shape_passed, shape_refused}
use Rattle.c_engine.proofs.misfit_sides.Goals as goal

pub returns-in-Err : goal.returns-in-Err
returns-in-Err c =
    let s = c.args in
    c.number_of.ensures
    ∙ shape_refused s.p s.q s.coefs s.rights s.lower s.equations s.basis s.sizes c.check_shape.ensures
    c.in-Err.is

pub returns-in-Ok : goal.returns-in-Ok
returns-in-Ok c = shape_passed c.check_shape.ensures c.in-Ok.is
