-- `misfit_list` meets its contract: a refusal of the check is told, or 6. Assumes nothing.
use mathlib.Core.Path.{◌∙◌, sym, ap}
use Rattle.c_engine.specs.WordLaws.{check_code, passed_first, refused_first}
use Rattle.c_engine.proofs.misfit_list.Goals as goal

pub returns-in-Err : goal.returns-in-Err
returns-in-Err c =
    c.first.ensures ∙ ap check_code (refused_first c.check_start_from.ensures c.in-Err.is)

pub returns-in-Ok : goal.returns-in-Ok
returns-in-Ok c =
    sym (passed_first c.check_start_from.ensures c.in-Ok.is)
