-- `dispatch::results::idle` meets its contract. Assumes nothing.
use mathlib.Core.Path.{◌∙◌}
use Rattle.dispatch.specs.Idle.{checks_back, idle_refused, idle_passed}
use Rattle.dispatch.proofs.results.idle.Goals as goal

pub returns-in-Err : goal.returns-in-Err
returns-in-Err c =
    let s = c.args in
    let e = checks_back s.share _ _ _ s.r c.inside-c.result c.inside-c.ensures c.check_resume.ensures in
    idle_refused _ _ e c.in-Err.is

pub returns-in-Ok : goal.returns-in-Ok
returns-in-Ok c =
    let s = c.args in
    let e = checks_back s.share _ _ _ s.r c.inside-c.result c.inside-c.ensures c.check_resume.ensures in
    c.rest.ensures ∙ idle_passed _ _ e c.in-Ok.is
