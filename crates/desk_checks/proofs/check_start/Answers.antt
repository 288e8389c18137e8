-- `desk_checks::check_start` meets its contract: what both calls look at first decides, else the ranges do. Assumes nothing.
use mathlib.Core.Path.{◌∙◌}
use Rattle.calls.proofs.CallLaws.{handed_on, passes}
use Rattle.calls.specs.Paper.{state_of}
use Rattle.checks.specs.CheckLaws.{passed_first, refused_first}
use Rattle.desk_checks.specs.Shape.{start_first, tables_fit}
use Rattle.desk_spec.specs.Desks.{desk_of}
use Rattle.desk_checks.proofs.check_start.Goals as goal

pub returns-in_err-check_tables : goal.returns-in_err-check_tables
returns-in_err-check_tables c =
    let a = c.args in
    rw (handed_on c.from_residual.ensures)
    (refused_first _ c.in_err-check_tables.was c.check_tables.ensures
    ∙ start_first (desk_of a.p a.q a.coefs.now a.generators.now) (state_of a.stack.now a.list.now a.r))

pub check-requires : goal.check-requires
check-requires c = (tables_fit _ _ _ _ _ (passes c.check_tables.ensures c.in_ok-check_tables.was)).1

pub returns : goal.returns
returns c =
    let a = c.args in
    c.check.ensures ∙ passed_first _ c.in_ok-check_tables.was c.check_tables.ensures
    ∙ start_first (desk_of a.p a.q a.coefs.now a.generators.now) (state_of a.stack.now a.list.now a.r)
