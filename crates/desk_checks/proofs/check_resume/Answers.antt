-- `desk_checks::check_resume` meets its contract: what both calls look at first decides, else the record and the tables, else the ranges do. Assumes nothing.
use mathlib.Core.Path.{sym, ◌∙◌}
use Rattle.calls.proofs.CallLaws.{handed_on, passes}
use Rattle.calls.specs.Paper.{state_of}
use Rattle.checks.specs.CheckLaws.{passed_first, refused_first}
use Rattle.desk_checks.specs.Shape.{resume_first, rows_fit, six_passed, six_refused, tables_fit}
use Rattle.desk_spec.specs.Desks.{desk_in_order, desk_of, desk_row_in_order}
use Rattle.desk_checks.proofs.check_resume.Goals as goal

pub returns-in_err-check_tables : goal.returns-in_err-check_tables
returns-in_err-check_tables c =
    let a = c.args in
    rw (handed_on c.from_residual.ensures)
    (refused_first _ c.in_err-check_tables.was c.check_tables.ensures
    ∙ resume_first (desk_of a.p a.q a.coefs.now a.generators.now) (state_of a.stack.now a.list.now a.r))

pub in_order-requires : goal.in_order-requires
in_order-requires c = rows_fit (tables_fit _ _ _ _ _ (passes c.check_tables.ensures c.in_ok-check_tables.was)).0

pub returns-then-not-in_order : goal.returns-then-not-in_order
unfolding desk_in_order desk_row_in_order
returns-then-not-in_order c =
    let a = c.args in
    six_refused _ _ (sym c.in_order.ensures ∙ c.if-not-in_order.true) ∙ passed_first _ c.in_ok-check_tables.was c.check_tables.ensures
    ∙ resume_first (desk_of a.p a.q a.coefs.now a.generators.now) (state_of a.stack.now a.list.now a.r)

pub check-requires : goal.check-requires
check-requires c = (tables_fit _ _ _ _ _ (passes c.check_tables.ensures c.in_ok-check_tables.was)).1

pub returns : goal.returns
unfolding desk_in_order desk_row_in_order
returns c =
    let a = c.args in
    c.check.ensures ∙ six_passed _ _ (sym c.in_order.ensures ∙ c.if-not-in_order.false) ∙ passed_first _ c.in_ok-check_tables.was c.check_tables.ensures
    ∙ resume_first (desk_of a.p a.q a.coefs.now a.generators.now) (state_of a.stack.now a.list.now a.r)
