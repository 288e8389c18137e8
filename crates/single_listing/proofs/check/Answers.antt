-- `check` meets its contract. The map decides, else the rows do. Assumes nothing.
use mathlib.Core.Path.{◌∙◌}
use Rattle.calls.proofs.CallLaws.{passes}
use Rattle.definitions.specs.Input.{input_of}
use Rattle.std.proofs.lemmas.Result.{err_from_is_err_and}
use Rattle.checks.specs.CheckLaws.{refused_first, passed_first}
use Rattle.single_listing.specs.Passes.{checks_in, map_whole}
use Rattle.single_listing.proofs.check.Goals as goal

pub check_rows-requires : goal.check_rows-requires
check_rows-requires c =
    let a = c.args in
    map_whole (input_of a.p a.q a.coefs.now) a.list.now a.found (passes c.check.ensures c.in_ok-check.was)

pub returns-in_err-check : goal.returns-in_err-check
unfolding checks_in
returns-in_err-check c =
    let p = err_from_is_err_and c.from_residual.result c.from_residual.ensures.1 in
    rw (p.1, p.2) (refused_first _ c.in_err-check.was c.check.ensures)

pub returns : goal.returns
unfolding checks_in
returns c = c.check_rows.ensures ∙ passed_first _ c.in_ok-check.was c.check.ensures
