-- `equation_write::write_equation` meets its contract: the refusals in their order, and then the row. Assumes nothing.
use Rattle.std.proofs.Common.{◌∙◌, rules, to_z-of_z}
use Rattle.std.proofs.lemmas.Result.{err_from_is_err_and}
use Rattle.equation_write.specs.CallLaws.{no_unknown, many_unknowns, other_length, large, in_range, passed}
use Rattle.equation_write.proofs.write_equation.Goals as goal
use Rattle.equation_write.proofs.write_equation.Goals.{then-q-lt1-via-then-q-lt1, then-q-lt1-via-else-q-lt1+then-q-gt16}

pub returns-then-q-lt1 : goal.returns-then-q-lt1
returns-then-q-lt1 c =
    elim c.then-q-lt1.branch [
      | then-q-lt1-via-then-q-lt1 w ↦ no_unknown _ _ _ _ w.if-q-lt1.true
      | then-q-lt1-via-else-q-lt1+then-q-gt16 w ↦ many_unknowns _ _ _ _ w.if-q-lt1.false w.if-q-gt16.true
    ]

pub returns-then-row-q : goal.returns-then-row-q
returns-then-row-q c = other_length _ _ _ _ c.if-q-lt1.false c.if-q-gt16.false c.if-row-q.true

pub returns-in_err-check : goal.returns-in_err-check
returns-in_err-check c =
    let p = err_from_is_err_and c.from_residual.result c.from_residual.ensures.1 in
    rw (p.1, p.2) (large _ _ _ _ c.if-q-lt1.false c.if-q-gt16.false c.if-row-q.false c.in_err-check.ensures)

pub write_row-requires : goal.write_row-requires
write_row-requires c = (search rules, passed c.args.row.now c.in_ok-check.ensures)

pub returns : goal.returns
returns c =
    rw (to_z-of_z c.ranges.right) at c.write_row.ensures
    ∙ in_range c.args.q c.args.row.now c.args.right c.args.out.now c.if-q-lt1.false c.if-q-gt16.false c.if-row-q.false c.in_ok-check.ensures
