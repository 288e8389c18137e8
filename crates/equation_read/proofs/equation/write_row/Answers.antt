-- `equation_read::equation::write_row` meets its contract. Assumes nothing.
use Rattle.std.proofs.Common.{◌∙◌}
use Rattle.equation_read.specs.EquationLaws.{row_all}
use Rattle.equation_read.proofs.equation.write_row.Goals as goal

pub returns : goal.returns
returns c =
    let l = c.loop-i in
    row_all l.row c.args.totals.now c.args.q l.i (l.invariant.same ∙ c.requires.1) l.auto.i-end c.loop-i-test.false l.invariant.written
