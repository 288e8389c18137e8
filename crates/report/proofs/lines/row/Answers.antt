-- `lines::row` meets its contract. What is left to write is the line from the next number on. Assumes nothing.
use native.Mathlib.Omega.{arith}
use borrow.Author.Rules.{rules}
use Rattle.texts.proofs.PutTheorems.{rest_begins, rest_next, rest_ends}
use Rattle.report.specs.Rows.{row_next, row_done}
use Rattle.report.proofs.lines.row.Goals as goal

pub loop-i-init : goal.loop-i-init
loop-i-init c = (search rules, rest_begins _ _ _)

pub loop-i-preserved : goal.loop-i-preserved
loop-i-preserved c =
    let a = c.args in (
      omega (arith, c.field-next.ensures.upper_bound),
      rest_next (rw (row_next a.numbers.now c.loop-i.i (search rules)) at c.loop-i.invariant.1) c.field-next.ensures.put,
    )

pub returns : goal.returns
returns c =
    let l = c.loop-i in
    record {
      put = rest_ends (rw (row_done c.args.numbers.now l.i c.loop-i-test.false) at l.invariant.1);
      upper_bound = omega (arith, l.invariant.0, l.auto.i-end);
    }
