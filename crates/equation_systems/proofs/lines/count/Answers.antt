-- `equation_systems::lines::count` meets its contract: from the end on, the lines of what was passed. Assumes nothing.
use Rattle.std.proofs.Common.{sym, length, arith}
use Rattle.equation_systems.specs.LineLaws.{count_end, next_newline, next_other}
use Rattle.equation_systems.proofs.lines.count.Goals as goal

pub loop-i-init : goal.loop-i-init
loop-i-init c = let t = c.args.text.now in sym (count_end t (length t) (omega arith))

pub overflow_add-n : goal.overflow_add-n
overflow_add-n c =
    let l = c.loop-i in
    omega (arith, (next_newline c.args.text.now l.i l.n c.loop-i-test.true l.auto.i l.invariant c.if-text-i-eq10.true).2, c.well_formed)

pub loop-i-preserved-then-text-i-eq10 : goal.loop-i-preserved-then-text-i-eq10
loop-i-preserved-then-text-i-eq10 c =
    let l = c.loop-i in
    (next_newline c.args.text.now l.i l.n c.loop-i-test.true l.auto.i l.invariant c.if-text-i-eq10.true).1

pub loop-i-preserved-then-n-eq0 : goal.loop-i-preserved-then-n-eq0
loop-i-preserved-then-n-eq0 c =
    let l = c.loop-i in
    (next_other c.args.text.now l.i l.n c.loop-i-test.true l.auto.i l.invariant _ (omega (arith, c.if-n-eq0.true)) c.if-text-i-eq10.false).1

pub loop-i-preserved : goal.loop-i-preserved
loop-i-preserved c =
    let l = c.loop-i in
    (next_other c.args.text.now l.i l.n c.loop-i-test.true l.auto.i l.invariant _ (omega (arith, c.if-n-eq0.false)) c.if-text-i-eq10.false).1
