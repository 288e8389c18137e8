-- `equation_systems::lines::line_end` meets its contract. No byte passed is a newline. Assumes nothing.
use Rattle.std.proofs.Common.{arith}
use Rattle.equation_systems.specs.LineLaws.{at_newline, at_other, at_end}
use Rattle.equation_systems.proofs.lines.line_end.Goals as goal

pub loop-end-preserved : goal.loop-end-preserved
loop-end-preserved c =
    let l = c.loop-end in record {
      inside = omega arith;
      comes = omega (arith, l.invariant.comes, at_other c.args.text.now l.end c.loop-end-test.true c.if-text-end-ne10.true);
    }

pub returns-else-text-end-ne10 : goal.returns-else-text-end-ne10
returns-else-text-end-ne10 c =
    let l = c.loop-end in
    (omega (arith, l.invariant.comes, at_newline c.args.text.now l.end c.loop-end-test.true c.if-text-end-ne10.false), l.invariant.inside)

pub returns-after-loop-end : goal.returns-after-loop-end
returns-after-loop-end c =
    let l = c.loop-end in
    (omega (arith, l.invariant.comes, at_end c.args.text.now l.end c.loop-end-test.false), l.invariant.inside)
