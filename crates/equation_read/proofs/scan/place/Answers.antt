-- `equation_read::scan::place` meets its contract. Assumes nothing.
use Rattle.std.proofs.Common.{◌≡◌, ◌∙◌, sym, true, false, get_or, length, arith}
use Rattle.equation_read.specs.Phases.{phase_of}
use Rattle.equation_read.specs.ScanSteps.{at_fault, at_step, at_end, opened_most}
use Rattle.equation_read.proofs.scan.place.Goals as goal

pub returns-in_default : goal.returns-in_default
returns-in_default c =
    let l = c.loop-i in (
      sym (at_fault c.args.q c.args.text.now l.i (phase_of l.at.phase) l.at.opened l.at.right c.loop-i-test.true c.in_default.ensures ∙ l.invariant.comes),
      omega arith,
    )

pub loop-i-preserved : goal.loop-i-preserved
loop-i-preserved c =
    let l = c.loop-i in
    let e = c.in-Some.ensures in record {
      opened = omega (
        arith,
        opened_most (get_or c.args.text.now l.i 0) l.at.opened l.at.right c.args.q (phase_of l.at.phase) e,
        l.invariant.opened,
      );
      comes = at_step c.args.q c.args.text.now l.i (phase_of l.at.phase) l.at.opened l.at.right c.loop-i-test.true e ∙ l.invariant.comes;
    }

pub returns-then-is_final : goal.returns-then-is_final
returns-then-is_final c =
    let l = c.loop-i in
    sym (at_end c.args.q c.args.text.now l.i (phase_of l.at.phase) l.at.opened l.at.right c.loop-i-test.false true (sym c.if-is_final.true ∙ c.is_final.ensures)
    ∙ l.invariant.comes)

pub returns-else-is_final : goal.returns-else-is_final
returns-else-is_final c =
    let l = c.loop-i in
    let n : l.i ≡ length c.args.text.now = omega arith in (
      rw n at (sym (at_end c.args.q c.args.text.now l.i (phase_of l.at.phase) l.at.opened l.at.right c.loop-i-test.false false
          (sym c.if-is_final.false ∙ c.is_final.ensures)
          ∙ l.invariant.comes)),
      omega arith,
    )
