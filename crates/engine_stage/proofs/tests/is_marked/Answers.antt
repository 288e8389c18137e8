use borrow.Author.Tests.{le-leb, lt-leb}
use mathlib.Core.Path.{sym}
use mir.Facts.{to_z-of_z}
use Rattle.engine_stage.specs.Marked.{by_lower, by_upper}
use Rattle.engine_stage.proofs.tests.is_marked.Goals as goal

pub returns-then-mark-size : goal.returns-then-mark-size
returns-then-mark-size c =
    let size_is = rw (to_z-of_z c.ranges.y) at c.size.ensures in
    sym (by_upper c.args.x c.args.y c.args.mark c.args.other (rw (← size_is) (le-leb _ _ c.if-mark-size.true)))

pub returns : goal.returns
returns c =
    let size_is = rw (to_z-of_z c.ranges.y) at c.size.ensures in
    let other-is = rw (to_z-of_z c.ranges.x) at c.size-2.ensures in
    rw other-is (sym (by_lower c.args.x c.args.y c.args.mark c.args.other (rw (← size_is) (lt-leb _ _ c.if-mark-size.false))))
