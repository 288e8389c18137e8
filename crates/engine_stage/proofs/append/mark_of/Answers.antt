-- `mark_of` is the sum's mark. Assumes nothing.
use mathlib.Core.Path.{sym, ◌∙◌}
use mir.Facts.{to_z-of_z}
use Rattle.engine_stage.specs.Marked.{mark_above, mark_below, mark_none}
use Rattle.engine_stage.proofs.append.mark_of.Goals as goal

pub returns-then-sum-lt0 : goal.returns-then-sum-lt0
returns-then-sum-lt0 c =
    let e = rw (to_z-of_z c.ranges.x, to_z-of_z c.ranges.y, to_z-of_z c.requires.2) at c.if-sum-lt0.true in
    rw (to_z-of_z c.ranges.y) at c.size.ensures ∙ sym (mark_below c.args.x c.args.y e)

pub returns-then-sum-gt0 : goal.returns-then-sum-gt0
returns-then-sum-gt0 c =
    let e = rw (to_z-of_z c.ranges.x, to_z-of_z c.ranges.y, to_z-of_z c.requires.2) at c.if-sum-lt0.false in
    let g = rw (to_z-of_z c.ranges.x, to_z-of_z c.ranges.y, to_z-of_z c.requires.2) at c.if-sum-gt0.true in
    rw (to_z-of_z c.ranges.x) at c.size-then-sum-gt0.ensures ∙ sym (mark_above c.args.x c.args.y e g)

pub returns : goal.returns
returns c =
    let e = rw (to_z-of_z c.ranges.x, to_z-of_z c.ranges.y, to_z-of_z c.requires.2) at c.if-sum-lt0.false in
    let g = rw (to_z-of_z c.ranges.x, to_z-of_z c.ranges.y, to_z-of_z c.requires.2) at c.if-sum-gt0.false in
    sym (mark_none c.args.x c.args.y e g)
