-- `record_order::row_in_order` meets its contract: a test that fails decides. Assumes nothing.
use Prim.Native.Nat.{◌+◌, ◌^◌}
use mathlib.Core.Path.{sym, ◌∙◌}
use native.Mathlib.Omega.{arith}
use borrow.Author.Tests.{le-ltb, lt-ltb}
use Rattle.laws.proofs.MarkLaws.{count_frozen_fit, shift_one}
use Rattle.definitions.specs.Tables.{at}
use Rattle.definitions.specs.Refusals.{row_fits}
use Rattle.record_order.proofs.row_in_order.Goals as goal

pub returns-then-not-small_at : goal.returns-then-not-small_at
unfolding row_fits
returns-then-not-small_at c = rw (sym c.small_at.ensures ∙ c.if-not-small_at.true)

pub overflow_cast-past : goal.overflow_cast-past
overflow_cast-past c = omega arith

pub overflow_shl-past : goal.overflow_shl-past
overflow_shl-past c = omega arith

pub returns-then-past-marks : goal.returns-then-past-marks
unfolding row_fits
returns-then-past-marks c =
    let s = c.args in
    let beyond = rw (shift_one s.q (omega arith)) at c.if-past-marks.true in
    rw (
      sym c.small_at.ensures ∙ c.if-not-small_at.false,
      le-ltb (at s.stack.now (s.q + 1) s.k s.q) (2 ^ s.q) (omega arith),
    )

pub returns : goal.returns
unfolding row_fits
returns c =
    let q = c.args.q in
    let fit = rw (shift_one q (omega arith)) at c.if-past-marks.false in
    rw (
      sym c.small_at.ensures ∙ c.if-not-small_at.false,
      lt-ltb _ _ fit,
      c.count_marks.ensures,
      count_frozen_fit _ q 32 (omega arith) fit,
    )
