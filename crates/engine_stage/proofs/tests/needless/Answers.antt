-- `needless` is the stage's test of a pair: the cap decides first. Assumes nothing.
use native.Mathlib.Omega.{arith}
use Rattle.laws.proofs.TableLaws.{row_fits}
use Rattle.engine_stage.specs.Marked.{over_needless, under_needless}
use Rattle.engine_stage.proofs.tests.needless.Goals as goal

pub overflow_mul-h : goal.overflow_mul-h
overflow_mul-h c =
    let p = c.requires.0 in
    omega (arith, p.rows.whole, row_fits c.args.q c.args.h c.args.n p.upper)

pub overflow_mul-k : goal.overflow_mul-k
overflow_mul-k c =
    let p = c.requires.0 in
    omega (arith, p.rows.whole, row_fits c.args.q c.args.k c.args.n p.lower)

pub is_over-requires : goal.is_over-requires
is_over-requires c =
    let p = c.requires.0 in (
      omega (arith, p.rows.whole, row_fits c.args.q c.args.h c.args.n p.upper, c.requires.2),
      omega (arith, p.rows.whole, row_fits c.args.q c.args.k c.args.n p.lower, c.requires.2),
    )

pub returns-then-is_over : goal.returns-then-is_over
returns-then-is_over c =
    let s = c.args in
    over_needless s.cap s.q _ s.n s.table.now s.h s.k c.is_over.ensures c.if-is_over.true

pub reduced-requires : goal.reduced-requires
reduced-requires c = (c.requires.0, c.requires.1)

pub returns : goal.returns
returns c =
    let s = c.args in
    under_needless s.cap s.q _ s.n s.table.now s.h s.k c.is_over.ensures c.if-is_over.false c.reduced.ensures
