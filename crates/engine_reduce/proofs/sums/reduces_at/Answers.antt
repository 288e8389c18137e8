-- `reduces_at` is the test of one row. Assumes nothing.
use Rattle.std.proofs.Common.{SFits}
use borrow.Author.Rules.{rules, sfits_of}
use mir.Facts.{to_z-of_z}
use mir.Syntax.{w64}
use Rattle.laws.proofs.TableLaws.{row_fits}
use Rattle.engine_beside.specs.Writing.{table_row}
use Rattle.engine_reduce.specs.Sums.{fails_first, integer_at, passes_first}
use native.Mathlib.Omega.{arith}
use mathlib.Core.Path.{ap}
use mathlib.Core.Bool.{not}
use Rattle.engine_reduce.proofs.sums.reduces_at.Goals as goal

pub returns-then-not-within : goal.returns-then-not-within
returns-then-not-within c =
    let fits : SFits w64 c.args.pair.sum = search rules in
    let known = to_z-of_z {w = w64} {z = integer_at c.args.pair.values.now c.args.i} (sfits_of c.within-arg-1.given) in
    fails_first _ _ _ (rw (known, to_z-of_z fits) at c.within.ensures) (ap not c.if-not-within.true)

pub overflow_mul-row : goal.overflow_mul-row
overflow_mul-row c =
    omega (arith, c.requires.0.rows.whole, row_fits c.args.pair.q c.args.i c.args.pair.n c.requires.1)

pub overflow_mul-upper : goal.overflow_mul-upper
overflow_mul-upper c =
    omega (arith, c.requires.0.rows.whole, row_fits c.args.pair.q c.args.pair.upper c.args.pair.n c.requires.0.first)

pub overflow_mul-lower : goal.overflow_mul-lower
overflow_mul-lower c =
    omega (arith, c.requires.0.rows.whole, row_fits c.args.pair.q c.args.pair.lower c.args.pair.n c.requires.0.second)

pub below_sum-requires : goal.below_sum-requires
below_sum-requires c =
    let h = c.requires.0 in (
      table_row h.rows c.args.pair.upper h.first,
      table_row h.rows c.args.pair.lower h.second,
      omega (arith, h.rows.whole, row_fits c.args.pair.q c.args.i c.args.pair.n c.requires.1),
    )

pub returns : goal.returns
returns c =
    let fits : SFits w64 c.args.pair.sum = search rules in
    let known = to_z-of_z {w = w64} {z = integer_at c.args.pair.values.now c.args.i} (sfits_of c.within-arg-1.given) in
    passes_first _ _ _ _ (rw (known, to_z-of_z fits) at c.within.ensures) (ap not c.if-not-within.false) c.below_sum.ensures
