-- `rows::take` meets its contract: the rows from i on have been taken. Assumes nothing.
use mathlib.Core.Path.{refl}
use Prim.Native.Nat.{◌*◌, ◌-◌}
use native.Mathlib.Omega.{arith}
use borrow.Author.Rules.{rules}
use Rattle.laws.proofs.TableLaws.{row_fits}
use Rattle.multiples.proofs.Taking.{often_goes, taking_first, taking_last, taking_next}
use Rattle.multiples.proofs.rows.take.Goals as goal

pub loop-i-init : goal.loop-i-init
loop-i-init c = (refl, refl, taking_first)

pub overflow_mul-i : goal.overflow_mul-i
overflow_mul-i c = omega (arith, row_fits c.args.q (c.loop-i.i - 1) c.args.found (search rules))

pub often-n-requires : goal.often-n-requires
often-n-requires c =
    (omega (arith, row_fits c.args.q (c.loop-i.i - 1) c.args.found (search rules), c.requires.0), omega (arith, c.loop-i.invariant.0, c.requires.1))

pub overflow_mul-i-in-loop-i : goal.overflow_mul-i-in-loop-i
overflow_mul-i-in-loop-i c = omega (arith, row_fits c.args.q (c.loop-i.i - 1) c.args.found (search rules))

pub take_off-requires : goal.take_off-requires
take_off-requires c = (
  omega (arith, row_fits c.args.q (c.loop-i.i - 1) c.args.found (search rules), c.requires.0),
  omega (arith, c.loop-i.invariant.0, c.requires.1),
  often_goes c.args.q c.args.list.now ((c.loop-i.i - 1) * c.args.q) c.loop-i.rest c.often-n.ensures,
)

pub loop-i-preserved : goal.loop-i-preserved
loop-i-preserved c =
    let e = taking_next c.loop-i-test.true c.loop-i.invariant.2 c.often-n.ensures c.take_off.ensures in
    (e.long, e.many, e)

pub returns : goal.returns
returns c = let i = c.loop-i.invariant in let all = taking_last (omega (arith, c.loop-i-test.false)) i.2 in record { left = all.0; times_after = all.1 }
