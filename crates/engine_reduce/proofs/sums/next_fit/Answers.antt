-- `next_fit` meets its contract: of the words passed, eight at a time, none fits. Assumes nothing.
use Prim.Native.Nat.{◌+◌, ◌*◌}
use Rattle.std.proofs.Common.{◌≡◌}
use native.Mathlib.Nat.{le_antisymm}
use native.Mathlib.Omega.{arith}
use Rattle.engine_reduce.specs.Fits.{first_then, unfit_none, unfit_then}
use Rattle.engine_reduce.proofs.sums.next_fit.Goals as goal

pub loop-e-init : goal.loop-e-init
loop-e-init c = let s : c.args.from + 8 * 0 ≡ c.args.from = omega arith in rw s (unfit_none _ _ _)

pub returns-then-some_fit : goal.returns-then-some_fit
returns-then-some_fit c =
    first_then c.args.words.now c.args.word c.args.from (c.args.from + 8 * c.loop-e.e) c.args.n c.first_fit.result c.loop-e.invariant c.first_fit.ensures

pub loop-e-preserved : goal.loop-e-preserved
loop-e-preserved c =
    let s : c.args.from + 8 * (c.loop-e.e + 1) ≡ c.args.from + 8 * c.loop-e.e + 8 = omega arith in
    rw s (unfit_then c.loop-e.invariant (c.some_fit.ensures.unless c.if-some_fit.false))

pub returns : goal.returns
returns c =
    let past = rw (le_antisymm c.loop-e.auto.e-end c.loop-e-test.false) at c.loop-e.invariant in
    first_then c.args.words.now c.args.word c.args.from _ c.args.n c.first_fit-2.result past c.first_fit-2.ensures
