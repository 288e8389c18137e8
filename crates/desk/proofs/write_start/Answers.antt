-- `write_start` meets its contract. The rows of the generators passed have been written. Assumes nothing.
use mathlib.Core.Path.{refl, ◌∙◌}
use native.Mathlib.Omega.{arith}
use Rattle.desk.specs.Starting.{start_marks, start_next, start_none}
use Rattle.desk.proofs.write_start.Goals as goal

pub loop-k-init : goal.loop-k-init
loop-k-init c = let a = c.args in (refl, refl, start_none a.q a.generators.now a.stack.now)

pub loop-k-preserved : goal.loop-k-preserved
loop-k-preserved c = (
  c.write.auto.stack ∙ c.loop-k.invariant.0,
  c.read.auto.t ∙ c.loop-k.invariant.1,
  start_next c.loop-k.k c.args.q c.args.generators.now c.args.stack.now c.loop-k.invariant.2
      (start_marks c.loop-k.k (omega (arith, c.loop-k-test.true, c.requires.1))) c.read.ensures c.write.ensures,
)
