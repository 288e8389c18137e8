-- `at_every` meets its contract: `every` is the test of the places passed. Assumes nothing.
use Rattle.std.proofs.Common.{refl}
use Rattle.linear.specs.Tests.{all_to}
use Rattle.engine_beside.specs.SmallRows.{all_more}
use Rattle.engine_beside.proofs.places.at_every.Goals as goal

pub loop-j-init : goal.loop-j-init
unfolding all_to
loop-j-init g c = λ f h. refl

pub loop-j-preserved : goal.loop-j-preserved
loop-j-preserved g c =
    λ f h. rw (h c.loop-j.j c.test-every.result c.loop-j-test.true c.test-every.ensures) (all_more c.loop-j.j f (c.loop-j.invariant f h))
