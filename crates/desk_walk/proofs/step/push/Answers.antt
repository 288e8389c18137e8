-- `push` meets its contract. The rows of the generators passed have been written. Assumes nothing.
use Prim.Native.Nat.{◌+◌}
use mathlib.Core.Path.{refl, sym, ◌∙◌}
use native.Mathlib.Omega.{arith}
use Rattle.desk_walk.specs.Pushing.{pushed_low, pushed_none, pushed_one, pushed_place, pushed_room, pushed_skip}
use Rattle.desk_walk.proofs.step.push.Goals as goal

pub loop-j-init : goal.loop-j-init
loop-j-init c = (refl, refl, pushed_none _ _ _ _ _ _ _)

pub overflow_add-frozen : goal.overflow_add-frozen
overflow_add-frozen c =
    omega (
      arith,
      pushed_room _ _ _ _ _ _ _ c.loop-j.invariant.2 (omega (arith, c.loop-j-test.true, c.requires.0.few)) (sym c.is_marked.ensures ∙ c.if-is_marked.true)
          (c.requires.0.fits (c.loop-j.j + 1) (omega (arith, c.loop-j-test.true))),
    )

pub overflow_add-h : goal.overflow_add-h
overflow_add-h c =
    omega (
      arith,
      pushed_low _ _ _ _ _ _ _ c.loop-j.invariant.2 c.args.n c.loop-j-test.true (sym c.is_marked.ensures ∙ c.if-is_marked.true)
          c.requires.0.low,
    )

pub write-requires : goal.write-requires
write-requires c = (
  omega (arith, c.add.auto.z, c.loop-j.invariant.1, c.requires.1),
  c.requires.0.unknowns,
  pushed_place _ _ _ _ _ _ _ c.loop-j.invariant.2 c.args.n c.loop-j-test.true (sym c.is_marked.ensures ∙ c.if-is_marked.true) c.requires.0.room,
)

pub loop-j-preserved : goal.loop-j-preserved
loop-j-preserved c = (
  c.if-is_marked.auto.stack ∙ c.loop-j.invariant.0,
  c.if-is_marked.auto.child ∙ c.loop-j.invariant.1,
  elim c.if-is_marked.branch [
    | goal.then-is_marked w ↦
        rw (w.stack-is, w.h-is, w.frozen-is)
        (pushed_one _ _ _ _ _ _ _ c.loop-j.invariant.2 (omega (arith, c.loop-j-test.true, c.requires.0.few)) (sym c.is_marked.ensures ∙ w.if-is_marked.true)
        w.add.ensures w.write.ensures)
    | goal.else-is_marked w ↦
        rw (w.stack-is, w.h-is, w.frozen-is) (pushed_skip _ _ _ _ _ _ _ c.loop-j.invariant.2 (sym c.is_marked.ensures ∙ w.if-is_marked.false))
  ],
)
