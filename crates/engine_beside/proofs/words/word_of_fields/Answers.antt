-- `words::word_of_fields` meets its contract: the fields from the last one down to j are made. Assumes nothing.
use Prim.Native.Nat.{◌-◌}
use Rattle.std.proofs.Common.{◌≡◌, refl, arith}
use Rattle.engine_spec.specs.Words.{digits}
use Rattle.engine_beside.specs.WordLaws.{fields_all, fields_next, sevens_next}
use Rattle.engine_beside.proofs.words.word_of_fields.Goals as goal

pub loop-j-init : goal.loop-j-init
unfolding digits
loop-j-init g c = let e : c.args.fields - c.args.fields ≡ 0 = omega arith in (omega arith, λ x h. rw e refl)

pub overflow_mul-word : goal.overflow_mul-word
overflow_mul-word g c =
    omega (
      arith,
      (sevens_next c.args.fields c.loop-j.j c.loop-j.word 0 c.loop-j-test.true c.loop-j.auto.j c.requires.0 c.loop-j.invariant.0 (omega arith)).1,
    )

pub overflow_add-word : goal.overflow_add-word
overflow_add-word g c =
    omega (
      arith,
      (sevens_next c.args.fields c.loop-j.j c.loop-j.word c.cut.result c.loop-j-test.true c.loop-j.auto.j c.requires.0 c.loop-j.invariant.0
          (omega (arith, c.cut.ensures))).1,
    )

pub loop-j-preserved : goal.loop-j-preserved
loop-j-preserved g c = (
  (sevens_next c.args.fields c.loop-j.j c.loop-j.word c.cut.result c.loop-j-test.true c.loop-j.auto.j c.requires.0 c.loop-j.invariant.0
      (omega (arith, c.cut.ensures))).0,
  λ x h. fields_next c.args.fields c.loop-j.j x c.loop-j-test.true c.loop-j.auto.j (c.loop-j.invariant.1 x h) c.cut.ensures
      (h (c.loop-j.j - 1) c.field.result (omega (arith, c.loop-j-test.true, c.loop-j.auto.j)) c.field.ensures),
)

pub returns : goal.returns
returns g c =
    λ x h. let none : c.loop-j.j ≡ 0 = omega (arith, c.loop-j-test.false) in fields_all c.args.fields x (rw none at (c.loop-j.invariant.1 x h))
