-- `rests` meets its contract: the equation under way is marked. Assumes nothing.
use mathlib.Core.Path.{refl}
use native.Mathlib.Omega.{arith}
use Rattle.laws.proofs.MarkLaws.{shift_one}
use Rattle.engine_ends.specs.Closing.{done_fits}
use Rattle.engine_ends.proofs.rests.Goals as goal

pub overflow_shl-bit : goal.overflow_shl-bit
overflow_shl-bit c = omega (arith, c.requires.going, c.requires.few)

pub overflow_add-done : goal.overflow_add-done
overflow_add-done c = omega (arith, shift_one c.args.r.equation (omega (arith, c.requires.going, c.requires.few)), done_fits c.requires)

pub overflow_add-steps : goal.overflow_add-steps
overflow_add-steps c = omega (arith, c.requires.early)

pub answer_for-answer-requires : goal.answer_for-answer-requires
answer_for-answer-requires c = c.requires.few

pub returns : goal.returns
returns c = record {
  run_is = rw (shift_one c.args.r.equation (omega (arith, c.requires.going, c.requires.few))) refl;
  answer_is = rw (shift_one c.args.r.equation (omega (arith, c.requires.going, c.requires.few))) at c.answer_for-answer.ensures;
}
