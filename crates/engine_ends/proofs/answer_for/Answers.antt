-- `answer_for` meets its contract: the marks of all equations. Assumes nothing.
use Prim.Native.Nat.{◌^◌, ◌-◌}
use native.Mathlib.Omega.{arith}
use borrow.Author.Tests.{eq-eqb, ne_eqb}
use lib.Pow.{pow_pos}
use Rattle.laws.proofs.MarkLaws.{shift_one_wide}
use Rattle.engine_ends.proofs.answer_for.Goals as goal

pub overflow_sub-past : goal.overflow_sub-past
overflow_sub-past c = omega (arith, shift_one_wide c.args.p (omega (arith, c.requires)), pow_pos c.args.p)

pub returns-then-done-past : goal.returns-then-done-past
returns-then-done-past c = rw (eq-eqb c.args.done (2 ^ c.args.p - 1) (rw (shift_one_wide c.args.p (omega (arith, c.requires))) at c.if-done-past.true))

pub returns : goal.returns
returns c = rw (ne_eqb c.args.done (2 ^ c.args.p - 1) (rw (shift_one_wide c.args.p (omega (arith, c.requires))) at c.if-done-past.false))
