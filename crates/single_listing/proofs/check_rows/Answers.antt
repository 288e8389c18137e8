-- `check_rows` meets its contract. The rows passed are minimal solutions, and so much of the space is left. Assumes nothing.
use mathlib.Core.Path.{sym, ◌∙◌}
use borrow.Author.Rules.{rules}
use native.Mathlib.Omega.{arith}
use Rattle.laws.proofs.TableLaws.{row_fits}
use Rattle.single_listing.specs.Passes.{checked_all, checked_fails, checked_more, checked_lacks, checked_none, less_by}
use Rattle.single_listing.proofs.check_rows.Goals as goal

pub loop-i-init : goal.loop-i-init
loop-i-init c = checked_none _ _ _

pub overflow_mul-i : goal.overflow_mul-i
overflow_mul-i c =
    omega (arith, c.requires.rows, row_fits c.args.q c.loop-i.i c.args.found c.loop-i-test.true)

pub measure-requires : goal.measure-requires
measure-requires c =
    let inside = row_fits c.args.q c.loop-i.i c.args.found c.loop-i-test.true in
    (c.requires.q_few, record { whole = c.requires.coefs; row = omega (arith, c.requires.rows, inside) })

pub returns-in_default : goal.returns-in_default
returns-in_default c = checked_fails _ _ _ c.loop-i.invariant _ c.loop-i-test.true (sym c.in_default.is ∙ c.measure.ensures)

pub loop-i-preserved : goal.loop-i-preserved
loop-i-preserved c =
    checked_more _ _ _ c.loop-i.invariant _ (sym c.in-Some.is ∙ c.measure.ensures)
    (less_by c.loop-i.left c.in-Some.length _ c.and_then-left.ensures (λ room k. search rules))

pub returns-in-None : goal.returns-in-None
returns-in-None c = checked_lacks _ _ _ c.loop-i.invariant c.loop-i.auto.i-end c.loop-i-test.false c.in-None.is

pub returns-in-Some-left : goal.returns-in-Some-left
returns-in-Some-left c = checked_all _ _ _ c.loop-i.invariant c.loop-i.auto.i-end c.loop-i-test.false _ c.in-Some-left.is
