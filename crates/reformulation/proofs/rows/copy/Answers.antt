-- `rows::copy` meets its contract. The rows passed are written. Assumes nothing.
use Rattle.std.proofs.Common.{◌≡◌, ◌≤◌, ◌+◌, ◌*◌, ◌-◌, arith, length, refl, ◌∙◌, ap}
use native.Mathlib.Nat.{le_antisymm}
use Rattle.definitions.specs.Tables.{at}
use Rattle.laws.proofs.TableLaws.{row_fits}
use Rattle.reformulation_spec.proofs.Projection.{project_length}
use Rattle.reformulation_spec.specs.Reformulation.{project_to}
use Rattle.reformulation.specs.Projecting.{row_more, row_put}
use Rattle.reformulation.proofs.rows.copy.Goals as goal

pub loop-i-init : goal.loop-i-init
unfolding project_to
loop-i-init c = (refl, refl)

pub loop-i-preserved : goal.loop-i-preserved
loop-i-preserved c =
    let a = c.args in
    let i = c.loop-i.i in
    let from : i * (a.q + a.k) + a.q ≤ length a.rows.now = omega (arith, row_fits (a.q + a.k) i a.n c.loop-i-test.true, c.requires.1) in
    let to : i * a.q + a.q ≤ length c.loop-i.out = omega (arith, row_fits a.q i a.n c.loop-i-test.true, c.requires.2, c.loop-i.invariant.0) in
    let part = c.copy_from_slice.ensures.after in
    let back : i * a.q + a.q - i * a.q ≡ a.q = omega arith in
    let gap : i * (a.q + a.k) + a.q - i * (a.q + a.k) ≡ a.q = omega arith in
    let put = row_put a.q (i * (a.q + a.k)) (i * a.q) a.rows.now c.loop-i.out from to (rw gap at part) in
    let e = row_more a.q a.k a.rows.now a.out.now i c.loop-i.invariant.1 put in
    rw back (ap length e ∙ project_length a.q (at a.rows.now (a.q + a.k)) a.out.now (i + 1), e)

pub returns : goal.returns
returns c = let l = c.loop-i in rw (l.invariant.1, le_antisymm l.auto.i-end c.loop-i-test.false)
