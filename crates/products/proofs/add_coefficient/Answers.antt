-- `add_coefficient` meets its contract. The row is written up to j; a place that is read is as it was. Assumes nothing.
use mathlib.Core.Path.{◌≡◌, ap, ◌∙◌}
use Prim.Native.Nat.{◌+◌, ◌*◌, ◌≤◌}
use native.Mathlib.Omega.{arith}
use lib.ListN.{length}
use mir.Facts.{to_z-of_z}
use mir.Syntax.{w64}
use mir.Val.{of_z}
use Rattle.linear.specs.Gram.{gram}
use Rattle.linear.specs.Systems.{inner}
use Rattle.laws.proofs.TableLaws.{row_fits}
use Rattle.products.specs.Products.{entry, given}
use Rattle.products.specs.Turns.{SmallTerms, coef_fits, column_terms, next_fits, next_value, written_ahead, written_next}
use Rattle.products.proofs.add_coefficient.Goals as goal
use Rattle.products.proofs.add_coefficient.Goals.{In-loop-j, Start}

-- the equation's coefficients are there
row : (s : Start) → s.args.e * s.args.q + s.args.q ≤ length s.args.coefs.now
row s = omega (arith, s.requires.small_coefs.0.whole, row_fits s.args.q s.args.e s.args.p s.requires.small_coefs.2)

-- the turn's place: its terms, and what it holds before
module _ (l : In-loop-j) where
  terms : SmallTerms l.args.p (λ e. given l.args.q l.args.coefs.now e l.args.i)
      (λ e. given l.args.q l.args.coefs.now e l.loop-j.j)
  terms = column_terms l.requires.small_coefs.0 _ _

  held : of_z w64 (entry l.loop-j.g l.args.i l.loop-j.j)
      ≡ of_z w64 (inner l.args.e (λ e. given l.args.q l.args.coefs.now e l.args.i)
      (λ e. given l.args.q l.args.coefs.now e l.loop-j.j))
  unfolding gram
  held =
      ap (of_z w64) (written_ahead l.loop-j.invariant (omega arith) (omega (arith, l.loop-j-test.true, l.requires.small_coefs.0.unknowns))
      ∙ l.requires.filled.holds l.loop-j.j l.loop-j-test.true)

pub sum_and-requires : goal.sum_and-requires
sum_and-requires c =
    let small = c.requires.small_coefs.0 in
    let x = c.wide.ensures ∙ to_z-of_z (coef_fits small _) in
    let y = c.wide-in-loop-j.ensures ∙ to_z-of_z (coef_fits small _) in
    let all = next_fits (terms (goal.at.sum_and-requires c).In-loop-j) c.args.e (held (goal.at.sum_and-requires c).In-loop-j) c.requires.small_coefs.2 x y in
    record {
      sfits = all.0;
      sfits_2 = all.1;
    }

pub loop-j-preserved : goal.loop-j-preserved
unfolding gram
loop-j-preserved c =
    let small = c.requires.small_coefs.0 in
    let x = c.wide.ensures ∙ to_z-of_z (coef_fits small _) in
    let y = c.wide-in-loop-j.ensures ∙ to_z-of_z (coef_fits small _) in
    let e = next_value (terms (goal.at.loop-j-preserved c).In-loop-j) c.args.e (held (goal.at.loop-j-preserved c).In-loop-j) c.requires.small_coefs.2 x y
    c.sum_and.ensures in
    written_next c.loop-j.invariant (omega arith) e
