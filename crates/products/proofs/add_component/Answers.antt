-- `add_component` meets its contract. The row is written up to j; a place that is read is as it was. Assumes nothing.
use mathlib.Core.Path.{◌≡◌, refl, ap, ◌∙◌}
use Prim.Native.Nat.{◌+◌}
use native.Mathlib.Omega.{arith}
use lib.IntN.{pos}
use mir.Syntax.{w64}
use mir.Val.{of_z}
use Rattle.definitions.specs.Tables.{at}
use Rattle.products.specs.Products.{entry, partial}
use Rattle.products.specs.Turns.{SmallTerms, next_fits, next_value, partial_skip, row_terms, written_ahead, written_next, written_same}
use Rattle.products.proofs.add_component.Goals as goal
use Rattle.products.proofs.add_component.Goals.{In-loop-j}

-- the turn's place: its terms, and what it holds before
module _ (l : In-loop-j) where
  terms : SmallTerms l.args.q (λ n. pos (at l.args.stack.now (l.args.q + 1) l.args.k n)) (λ n. entry l.args.gram.now n l.loop-j.j)
  terms = row_terms l.requires.small_gram.0 l.requires.small_gram.1 l.loop-j.j l.loop-j-test.true

  held : of_z w64 (entry l.loop-j.c l.args.k l.loop-j.j)
      ≡ of_z w64 (partial l.args.gram.now (at l.args.stack.now (l.args.q + 1) l.args.k) l.args.i l.loop-j.j)
  held =
      ap (of_z w64) (written_ahead l.loop-j.invariant (omega arith) (omega (arith, l.loop-j-test.true, l.requires.small_gram.0.unknowns))
      ∙ l.requires.summed.sums l.loop-j.j l.loop-j-test.true)

pub returns-then-x-eq0 : goal.returns-then-x-eq0
returns-then-x-eq0 c =
    written_same (λ j l. c.requires.summed.sums j l ∙ partial_skip c.args.gram.now (at c.args.stack.now (c.args.q + 1) c.args.k)
    c.args.i j c.if-x-eq0.true)

pub sum_and-requires : goal.sum_and-requires
sum_and-requires c =
    let all = next_fits (terms (goal.at.sum_and-requires c).In-loop-j) c.args.i (held (goal.at.sum_and-requires c).In-loop-j) c.requires.small_gram.4
    c.natural.ensures refl in record {
      sfits = all.0;
      sfits_2 = all.1;
    }

pub loop-j-preserved : goal.loop-j-preserved
loop-j-preserved c =
    let e = next_value (terms (goal.at.loop-j-preserved c).In-loop-j) c.args.i (held (goal.at.loop-j-preserved c).In-loop-j) c.requires.small_gram.4
    c.natural.ensures refl c.sum_and.ensures in
    written_next c.loop-j.invariant (omega arith) e
