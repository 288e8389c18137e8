-- `candidate_marks` meets its contract: bit by bit. Assumes nothing.
use mathlib.Core.Path.{◌∙◌, ap}
use mathlib.Core.Bool.{Bool, not, ◌&&◌}
use Prim.Native.Nat.{ℕ, ◌-◌}
use native.Mathlib.Omega.{arith}
use lib.Bits.{and_le_l}
use lib.IntN.{pos}
use lib.Signed.{lt_z}
use Rattle.products.specs.Products.{entry}
use borrow.Author.Rules.{rules}
use Rattle.definitions.specs.Tables.{frozen}
use Rattle.laws.proofs.MarkLaws.{frozen_free}
use Rattle.products.specs.Marks.{marks_below, marks_frozen}
use Rattle.products.proofs.candidate_marks.Goals as goal

pub returns : goal.returns
returns c =
    let e = c.below_zero.ensures in
    let f : ℕ → Bool = λ j. lt_z (entry c.args.c.now c.args.k j) (pos 0) in
    record {
      below = omega (arith, and_le_l c.below_zero.result (4294967295 - c.args.marks), rw (← e) at (marks_below c.args.q f));
      at =
          λ j l. frozen_free 32 c.below_zero.result c.args.marks j (search rules) (omega (arith, c.requires))
          ∙ ap (λ b. b && not (frozen c.args.marks j)) {x = frozen c.below_zero.result j} {y = f j} (rw e (marks_frozen c.args.q f j l));
    }
