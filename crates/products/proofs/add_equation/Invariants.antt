-- `add_equation` meets its contract. The rows passed have what the equation adds, and the others do not. Assumes nothing.
use mathlib.Core.Path.{◌≡◌}
use Prim.Native.Nat.{◌+◌}
use lib.ListN.{length}
use Rattle.linear.specs.Gram.{gram}
use Rattle.products.specs.Products.{Ahead, Rows, given}
use Rattle.products.proofs.add_equation.Given as goal

abbrev pub invariant-loop-i : goal.invariant-loop-i
invariant-loop-i l = (length l.g ≡ 256) × Rows l.i l.q (gram (l.e + 1) (given l.q l.coefs)) l.g × Ahead l.i l.q (gram l.e (given l.q l.coefs)) l.g
