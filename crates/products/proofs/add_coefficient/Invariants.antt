-- `add_coefficient` meets its contract. The row is written up to j; a place that is read is as it was. Assumes nothing.
use Prim.Native.Nat.{◌+◌}
use Rattle.linear.specs.Gram.{gram}
use Rattle.products.specs.Products.{Written, given}
use Rattle.products.proofs.add_coefficient.Given as goal

abbrev pub invariant-loop-j : goal.invariant-loop-j
invariant-loop-j l = Written l.i l.j (gram (l.e + 1) (given l.q l.coefs) l.i) l.initial.g l.g
