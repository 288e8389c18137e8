-- `below_zero` meets its contract. The marks so far are those of the unknowns passed, from the last one down. Assumes nothing.
use lib.IntN.{pos}
use lib.Signed.{lt_z}
use Rattle.definitions.specs.Step.{marks_to}
use Rattle.products.specs.Marks.{Folded}
use Rattle.products.specs.Products.{entry}
use Rattle.products.proofs.below_zero.Given as goal

abbrev pub invariant-loop-j : goal.invariant-loop-j
invariant-loop-j l = Folded (marks_to l.q (λ i. lt_z (entry l.c l.k i) (pos 0))) (λ i. lt_z (entry l.c l.k i) (pos 0)) l.j l.below
