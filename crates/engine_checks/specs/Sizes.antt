-- Refusals 1 and 2, what holds where they find nothing, and what comes after them. Assumes nothing.
use Rattle.std.specs.Prelude.{◌≡◌, true, ℕ, ◌≤◌, leb}
use Rattle.std.proofs.Common.{leb→le}
use Rattle.std.proofs.lemmas.Bool.{not-false}
use Rattle.linear.proofs.TestLaws.{and_parts}
use Rattle.definitions.specs.Answers.{Check, go, ◌then◌}
use Rattle.definitions.specs.Refusals.{between}
use Rattle.laws.proofs.AnswerLaws.{refuse_if_go, then_go}
use Rattle.engine_spec.specs.Calls.{check1, check2}

unfoldable pub size_checks : (p q : ℕ) → Check
size_checks p q = check1 p then check2 q

pub record Sized (p q : ℕ) : Type 0 where
  pub equations : p ≤ 32
  pub some : 1 ≤ q
  pub unknowns : q ≤ 32

within : (n : ℕ) → between 1 32 n ≡ true → (1 ≤ n) × (n ≤ 32)
within n e = let (l, m) = and_parts (leb 1 n) (leb n 32) (rw e tt) in (leb→le 1 n l, leb→le n 32 m)

pub sized : (p q : ℕ) → size_checks p q ≡ go → Sized p q
unfolding size_checks
sized p q e =
    let (equations, unknowns) = then_go (check1 p) _ e in
    let (a, b) = within p (not-false _ (refuse_if_go _ 1 equations)) in
    let (c, d) = within q (not-false _ (refuse_if_go _ 2 unknowns)) in
    record { equations = b; some = c; unknowns = d }
