-- `checks::shape::check_lower` meets its contract: the first of the length, the coefficients and the components to refuse decides. Assumes nothing.
use Prim.Native.Nat.{ℕ}
use mathlib.Core.Bool.{not}
use mathlib.Core.List.{List}
use mathlib.Core.Path.{◌≡◌, ◌∙◌, ap}
use native.Mathlib.Omega.{arith}
use lib.Dec.{eqb}
use lib.ListN.{length}
use borrow.Author.Tests.{eq-eqb, ne_eqb}
use Rattle.definitions.specs.Answers.{Check, refuse_with, refuse_if, ◌then◌}
use Rattle.definitions.specs.Refusals.{check7, check8}
use Rattle.definitions.specs.Input.{alone, input_with}
use Rattle.calls.proofs.CallLaws.{handed_on}
use Rattle.checks.specs.CheckLaws.{refused_first, passed_first}
use Rattle.checks.specs.Shape.{above_limit}
use Rattle.checks.proofs.shape.check_lower.Goals as goal

right_length : (lower : List ℕ) (q : ℕ) (c : Check) → length lower ≡ q → c ≡ refuse_if (not (eqb (length lower) q)) 5 then c
unfolding refuse_with ◌then◌
right_length lower q c e = rw (eq-eqb (length lower) q e)

pub returns-then-lower-q : goal.returns-then-lower-q
unfolding refuse_with ◌then◌
returns-then-lower-q c p = let s = c.args in rw (ne_eqb (length s.lower.now) s.q (λ e. omega arith))

pub returns-in_err-check : goal.returns-in_err-check
unfolding check7
returns-in_err-check c p =
    let s = c.args in
    rw (handed_on c.from_residual.ensures) (refused_first _ c.in_err-check.was c.check.ensures ∙ right_length s.lower.now s.q _ c.if-lower-q.false)

pub returns-then-above_limit : goal.returns-then-above_limit
unfolding refuse_with check7
returns-then-above_limit c p =
    let s = c.args in
    let test = c.above_limit.ensures ∙ ap (λ l. above_limit l s.lower.now) c.limit_of.ensures in
    let before = passed_first (check8 (input_with alone s.limit p s.q s.coefs.now) s.lower.now) c.in_ok-check.was c.check.ensures in
    rw (← before ∙ right_length s.lower.now s.q _ c.if-lower-q.false, ← test, c.if-above_limit.true)

pub returns : goal.returns
unfolding refuse_with check7
returns c p =
    let s = c.args in
    let test = c.above_limit.ensures ∙ ap (λ l. above_limit l s.lower.now) c.limit_of.ensures in
    let before = passed_first (check8 (input_with alone s.limit p s.q s.coefs.now) s.lower.now) c.in_ok-check.was c.check.ensures in
    rw (← before ∙ right_length s.lower.now s.q _ c.if-lower-q.false, ← test, c.if-above_limit.false)
