-- `checks::counts::check_within` meets its contract: a refusal of the sizes decides, else the number of coefficients does. Assumes nothing.
use Prim.Native.Nat.{◌*◌}
use mathlib.Core.Bool.{not}
use mathlib.Core.Path.{sym, ◌∙◌, ap}
use native.Mathlib.Omega.{arith}
use lib.Dec.{eqb}
use borrow.Author.Tests.{eq-eqb, ne_eqb}
use Rattle.definitions.specs.Answers.{refuse_if, refuse_with, ◌then◌}
use Rattle.definitions.specs.Refusals.{sizes}
use Rattle.calls.proofs.CallLaws.{handed_on, passes}
use Rattle.checks.specs.Counts.{sized, sized_product, sizes_pass, sizes_then}
use Rattle.checks.proofs.counts.check_within.Goals as goal

pub overflow_mul-p : goal.overflow_mul-p
overflow_mul-p c =
    let a = c.args in
    let fits = passes c.sizes_within.ensures c.in_ok-sizes_within.was in
    omega (arith, sized_product {p = a.p} {q = a.q} c.requires (sized (sizes a.equations a.unknowns) a.p a.q fits))

pub returns-in_err-sizes_within : goal.returns-in_err-sizes_within
unfolding ◌then◌
returns-in_err-sizes_within c =
    let a = c.args in
    let first = rw c.in_err-sizes_within.was at c.sizes_within.ensures in
    rw (handed_on c.from_residual.ensures)
    (ap (λ x. x then refuse_if (not (eqb a.coefs (a.p * a.q))) 3) first ∙ sizes_then (sizes a.equations a.unknowns) a.p a.q a.coefs)

pub returns-then-coefs-p : goal.returns-then-coefs-p
unfolding refuse_with
returns-then-coefs-p c =
    let a = c.args in
    ap (λ b. refuse_if (not b) 3) (sym (ne_eqb a.coefs (a.p * a.q) c.if-coefs-p.true))
    ∙ sizes_pass (sizes a.equations a.unknowns) a.p a.q a.coefs (passes c.sizes_within.ensures c.in_ok-sizes_within.was)

pub returns : goal.returns
unfolding refuse_with
returns c =
    let a = c.args in
    ap (λ b. refuse_if (not b) 3) (sym (eq-eqb a.coefs (a.p * a.q) c.if-coefs-p.false))
    ∙ sizes_pass (sizes a.equations a.unknowns) a.p a.q a.coefs (passes c.sizes_within.ensures c.in_ok-sizes_within.was)
