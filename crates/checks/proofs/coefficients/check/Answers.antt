-- `checks::coefficients::check` meets its contract: where a coefficient is out of range the search finds the first one. Assumes nothing.
use lib.IntN.{pos}
use mathlib.Core.Bool.{true, false}
use mathlib.Core.Path.{◌≡◌, sym, ◌∙◌}
use borrow.Author.Rules.{rules}
use borrow.Author.Tests.{tests}
use Rattle.std.proofs.lemmas.Iterator.{IsFirst-from_position, YieldsList-from_slice}
use Rattle.definitions.specs.Refusals.{out_of_range}
use Rattle.checks.proofs.FirstPlace.{Found, no_place, none_at, place_found}
use Rattle.checks.proofs.coefficients.check.Goals as goal
use Rattle.checks.proofs.coefficients.check.Goals.{After-position}

found : (c : After-position) → Found 7 out_of_range (pos 0) c.args.coefs.now c.position.result
found c =
    IsFirst-from_position _ _ _ (λ x. out_of_range x ≡ true) (λ x. out_of_range x ≡ false) c.position.ensures.ran
    (YieldsList-from_slice c.args.coefs.now (cc)) (λ x q k. search (rules, tests)) (λ x q k. search (rules, tests))

pub returns-then-not-any_outside : goal.returns-then-not-any_outside
returns-then-not-any_outside c =
    none_at 7 out_of_range (pos 0) c.args.coefs.now (sym c.any_outside.ensures ∙ c.if-not-any_outside.true)

pub returns-in-Some : goal.returns-in-Some
returns-in-Some c =
    place_found 7 out_of_range (pos 0) c.args.coefs.now c.in-Some.i
    (rw c.in-Some.is at (found (goal.at.returns-in-Some c).After-position))

pub returns-in-None : goal.returns-in-None
returns-in-None c =
    no_place 7 out_of_range (pos 0) c.args.coefs.now (rw c.in-None.is at (found (goal.at.returns-in-None c).After-position))
