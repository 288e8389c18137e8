-- `checks::coefficients::check_sides` meets its contract. Assumes nothing.
use Rattle.definitions.specs.Answers.{refuse_with}
use Rattle.checks.proofs.coefficients.check_sides.Goals as goal

pub returns-then-any_outside : goal.returns-then-any_outside
unfolding refuse_with
returns-then-any_outside c = rw (← c.any_outside.ensures, c.if-any_outside.true)

pub returns-else-any_outside : goal.returns-else-any_outside
unfolding refuse_with
returns-else-any_outside c = rw (← c.any_outside.ensures, c.if-any_outside.false)
