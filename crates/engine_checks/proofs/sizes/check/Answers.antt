-- `sizes::check` meets its contract. Assumes nothing.
use Rattle.std.proofs.Common.{arith}
use Rattle.std.proofs.lemmas.Grind.{common_steps}
use Rattle.definitions.specs.Answers.{refuse_with, ◌then◌}
use Rattle.engine_checks.specs.Sizes.{size_checks}
use Rattle.engine_checks.proofs.sizes.check.Goals as goal

pub returns-then-p-lt1 : goal.returns-then-p-lt1
unfolding size_checks refuse_with ◌then◌
returns-then-p-lt1 c = grind (arith, common_steps)

pub returns-then-q-lt1 : goal.returns-then-q-lt1
unfolding size_checks refuse_with ◌then◌
returns-then-q-lt1 c = grind (arith, common_steps)

pub returns : goal.returns
unfolding size_checks refuse_with ◌then◌
returns c = grind (arith, common_steps)
