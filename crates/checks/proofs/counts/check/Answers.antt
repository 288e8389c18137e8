-- `checks::counts::check` meets its contract: document 01's limits. Assumes nothing.
use Rattle.checks.specs.Counts.{count_checks}
use Rattle.checks.proofs.counts.check.Goals as goal

pub returns : goal.returns
unfolding count_checks
returns c = c.check_within.ensures
