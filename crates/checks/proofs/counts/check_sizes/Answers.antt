-- `checks::counts::check_sizes` meets its contract: document 01's limits. Assumes nothing.
use Rattle.checks.specs.Counts.{size_checks}
use Rattle.checks.proofs.counts.check_sizes.Goals as goal

pub returns : goal.returns
unfolding size_checks
returns c = c.sizes_within.ensures
