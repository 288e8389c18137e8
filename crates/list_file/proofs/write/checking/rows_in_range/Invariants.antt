-- `list_file::write::checking::rows_in_range` meets its contract. The answer so far is that for the components passed. Assumes nothing.
use Rattle.std.proofs.Common.{◌≡◌, leb, get_or}
use Rattle.linear.specs.Tests.{all_to}
use Rattle.definitions.specs.System.{most_component}
use Rattle.list_file.proofs.write.checking.rows_in_range.Given as goal

abbrev pub invariant-loop-x : goal.invariant-loop-x
invariant-loop-x l = l.within ≡ all_to l.x-index (λ k. leb (get_or l.rows k 0) most_component)
