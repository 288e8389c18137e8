-- `list_file::write::checking::rows_in_range` meets its contract. The answer so far is that for the components passed. Assumes nothing.
use Rattle.std.proofs.Common.{ℕ, Bool, leb, get_or, refl, le_antisymm}
use Rattle.linear.specs.Tests.{all_to}
use Rattle.definitions.specs.System.{most_component}
use Rattle.list_spec.specs.Writing.{rows_in_range}
use Rattle.list_file.specs.RangeLaws.{all_more}
use Rattle.list_file.proofs.write.checking.rows_in_range.Goals as goal

pub loop-x-init : goal.loop-x-init
unfolding all_to
loop-x-init c = refl

pub loop-x-preserved : goal.loop-x-preserved
loop-x-preserved c =
    let f : ℕ → Bool = λ k. leb (get_or c.args.rows.now k 0) most_component in
    cc (c.also_within-within.ensures, c.loop-x.invariant, all_more c.loop-x.x-index f)

pub returns : goal.returns
unfolding rows_in_range
returns c = rw (← le_antisymm c.loop-x.auto.x-index-end c.loop-x-test.false) c.loop-x.invariant
