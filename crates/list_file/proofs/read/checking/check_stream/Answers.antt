-- `list_file::read::checking::check_stream` meets its contract. Every block passed is in order. Assumes nothing.
use Rattle.std.proofs.Common.{refl, le_antisymm, arith}
use Rattle.calls.proofs.CallLaws.{handed_on}
use Rattle.list_spec.specs.Reading.{stream_checks}
use Rattle.list_file.specs.WordCheckLaws.{passes, refuses}
use Rattle.list_file.specs.ReadLaws.{stream_next, stream_at_lem}
use Rattle.list_file.proofs.read.checking.check_stream.Goals as goal

pub loop-b-init : goal.loop-b-init
unfolding stream_checks
loop-b-init c = refl

pub block_in_range-requires : goal.block_in_range-requires
block_in_range-requires c = record { few = c.requires.few; blocks = omega (arith, c.requires.blocks) }

pub returns-in_err-check_block : goal.returns-in_err-check_block
returns-in_err-check_block c =
    rw (handed_on c.from_residual.ensures)
    (stream_at_lem _ _ _ _ _ c.loop-b-test.true c.loop-b.invariant
    (refuses (rw c.block_in_range.ensures at c.check_block.ensures) c.in_err-check_block.was))

pub loop-b-preserved : goal.loop-b-preserved
loop-b-preserved c =
    stream_next _ _ _ _ c.loop-b.invariant (passes (rw c.block_in_range.ensures at c.check_block.ensures) c.in_ok-check_block.was)

pub returns : goal.returns
returns c = cc (le_antisymm c.loop-b.auto.b-end c.loop-b-test.false)
