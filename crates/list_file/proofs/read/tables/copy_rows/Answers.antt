-- `list_file::read::tables::copy_rows` meets its contract. The entries passed are those of the stream, and the others are as they were. Assumes nothing.
use Rattle.std.proofs.Common.{refl, ◌∙◌, le_antisymm, arith}
use Rattle.list_spec.specs.Reading.{listed}
use Rattle.list_file.proofs.read.tables.copy_rows.Goals as goal

pub loop-i-init : goal.loop-i-init
unfolding listed
loop-i-init c = (omega arith, refl, record { same = refl })

pub overflow_sub-n : goal.overflow_sub-n
overflow_sub-n c = omega arith

pub overflow_add-first : goal.overflow_add-first
overflow_add-first c = omega arith

pub overflow_sub-first : goal.overflow_sub-first
overflow_sub-first c = omega arith

pub smaller-m-requires : goal.smaller-m-requires
smaller-m-requires c = (omega arith, omega arith)

pub copy_part-requires : goal.copy_part-requires
copy_part-requires c = (record { few = omega arith; one = omega arith; there = omega arith }, omega arith)

pub overflow_add-i : goal.overflow_add-i
overflow_add-i c = omega arith

pub loop-i-smaller : goal.loop-i-smaller
loop-i-smaller c = omega arith

pub loop-i-preserved : goal.loop-i-preserved
loop-i-preserved c =
    (omega arith, c.copy_part.auto.list ∙ c.loop-i.invariant.1, c.copy_part.ensures _ c.loop-i.invariant.2)

pub shape_of-list : goal.shape_of-list
shape_of-list c = c.loop-i.invariant.1

pub returns : goal.returns
returns c = rw (← le_antisymm c.loop-i.invariant.0 c.loop-i-test.false) c.loop-i.invariant.2.same
