-- `equation_read::equation::read_sides` meets its contract. Assumes nothing.
use Rattle.std.proofs.Common.{◌+◌, refl, length, arith}
use Rattle.equation_spec.proofs.PlaceLaws.{unplaced_reads}
use Rattle.equation_read.specs.RoomLaws.{skip_left, less_left}
use Rattle.equation_read.specs.SideLaws.{zeros, zeros_small, left_stopped, middle, right_stopped, both, sides_exceed, sides_taken}
use Rattle.equation_read.proofs.equation.read_sides.Goals as goal

pub read_sum-requires : goal.read_sum-requires
read_sum-requires c = record { few = c.requires.2; multiple = omega arith; room = zeros_small (length c.args.text.now) c.requires.0 }

pub returns-in_default : goal.returns-in_default
returns-in_default c =
    let (e, w) = unplaced_reads c.args.q c.requires.1 c.requires.2 c.args.text.now c.requires.4 in
    left_stopped c.args.q c.requires.2 e c.args.text.now w c.args.row.now zeros c.in_default.ensures.read

pub overflow_add-sign : goal.overflow_add-sign
overflow_add-sign c =
    let (e, w) = unplaced_reads c.args.q c.requires.1 c.requires.2 c.args.text.now c.requires.4 in
    let a = middle c.args.q c.requires.2 e c.args.text.now w c.in-Some.left.next c.skip-sign.result zeros c.in-Some.ensures.read c.skip-sign.ensures in
    omega (arith, a.inside, c.well_formed)

pub read_sum-requires-2 : goal.read_sum-requires-2
read_sum-requires-2 c =
    let text = c.args.text.now in
    let a = c.in-Some.ensures.passed in
    let x = skip_left text c.in-Some.left.next c.skip-sign.result c.skip-sign.ensures in
    let y = skip_left text (c.skip-sign.result + 1) c.skip.result c.skip.ensures in
    record { few = c.requires.2; multiple = omega arith; room = less_left (omega arith) a.room }

pub returns-in_default-read_sum : goal.returns-in_default-read_sum
returns-in_default-read_sum c =
    let (e, w) = unplaced_reads c.args.q c.requires.1 c.requires.2 c.args.text.now c.requires.4 in
    let a = middle c.args.q c.requires.2 e c.args.text.now w c.in-Some.left.next c.skip-sign.result zeros c.in-Some.ensures.read c.skip-sign.ensures in
    right_stopped c.args.q c.requires.2 e c.args.text.now w a c.skip.result c.skip.ensures c.args.row.now c.in_default-read_sum.ensures.read

pub returns-then-left-right : goal.returns-then-left-right
returns-then-left-right c =
    let (e, w) = unplaced_reads c.args.q c.requires.1 c.requires.2 c.args.text.now c.requires.4 in
    let a = middle c.args.q c.requires.2 e c.args.text.now w c.in-Some.left.next c.skip-sign.result zeros c.in-Some.ensures.read c.skip-sign.ensures in
    let b = both c.args.q c.requires.2 e c.args.text.now w a c.skip.result c.skip.ensures c.in-Some-read_sum.ensures.read in
    sides_exceed c.args.q c.requires.2 e c.args.text.now w a c.skip.result c.skip.ensures b c.args.row.now c.if-left-right.true

pub returns : goal.returns
returns c =
    let (e, w) = unplaced_reads c.args.q c.requires.1 c.requires.2 c.args.text.now c.requires.4 in
    let a = middle c.args.q c.requires.2 e c.args.text.now w c.in-Some.left.next c.skip-sign.result zeros c.in-Some.ensures.read c.skip-sign.ensures in
    let b = both c.args.q c.requires.2 e c.args.text.now w a c.skip.result c.skip.ensures c.in-Some-read_sum.ensures.read in
    sides_taken c.args.q c.requires.2 e c.args.text.now w a c.skip.result c.skip.ensures b c.args.row.now c.if-left-right.false refl c.accept.ensures
