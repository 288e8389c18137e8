-- `list_file::words::to_word` meets its contract: -(n + 1) is n below the greatest word. Assumes nothing.
use Rattle.std.proofs.Common.{arith, to_z-of_z}
use Rattle.list_file.specs.SignLaws.{Below, below_zero, NotBelow, not_below_zero, natural_fits}
use Rattle.list_file.proofs.words.to_word.Goals as goal
use Rattle.list_file.proofs.words.to_word.Goals.{Else-x-lt0, Then-x-lt0}

below : (c : Then-x-lt0) → Below c.args.x
below c = below_zero _ c.ranges.x (rw (to_z-of_z c.ranges.x) at c.if-x-lt0.true)

not_below_lem : (c : Else-x-lt0) → NotBelow c.args.x
not_below_lem c = not_below_zero _ c.ranges.x (rw (to_z-of_z c.ranges.x) at c.if-x-lt0.false)

pub overflow_add-below : goal.overflow_add-below
overflow_add-below c = rw (to_z-of_z c.ranges.x) (below c).next

pub overflow_sub-below : goal.overflow_sub-below
overflow_sub-below c = let b = below c in rw (to_z-of_z c.ranges.x, to_z-of_z b.next, b.back) (natural_fits _ b.small)

pub overflow_cast-result : goal.overflow_cast-result
overflow_cast-result c =
    let b = below c in
    let f = natural_fits _ b.small in
    rw (to_z-of_z c.ranges.x, to_z-of_z b.next, b.back, to_z-of_z f) (tt, record { fits = omega (arith, b.small) })

pub overflow_sub-result : goal.overflow_sub-result
overflow_sub-result c =
    let b = below c in
    let f = natural_fits _ b.small in
    rw (to_z-of_z c.ranges.x, to_z-of_z b.next, b.back, to_z-of_z f) (omega (arith, b.small))

pub overflow_cast-result-else-x-lt0 : goal.overflow_cast-result-else-x-lt0
overflow_cast-result-else-x-lt0 c = let b = not_below_lem c in rw (to_z-of_z c.ranges.x) (b.sign, b.fits)

pub returns-then-x-lt0 : goal.returns-then-x-lt0
returns-then-x-lt0 c =
    let b = below c in
    let f = natural_fits _ b.small in
    rw (to_z-of_z c.ranges.x, to_z-of_z b.next, b.back, to_z-of_z f) b.word

pub returns-else-x-lt0 : goal.returns-else-x-lt0
returns-else-x-lt0 c = rw (to_z-of_z c.ranges.x) (not_below_lem c).word
