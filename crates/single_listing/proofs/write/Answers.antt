-- `write` meets its contract. The lines of the rows passed are written. Assumes nothing.
use native.Mathlib.Nat.{le_antisymm}
use native.Mathlib.Omega.{arith}
use Rattle.single_order.specs.Rows.{map_of}
use Rattle.laws.proofs.TableLaws.{row_fits}
use Rattle.texts.proofs.PutTheorems.{put_none, put_then}
use Rattle.single_spec.specs.Listing.{lines_to, listing}
use Rattle.single_spec.proofs.ListingLaws.{lines_next}
use Rattle.single_listing.specs.Passes.{line_inside}
use Rattle.single_listing.proofs.write.Goals as goal

pub loop-i-init : goal.loop-i-init
unfolding lines_to
loop-i-init c = put_none _ _

pub overflow_mul-i : goal.overflow_mul-i
overflow_mul-i c =
    omega (arith, c.requires.whole.rows, row_fits c.args.q c.loop-i.i c.args.found c.loop-i-test.true)

pub write-at-requires : goal.write-at-requires
write-at-requires c =
    let m = map_of c.args.p c.args.q c.args.coefs.now in
    let there = row_fits c.args.q c.loop-i.i c.args.found c.loop-i-test.true in
    let inside = line_inside m c.args.list.now c.loop-i.i c.args.found c.loop-i-test.true in (
      c.requires.whole.q_few,
      record { whole = c.requires.whole.coefs; row = omega (arith, c.requires.whole.rows, there) },
      record {
        minimal = c.requires.minimal c.loop-i.i c.loop-i-test.true;
        fits = omega (arith, c.requires.fits, inside, c.loop-i.invariant.place, c.loop-i.invariant.same);
      },
    )

pub loop-i-preserved : goal.loop-i-preserved
loop-i-preserved c =
    let l = c.loop-i in
    rw (lines_next _ _ l.i) (put_then l.invariant c.write-at.ensures)

pub returns : goal.returns
unfolding listing
returns c =
    let l = c.loop-i in
    let e = le_antisymm l.auto.i-end c.loop-i-test.false in
    rw e at l.invariant
