-- `lines::rising` meets its contract. The numbers of the unknowns passed that the row names stand in the line. Assumes nothing.
use native.Mathlib.Nat.{le_antisymm}
use native.Mathlib.Omega.{arith}
use Rattle.texts.proofs.PutTheorems.{put_none, put_then}
use Rattle.single_spec.specs.Listing.{rising_to}
use Rattle.single_spec.proofs.ListingLaws.{rising_named, rising_other}
use Rattle.single_order.specs.Rows.{named_no, named_yes}
use borrow.Author.Rules.{rules}
use Rattle.single_listing.proofs.lines.rising.Goals as goal
use Rattle.single_listing.proofs.lines.rising.Goals.{then-list-base-ne0, else-list-base-ne0}

pub loop-j-init : goal.loop-j-init
unfolding rising_to
loop-j-init c = (search rules, put_none _ _)

pub before_space-at-requires : goal.before_space-at-requires
before_space-at-requires c =
    (omega (arith, c.loop-j-test.true), omega (arith, c.loop-j.invariant.0, c.loop-j-test.true, c.loop-j.invariant.1.same))

pub loop-j-preserved : goal.loop-j-preserved
loop-j-preserved c =
    let l = c.loop-j in
    elim c.if-list-base-ne0.branch [
      | then-list-base-ne0 w ↦ rw (w.line-is, w.at-is) (
        omega (arith, l.invariant.0, w.before_space-at.ensures.upper_bound),
        rw (rising_named _ _ (named_yes _ w.if-list-base-ne0.true)) (put_then l.invariant.1 w.before_space-at.ensures.put),
      )
      | else-list-base-ne0 w ↦ rw (w.line-is, w.at-is)
          (omega (arith, l.invariant.0), rw (rising_other _ _ (named_no _ w.if-list-base-ne0.false)) l.invariant.1)
    ]

pub returns : goal.returns
returns c =
    let l = c.loop-j in
    let e = le_antisymm l.auto.j-end c.loop-j-test.false in
    record { put = rw e at l.invariant.1; upper_bound = omega (arith, l.invariant.0) }
