-- `lines::ordered` meets its contract. The first unknowns of the order stand in the line. Assumes nothing.
use native.Mathlib.Omega.{arith}
use Rattle.texts.proofs.PutTheorems.{put_none, put_then}
use Rattle.single_spec.specs.Listing.{order_to}
use Rattle.single_spec.proofs.ListingLaws.{order_next}
use borrow.Author.Rules.{rules}
use Rattle.single_listing.proofs.lines.ordered.Goals as goal

pub loop-j-init : goal.loop-j-init
unfolding order_to
loop-j-init c = (search rules, put_none _ _)

pub loop-j-preserved : goal.loop-j-preserved
loop-j-preserved c =
    let l = c.loop-j in
    (omega (arith, l.invariant.0, c.after_space-next.ensures.upper_bound), rw (order_next _ l.j-index) (put_then l.invariant.1 c.after_space-next.ensures.put))
