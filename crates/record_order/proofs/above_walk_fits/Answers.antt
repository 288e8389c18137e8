-- `record_order::above_walk_fits` meets its contract: the walk decides, then what it is asked besides, then the other walk's steps. Assumes nothing.
use mathlib.Core.Bool.{and-false}
use mathlib.Core.Path.{sym, ◌∙◌}
use Rattle.calls.specs.Paper.{run_of}
use Rattle.record_order.specs.Order.{above_walk_fits, record_height}
use Rattle.record_order.proofs.above_walk_fits.Goals as goal

pub returns-then-not-in_order : goal.returns-then-not-in_order
unfolding above_walk_fits
returns-then-not-in_order c = rw (sym c.in_order.ensures ∙ c.if-not-in_order.true)

pub above_fits-requires : goal.above_fits-requires
above_fits-requires c =
    (record_height _ _ _ _ _ _ (run_of c.args.r) c.in_order.ensures (c.if-not-in_order.false), c.requires.0, c.requires.1)

pub returns-then-not-above_fits : goal.returns-then-not-above_fits
unfolding above_walk_fits
returns-then-not-above_fits c = rw (sym c.above_fits.ensures ∙ c.if-not-above_fits.true, and-false)

pub returns : goal.returns
unfolding above_walk_fits
returns c =
    rw (sym c.in_order.ensures ∙ c.if-not-in_order.false, sym c.above_fits.ensures ∙ c.if-not-above_fits.false)
