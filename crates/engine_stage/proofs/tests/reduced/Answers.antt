use Rattle.engine_reduce.specs.Sums.{integer_at}
use Rattle.engine_stage.proofs.tests.reduced.Goals as goal
-- `reduced` is the stage's test of a pair. Assumes nothing.
use mathlib.Core.Path.{refl, sym, ◌∙◌}
use mir.Facts.{to_z-of_z}
use Rattle.engine_beside.specs.Small.{sum_fits}
use Rattle.engine_stage.specs.Marked.{back, marked_yes, tested}

pub is_marked-requires : goal.is_marked-requires
is_marked-requires c =
    let p = c.requires.0 in (
      rw (back _ (p.bounded c.args.h p.upper)) (p.bounded c.args.h p.upper),
      rw (back _ (p.bounded c.args.k p.lower)) (p.bounded c.args.k p.lower),
    )

pub returns-then-is_marked : goal.returns-then-is_marked
returns-then-is_marked c =
    let p = c.requires.0 in
    let e = rw (back _ (p.bounded c.args.h p.upper), back _ (p.bounded c.args.k p.lower)) at c.is_marked.ensures in
    sym (marked_yes p (sym e ∙ c.if-is_marked.true))

pub both-requires : goal.both-requires
both-requires c =
    let p = c.requires.0 in
    let x = integer_at c.args.values.now c.args.h in
    let y = integer_at c.args.values.now c.args.k in
    rw (back x (p.bounded c.args.h p.upper), back y (p.bounded c.args.k p.lower))
    (sum_fits x y (p.bounded c.args.h p.upper) (p.bounded c.args.k p.lower))

pub reducible-requires : goal.reducible-requires
reducible-requires c =
    let p = c.requires.0 in
    record {
      handed = record { rows = p.rows; valued = p.valued.long; first = p.upper; second = p.lower };
      worded = p.worded;
      word_is = c.requires.1;
      few = p.few;
    }

pub returns : goal.returns
returns c =
    let p = c.requires.0 in
    let x = integer_at c.args.values.now c.args.h in
    let y = integer_at c.args.values.now c.args.k in
    let hs = p.bounded c.args.h p.upper in
    let ks = p.bounded c.args.k p.lower in
    let e = rw (back x hs, back y ks) at c.both.ensures in
    tested p refl (rw (e, to_z-of_z (sum_fits x y hs ks)) at c.reducible.ensures)
