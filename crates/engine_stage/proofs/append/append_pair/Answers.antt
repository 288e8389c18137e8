use lib.ListN.{set}
use Rattle.engine_reduce.specs.Sums.{integer_at}
use Rattle.engine_stage.proofs.append.append_pair.Goals as goal
-- `append_pair` writes row n and what stands beside it. Assumes nothing.
use mathlib.Core.Path.{refl, ap}
use mir.Facts.{to_z-of_z}
use Rattle.laws.proofs.TableLaws.{row_fits}
use Rattle.engine_beside.specs.Small.{sum_fits}
use Rattle.engine_beside.specs.Writing.{table_row}
use Rattle.engine_stage.specs.Marked.{back}
use native.Mathlib.Omega.{arith}

pub overflow_mul-h : goal.overflow_mul-h
overflow_mul-h c =
    omega (arith, c.requires.rows.whole, row_fits c.args.q c.args.h c.args.n c.requires.upper)

pub overflow_mul-k : goal.overflow_mul-k
overflow_mul-k c =
    omega (arith, c.requires.rows.whole, row_fits c.args.q c.args.k c.args.n c.requires.lower)

pub append_sum-requires : goal.append_sum-requires
append_sum-requires c =
    let p = c.requires in (
      table_row p.rows c.args.h p.upper,
      table_row p.rows c.args.k p.lower,
      row_fits c.args.q c.args.h c.args.n p.upper,
      row_fits c.args.q c.args.k c.args.n p.lower,
      p.room.fits,
    )

pub both-requires : goal.both-requires
both-requires c =
    let p = c.requires in
    let x = integer_at c.args.values.now c.args.h in
    let y = integer_at c.args.values.now c.args.k in
    rw (back x p.first, back y p.second) (sum_fits x y p.first p.second)

pub overflow_add-degrees : goal.overflow_add-degrees
overflow_add-degrees c =
    omega (arith, c.requires.low c.args.h c.requires.upper, c.requires.low c.args.k c.requires.lower)

pub mark_of-requires : goal.mark_of-requires
mark_of-requires c =
    let p = c.requires in (
      rw (back _ p.first) p.first,
      rw (back _ p.second) p.second,
      let x = integer_at c.args.values.now c.args.h in
          let y = integer_at c.args.values.now c.args.k in
          rw (back x p.first, back y p.second) (sum_fits x y p.first p.second),
    )

pub mother_of-requires : goal.mother_of-requires
mother_of-requires c =
    let p = c.requires in
    let x = integer_at c.args.values.now c.args.h in
    let y = integer_at c.args.values.now c.args.k in
    (omega (arith, p.few, p.upper), omega (arith, p.few, p.lower), rw (back x p.first, back y p.second) (sum_fits x y p.first p.second))

pub returns : goal.returns
returns c =
    let p = c.requires in
    let x = integer_at c.args.values.now c.args.h in
    let y = integer_at c.args.values.now c.args.k in
    let sum = rw (back x p.first, back y p.second) at c.both.ensures in
    let mark = rw (back x p.first, back y p.second) at c.mark_of.ensures in
    record {
      mother = c.mother_of.result;
      row_is = c.append_sum.ensures;
      value_is = ap (set c.args.values.now c.args.n) (rw sum (to_z-of_z (sum_fits x y p.first p.second)));
      word_is = refl;
      degree_is = refl;
      mark_is = ap (set c.args.marks.now c.args.n) mark;
      mother_is = refl;
    }
