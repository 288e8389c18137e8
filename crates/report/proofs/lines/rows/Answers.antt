-- `lines::rows` meets its contract. What is left to write are the rows from the next one on. Assumes nothing.
use native.Mathlib.Nat.{le_antisymm, sub-zero, zero-mul}
use native.Mathlib.Omega.{arith}
use borrow.Author.Rules.{rules}
use Rattle.laws.proofs.TableLaws.{row_fits}
use Rattle.texts.proofs.PutTheorems.{rest_begins, rest_next, rest_ends}
use Rattle.report.specs.Rows.{part_size, rows_next, rows_done}
use Rattle.report.proofs.lines.rows.Goals as goal

pub loop-k-init : goal.loop-k-init
loop-k-init c = (search rules, rw (sub-zero, zero-mul) (rest_begins _ _ _))

pub overflow_mul-base : goal.overflow_mul-base
overflow_mul-base c = omega (arith, row_fits c.args.q c.loop-k.k c.args.found c.loop-k-test.true)

pub overflow_add-base : goal.overflow_add-base
overflow_add-base c = omega (arith, row_fits c.args.q c.loop-k.k c.args.found c.loop-k-test.true)

pub offset_bounds-list-base : goal.offset_bounds-list-base
offset_bounds-list-base c = omega (arith, row_fits c.args.q c.loop-k.k c.args.found c.loop-k-test.true)

pub slice_bounds-row-count : goal.slice_bounds-row-count
slice_bounds-row-count c = omega arith

pub slice_bounds-row-start : goal.slice_bounds-row-start
slice_bounds-row-start c = omega arith

pub slice_bounds-row-end : goal.slice_bounds-row-end
slice_bounds-row-end c = omega (arith, row_fits c.args.q c.loop-k.k c.args.found c.loop-k-test.true)

pub row-next-requires : goal.row-next-requires
row-next-requires c =
    let a = c.args in
    omega (
      arith,
      row_fits a.q c.loop-k.k a.found c.loop-k-test.true,
      part_size a.list.now a.q a.found c.loop-k.k c.loop-k-test.true (search rules),
    )

pub loop-k-preserved : goal.loop-k-preserved
loop-k-preserved c =
    let a = c.args in (
      omega (arith, c.row-next.ensures.upper_bound, part_size a.list.now a.q a.found c.loop-k.k (search rules) (search rules)),
      rest_next (rw (rows_next a.list.now a.q a.found c.loop-k.k (search rules)) at c.loop-k.invariant.1) c.row-next.ensures.put,
    )

pub returns : goal.returns
returns c =
    let l = c.loop-k in
    let a = c.args in
    record {
      put = rest_ends (rw (rows_done a.list.now a.q a.found l.k c.loop-k-test.false) at l.invariant.1);
      upper_bound = rw (← le_antisymm l.auto.k-end c.loop-k-test.false) l.invariant.0;
    }
