-- `push_others` meets its contract. The stack, the height and the marks are what the unknowns passed make of them, but for the first child. Assumes nothing.
use mathlib.Core.Path.{◌≡◌, refl, sym, ◌∙◌, subst}
use Prim.Native.Nat.{ℕ, ◌+◌, ◌*◌, ◌-◌, ◌%◌, ◌^◌, ◌≤◌, ◌<◌}
use native.Mathlib.Omega.{arith}
use lib.Count.{count_trailing_zeros}
use lib.ListN.{length, get_or}
use lib.Pow.{pow_mono}
use Rattle.linear.specs.Tests.{count_to}
use Rattle.linear.proofs.TestLaws.{count_step}
use Rattle.linear.specs.Tuples.{Same, total}
use Rattle.linear.proofs.TupleLaws.{total_same}
use Rattle.definitions.specs.Tables.{at, frozen}
use Rattle.laws.proofs.MarkLaws.{shift_one}
use Rattle.laws.proofs.TableLaws.{row_fits}
use Rattle.table_rows.specs.Rows.{tuple}
use Rattle.products.specs.Scan.{Left, left_all, left_next, next_first, next_holds, next_inside, next_le, next_less}
use Rattle.products.specs.ProductLaws.{combined_child, level_products, products_small}
use Rattle.step.proofs.Totals.{total_fits, totals_row}
use Rattle.step.specs.Pushed.{Parent}
use Rattle.step.proofs.Pushed.{others_same, others_written, parent_same, pushed_first, pushed_low, pushed_next, pushed_room}
use Rattle.step.proofs.children.push_others.Goals as goal
use Rattle.step.proofs.children.push_others.Goals.{After-read, In-loop-rest, Start}

-- the first child: all marks are there, and it has the lowest
module _ (s : Start) where
  all : Left s.args.q (frozen s.args.made) 0 s.args.made
  all = left_all _ _ s.requires.made_bound.1

  first_inside : s.args.first < s.args.q
  first_inside = rw s.requires.made_bound.3 (next_inside all s.requires.parent.0.few s.requires.made_bound.2)

  level_low : s.args.level < s.args.q
  level_low = omega (arith, s.requires.made_bound.0, count_some)
    where
      count_some : 0 < count_to s.args.q (frozen s.args.made)
      count_some =
          omega (
            arith,
            count_step (frozen s.args.made) s.args.first s.args.q first_inside
                (rw (s.requires.made_bound.3, next_holds all s.requires.parent.0.few s.requires.made_bound.2) tt),
          )

  row_room : s.args.level * (s.args.q + 1) + (s.args.q + 1) ≤ length s.args.stack.now
  row_room = omega (arith, row_fits (s.args.q + 1) _ _ level_low, s.requires.parent.0.long)

-- once the parent's tuple is copied
module _ (k : After-read) where
  abbrev x : ℕ → ℕ
  x = tuple k.read.new.t

  same : Same k.args.q (at k.args.stack.now (k.args.q + 1) k.args.level) x
  same j l = sym (k.read.ensures.same j l)

  parent : Parent k.args.q k.args.gram.now k.args.stack.now k.args.inner.now k.args.sums.now k.args.level x k.args.marks
  parent = parent_same same k.requires.parent.0

  long : k.args.q ≤ length k.read.new.t
  long = omega (arith, k.requires.parent.1, k.read.auto.t)

  sum_is : get_or k.args.sums.now k.args.level 0 ≡ total x k.args.q
  sum_is = parent.summed.levels k.args.level (omega arith) ∙ total_same _ _ k.args.q parent.row.tuple

abbrev unknown : In-loop-rest → ℕ
unknown l = count_trailing_zeros 32 l.loop-rest.rest

some : (l : In-loop-rest) → 0 < l.loop-rest.rest
some l = omega (arith, l.loop-rest-test.true)

inside : (l : In-loop-rest) → unknown l < l.args.q
inside l = next_inside l.loop-rest.invariant.2 l.requires.parent.0.few (some l)

-- the next row lies below row q
low : (l : In-loop-rest) → l.loop-rest.h < l.args.q
low l = pushed_low _ _ _ _ _ _ _ l.loop-rest.invariant.3 l.loop-rest.invariant.2
    l.requires.parent.0.few (some l) l.requires.made_bound.0

pub overflow_cast-bit : goal.overflow_cast-bit
overflow_cast-bit c = omega (arith, c.requires.parent.0.few, first_inside (goal.at.overflow_cast-bit c).Start)

pub overflow_shl-bit : goal.overflow_shl-bit
overflow_shl-bit c = omega (arith, c.requires.parent.0.few, first_inside (goal.at.overflow_shl-bit c).Start)

pub overflow_sub-rest : goal.overflow_sub-rest
overflow_sub-rest c =
    rw c.requires.made_bound.3 (next_le (all (goal.at.overflow_sub-rest c).Start) c.requires.parent.0.few c.requires.made_bound.2)

pub overflow_add-h : goal.overflow_add-h
overflow_add-h c = omega (arith, c.requires.parent.0.few, level_low (goal.at.overflow_add-h c).Start)

-- the first child is the only one
pub returns-then-rest-eq0 : goal.returns-then-rest-eq0
returns-then-rest-eq0 c =
    let left = all (goal.at.returns-then-rest-eq0 c).Start in
    let gone : c.args.made - (1 * 2 ^ count_trailing_zeros 32 c.args.made) % 4294967296 ≡ 0 =
    subst (λ n. c.args.made - (1 * 2 ^ n) % 4294967296 ≡ 0) c.requires.made_bound.3 c.if-rest-eq0.true in
    let rest = rw gone at (left_next left c.requires.parent.0.few c.requires.made_bound.2) in
    rw c.requires.made_bound.3
    (others_written _ _ _ _ _ _ _
    (pushed_first _ _ _ _ _ _ _ (next_first left c.requires.parent.0.few c.requires.made_bound.2)
    (next_holds left c.requires.parent.0.few c.requires.made_bound.2)
    (omega (arith, c.requires.parent.0.few, next_inside left c.requires.parent.0.few c.requires.made_bound.2))
    c.requires.parent.0.row) rest c.requires.parent.0.cached c.requires.parent.0.summed)

pub overflow_mul-level : goal.overflow_mul-level
overflow_mul-level c = omega (arith, row_room (goal.at.overflow_mul-level c).Start)

pub read-requires : goal.read-requires
read-requires c =
    omega (arith, row_room (goal.at.read-requires c).Start, c.requires.parent.1)

pub overflow_add-frozen : goal.overflow_add-frozen
overflow_add-frozen c =
    rw (shift_one c.args.first (omega (arith, c.requires.parent.0.few, first_inside (goal.at.overflow_add-frozen c).Start)))
    (omega (
      arith,
      c.requires.parent.0.few,
      first_inside (goal.at.overflow_add-frozen c).Start,
      c.requires.parent.0.fitting,
      pow_mono {i = c.args.q} {j = 16} c.requires.parent.0.few,
      pow_mono {i = c.args.first} {j = 16} (omega (arith, c.requires.parent.0.few, first_inside (goal.at.overflow_add-frozen c).Start)),
    ))

pub offset_bounds-sums-level : goal.offset_bounds-sums-level
offset_bounds-sums-level c = omega (arith, c.requires.parent.0.few, level_low (goal.at.offset_bounds-sums-level c).Start)

pub bounds-sums-level : goal.bounds-sums-level
bounds-sums-level c = omega (arith, c.requires.parent.0.few, level_low (goal.at.bounds-sums-level c).Start)

pub loop-rest-init : goal.loop-rest-init
loop-rest-init c =
    let left = all (goal.at.loop-rest-init c).Start in
    rw c.requires.made_bound.3 (
      refl,
      count_trailing_zeros 32 c.args.made + 1,
      left_next left c.requires.parent.0.few c.requires.made_bound.2,
      pushed_first _ _ _ _ _ _ _ (next_first left c.requires.parent.0.few c.requires.made_bound.2)
          (next_holds left c.requires.parent.0.few c.requires.made_bound.2)
          (omega (arith, c.requires.parent.0.few, next_inside left c.requires.parent.0.few c.requires.made_bound.2))
          (parent (goal.at.loop-rest-init c).After-read).row,
      c.requires.parent.0.cached,
      c.requires.parent.0.summed,
      sum_is (goal.at.loop-rest-init c).After-read,
    )

pub overflow_cast-i : goal.overflow_cast-i
overflow_cast-i c = omega (arith, c.requires.parent.0.few, inside c)

pub overflow_cast-bit-in-loop-rest : goal.overflow_cast-bit-in-loop-rest
overflow_cast-bit-in-loop-rest c = omega (arith, c.requires.parent.0.few, inside c)

pub overflow_shl-bit-in-loop-rest : goal.overflow_shl-bit-in-loop-rest
overflow_shl-bit-in-loop-rest c = omega (arith, c.requires.parent.0.few, inside c)

pub overflow_sub-rest-in-loop-rest : goal.overflow_sub-rest-in-loop-rest
overflow_sub-rest-in-loop-rest c = next_le c.loop-rest.invariant.2 c.requires.parent.0.few (some c)

pub write_child-requires : goal.write_child-requires
write_child-requires c =
    omega (
      arith,
      c.requires.parent.0.few,
      long (goal.at.write_child-requires c).After-read,
      inside (goal.at.write_child-requires c).In-loop-rest,
      low (goal.at.write_child-requires c).In-loop-rest,
      row_fits (c.args.q + 1) _ _ (low (goal.at.write_child-requires c).In-loop-rest),
      c.requires.parent.0.long,
      c.loop-rest.invariant.0,
      (parent (goal.at.write_child-requires c).After-read).small.at_most (unknown (goal.at.write_child-requires c).In-loop-rest)
          (inside (goal.at.write_child-requires c).In-loop-rest),
    )

pub write_child-requires-in-loop-rest : goal.write_child-requires-in-loop-rest
write_child-requires-in-loop-rest c =
    record {
      size = c.loop-rest.invariant.4.size;
      below = omega (arith, c.loop-rest.invariant.3.above);
      level = omega (arith, c.requires.parent.0.few, low (goal.at.write_child-requires-in-loop-rest c).In-loop-rest);
      unknown = inside (goal.at.write_child-requires-in-loop-rest c).In-loop-rest;
      gram_small = c.requires.parent.0.gram;
      parent_small =
          products_small c.requires.parent.0.gram (parent (goal.at.write_child-requires-in-loop-rest c).After-read).small.at_most
          (level_products c.loop-rest.invariant.4 c.loop-rest.invariant.3.above c.loop-rest.invariant.3.row.tuple);
    }

pub overflow_add-sums : goal.overflow_add-sums
overflow_add-sums c =
    omega (
      arith,
      c.loop-rest.invariant.6,
      total_fits c.requires.parent.0.few
          (parent (goal.at.overflow_add-sums c).After-read).small,
    )

pub offset_bounds-sums-h : goal.offset_bounds-sums-h
offset_bounds-sums-h c = omega (arith, c.requires.parent.0.few, low (goal.at.offset_bounds-sums-h c).In-loop-rest)

pub bounds-sums-h : goal.bounds-sums-h
bounds-sums-h c = omega (arith, c.requires.parent.0.few, low (goal.at.bounds-sums-h c).In-loop-rest)

pub overflow_add-frozen-in-loop-rest : goal.overflow_add-frozen-in-loop-rest
overflow_add-frozen-in-loop-rest c =
    omega (
      arith,
      pushed_room _ _ _ _ _ _ _ c.loop-rest.invariant.3 c.loop-rest.invariant.2 c.requires.parent.0.few
          (some (goal.at.overflow_add-frozen-in-loop-rest c).In-loop-rest) c.requires.parent.0.fitting,
    )

pub overflow_add-h-in-loop-rest : goal.overflow_add-h-in-loop-rest
overflow_add-h-in-loop-rest c = omega (arith, c.requires.parent.0.few, low (goal.at.overflow_add-h-in-loop-rest c).In-loop-rest)

pub loop-rest-smaller : goal.loop-rest-smaller
loop-rest-smaller c = next_less c.loop-rest.invariant.2 c.requires.parent.0.few (some (goal.at.loop-rest-smaller c).In-loop-rest)

pub loop-rest-preserved : goal.loop-rest-preserved
loop-rest-preserved c =
    let from = level_products c.loop-rest.invariant.4 c.loop-rest.invariant.3.above c.loop-rest.invariant.3.row.tuple in (
      c.write_child.auto.stack ∙ c.loop-rest.invariant.0,
      unknown (goal.at.loop-rest-preserved c).In-loop-rest + 1,
      left_next c.loop-rest.invariant.2 c.requires.parent.0.few (some (goal.at.loop-rest-preserved c).In-loop-rest),
      pushed_next _ _ _ _ _ _ _ c.loop-rest.invariant.3 c.loop-rest.invariant.2 c.requires.parent.0.few
          (some (goal.at.loop-rest-preserved c).In-loop-rest) c.write_child.ensures,
      rw c.write_child.ensures
          (combined_child from (unknown (goal.at.loop-rest-preserved c).In-loop-rest) (inside (goal.at.loop-rest-preserved c).In-loop-rest) c.loop-rest.frozen
          c.requires.parent.0.few
          (omega (arith, row_fits (c.args.q + 1) _ _ (low (goal.at.loop-rest-preserved c).In-loop-rest), c.requires.parent.0.long, c.loop-rest.invariant.0))
          c.loop-rest.invariant.4 c.write_child-in-loop-rest.ensures),
      rw c.write_child.ensures
          (totals_row (x (goal.at.loop-rest-preserved c).After-read) (λ k kh ne. omega arith)
          (omega (arith, c.requires.parent.0.few, low (goal.at.loop-rest-preserved c).In-loop-rest))
          (unknown (goal.at.loop-rest-preserved c).In-loop-rest) (inside (goal.at.loop-rest-preserved c).In-loop-rest) c.loop-rest.frozen
          (omega (arith, row_fits (c.args.q + 1) _ _ (low (goal.at.loop-rest-preserved c).In-loop-rest), c.requires.parent.0.long, c.loop-rest.invariant.0))
          c.loop-rest.invariant.6 c.loop-rest.invariant.5),
      c.loop-rest.invariant.6,
    )

pub returns : goal.returns
returns c =
    others_same (λ j l. sym (same (goal.at.returns c).After-read j l))
    (others_written _ _ _ _ _ _ _ c.loop-rest.invariant.3 (rw c.loop-rest-test.false at c.loop-rest.invariant.2) c.loop-rest.invariant.4
    c.loop-rest.invariant.5)
