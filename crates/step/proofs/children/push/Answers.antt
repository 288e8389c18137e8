-- `push` meets its contract: the first child is its parent's row with one component raised. Assumes nothing.
use mathlib.Core.Path.{◌≡◌, refl, ◌∙◌, ap}
use mathlib.Core.Bool.{false}
use mathlib.Core.List.{List}
use Prim.Native.Nat.{ℕ, ◌+◌, ◌*◌, ◌≤◌, ◌<◌}
use native.Mathlib.Omega.{arith}
use lib.Count.{count_trailing_zeros}
use lib.ListN.{length, get_or, set}
use Rattle.linear.proofs.TestLaws.{is_false}
use Rattle.linear.specs.Tuples.{total}
use Rattle.linear.proofs.TupleLaws.{total_same}
use Rattle.definitions.specs.Tables.{at, frozen}
use Rattle.laws.proofs.MarkLaws.{frozen_none}
use Rattle.laws.proofs.TableLaws.{row_fits}
use Rattle.products.specs.Scan.{left_all, next_inside}
use Rattle.products.specs.ProductLaws.{combined_less, combined_over, level_products, products_small}
use Rattle.step.proofs.Totals.{total_fits, totals_row}
use Rattle.products.specs.Totals.{totals_less}
use Rattle.step.proofs.Pushed.{raise_row, none_pushed}
use Rattle.step.proofs.children.push.Goals as goal
use Rattle.step.proofs.children.push.Goals.{After-push_others-height, Else-made-eq0}

-- the parent's tuple
abbrev x : List ℕ → (q level : ℕ) → ℕ → ℕ
x stack q level = at stack (q + 1) level

module _ (e : Else-made-eq0) where
  some : 0 < e.args.made
  some = omega (arith, e.if-made-eq0.false)

  first_inside : count_trailing_zeros 32 e.args.made < e.args.q
  first_inside = next_inside (left_all _ _ e.requires.made_bound.1) e.requires.parent.0.few some

-- the row of the parent lies in the table
module _ (w : After-push_others-height) where
  level_low : w.args.level < w.args.q
  level_low = omega (arith, w.push_others-height.ensures.above, w.push_others-height.ensures.height, w.requires.made_bound.0)

  row_room : w.args.level * (w.args.q + 1) + (w.args.q + 1) ≤ length w.push_others-height.new.stack
  row_room = omega (arith, row_fits (w.args.q + 1) _ _ level_low, w.requires.parent.0.long, w.push_others-height.auto.stack)

  component : get_or w.push_others-height.new.stack (w.args.level * (w.args.q + 1) + count_trailing_zeros 32 w.args.made) 0
      ≡ x w.args.stack.now w.args.q w.args.level (count_trailing_zeros 32 w.args.made)
  component = w.push_others-height.ensures.row.tuple _
      (next_inside (left_all _ _ w.requires.made_bound.1) w.requires.parent.0.few (omega (arith, w.if-made-eq0.false)))

-- the parent's sum
sum_is : (w : After-push_others-height) → get_or w.push_others-height.new.sums w.args.level 0
    ≡ total (x w.args.stack.now w.args.q w.args.level) w.args.q
sum_is w = let o = w.push_others-height.ensures in o.summed.levels _ o.above ∙ total_same _ _ w.args.q o.row.tuple

pub returns-then-made-eq0 : goal.returns-then-made-eq0
returns-then-made-eq0 c =
    let none : (j : ℕ) → 0 ≤ j → j < c.args.q → frozen c.args.made j ≡ false = λ j _ _. rw c.if-made-eq0.true (is_false (frozen 0 j) (frozen_none j)) in
    let (a, b) = none_pushed c.args.q c.args.stack.now c.args.level (x c.args.stack.now c.args.q c.args.level) c.args.marks (frozen c.args.made) none in
    record {
      value = a;
      stack_after = b;
      combined = combined_less c.requires.parent.0.cached (omega arith);
      totals = totals_less c.requires.parent.0.summed (omega arith);
    }

pub overflow_cast-first : goal.overflow_cast-first
overflow_cast-first c = omega (arith, first_inside c, c.requires.parent.0.few)

pub push_others-height-requires : goal.push_others-height-requires
push_others-height-requires c =
    record {
      parent = c.requires.parent;
      made_bound = (c.requires.made_bound.0, c.requires.made_bound.1, some (goal.at.push_others-height-requires c).Else-made-eq0, refl);
    }

pub offset_bounds-sums-level : goal.offset_bounds-sums-level
offset_bounds-sums-level c =
    omega (arith, level_low (goal.at.offset_bounds-sums-level c).After-push_others-height, c.requires.parent.0.few)

pub bounds-sums-level : goal.bounds-sums-level
bounds-sums-level c =
    omega (arith, level_low (goal.at.bounds-sums-level c).After-push_others-height, c.requires.parent.0.few)

pub overflow_add-sums : goal.overflow_add-sums
overflow_add-sums c =
    omega (arith, sum_is (goal.at.overflow_add-sums c).After-push_others-height, total_fits c.requires.parent.0.few c.requires.parent.0.small)

pub bounds-sums-level-2 : goal.bounds-sums-level-2
bounds-sums-level-2 c =
    omega (arith, level_low (goal.at.bounds-sums-level-2 c).After-push_others-height, c.requires.parent.0.few)

pub overflow_mul-stack : goal.overflow_mul-stack
overflow_mul-stack c = omega (arith, row_room (goal.at.overflow_mul-stack c).After-push_others-height)

pub overflow_add-stack-2 : goal.overflow_add-stack-2
overflow_add-stack-2 c =
    omega (arith, row_room (goal.at.overflow_add-stack-2 c).After-push_others-height, first_inside (goal.at.overflow_add-stack-2 c).Else-made-eq0)

pub offset_bounds-stack-level : goal.offset_bounds-stack-level
offset_bounds-stack-level c =
    omega (arith, row_room (goal.at.offset_bounds-stack-level c).After-push_others-height, first_inside (goal.at.offset_bounds-stack-level c).Else-made-eq0)

pub bounds-stack-level : goal.bounds-stack-level
bounds-stack-level c =
    omega (arith, row_room (goal.at.bounds-stack-level c).After-push_others-height, first_inside (goal.at.bounds-stack-level c).Else-made-eq0)

pub overflow_add-stack-3 : goal.overflow_add-stack-3
overflow_add-stack-3 c =
    omega (
      arith,
      component (goal.at.overflow_add-stack-3 c).After-push_others-height,
      c.requires.parent.0.small.at_most (count_trailing_zeros 32 c.args.made)
          (first_inside (goal.at.overflow_add-stack-3 c).Else-made-eq0),
    )

pub bounds-stack-level-2 : goal.bounds-stack-level-2
bounds-stack-level-2 c =
    omega (arith, row_room (goal.at.bounds-stack-level-2 c).After-push_others-height, first_inside (goal.at.bounds-stack-level-2 c).Else-made-eq0)

pub write_child-requires : goal.write_child-requires
write_child-requires c =
    let o = c.push_others-height.ensures in
    record {
      size = o.cached.size;
      below = omega arith;
      level = omega (arith, level_low (goal.at.write_child-requires c).After-push_others-height, c.requires.parent.0.few);
      unknown = first_inside (goal.at.write_child-requires c).Else-made-eq0;
      gram_small = c.requires.parent.0.gram;
      parent_small = products_small c.requires.parent.0.gram c.requires.parent.0.small.at_most (level_products o.cached o.above o.row.tuple);
    }

pub returns : goal.returns
returns c =
    let o = c.push_others-height.ensures in
    let inside = first_inside (goal.at.returns c).Else-made-eq0 in
    let raised = ap (λ y. set c.push_others-height.new.stack (c.args.level * (c.args.q + 1) + count_trailing_zeros 32 c.args.made) (y + 1))
    (component (goal.at.returns c).After-push_others-height)
    ∙ raise_row c.args.q c.push_others-height.new.stack c.args.level (x c.args.stack.now c.args.q c.args.level) c.args.marks _ o.row inside in record {
      value = o.height;
      stack_after = raised ∙ o.rows;
      combined = rw raised (combined_over (level_products o.cached o.above o.row.tuple) o.above _ inside c.args.marks c.requires.parent.0.few
          (row_room (goal.at.returns c).After-push_others-height)
          o.cached c.write_child.ensures);
      totals = rw raised (totals_row (x c.args.stack.now c.args.q c.args.level) (λ k kh ne. kh)
          (omega (arith, level_low (goal.at.returns c).After-push_others-height, c.requires.parent.0.few)) _ inside c.args.marks
          (row_room (goal.at.returns c).After-push_others-height) (sum_is (goal.at.returns c).After-push_others-height) o.summed);
    }
