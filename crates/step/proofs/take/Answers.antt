-- `take` meets its contract: each way out is one of `TakeLaws`. Assumes nothing.
use mathlib.Core.Path.{◌≡◌, refl, sym, ◌∙◌}
use mathlib.Core.Bool.{false}
use mathlib.Core.List.{List, ◌++◌}
use Prim.Native.Nat.{ℕ, ◌+◌, ◌*◌, ◌-◌, ◌≤◌}
use native.Mathlib.Omega.{arith}
use lib.ListN.{length, take, drop, length-take, length-drop}
use Rattle.linear.specs.Tests.{all_to}
use Rattle.calls.proofs.CallLaws.{handed_on}
use Rattle.definitions.specs.System.{is_zero}
use Rattle.definitions.specs.Tables.{State}
use Rattle.table_rows.specs.Rows.{Holds, tuple}
use Rattle.table_rows.proofs.RowsTheorems.{part_holds}
use Rattle.products.specs.Products.{entry}
use Rattle.candidates.specs.Grow.{child_for}
use Rattle.candidates.specs.Kinds.{asked, kind_by}
use Rattle.candidates.specs.Tried.{large_tried, made_tried, tried_same, tried_by}
use Rattle.step.proofs.TakeLaws.{child_asked, enlisted_asked, made_below, made_few, part_back, second_asked, taken_grown, taken_large, taken_none}
use Rattle.step.proofs.TakeLaws.{taken_solution, top_fits, top_inside, top_limited, top_parent, top_within}
use Rattle.step.proofs.take.Goals as goal
use Rattle.step.proofs.take.Goals.{After-admitted, After-candidate_marks-left, Start}

-- where the top's row begins, and the stack from a place on
abbrev base : (height q : ℕ) → ℕ
base height q = (height - 1) * (q + 1)

abbrev row : List ℕ → ℕ → List ℕ
row stack from = take (length stack - from) (drop from stack)

module _ (s : Start) where
  fits : base s.args.height s.args.q + (s.args.q + 1) ≤ length s.args.stack.now
  fits = top_fits s.requires.standing

  held : Holds s.args.q (row s.args.stack.now (base s.args.height s.args.q)) s.args.stack.now (base s.args.height s.args.q)
  held = part_holds s.args.q s.args.stack.now (base s.args.height s.args.q) (omega (arith, fits))

  long : s.args.q ≤ length (row s.args.stack.now (base s.args.height s.args.q))
  long = simp (length-take, length-drop) (omega (arith, fits))

-- what is known where the top is no solution
module _ (d : After-candidate_marks-left) where
  no : all_to d.args.q (λ j. is_zero (entry d.args.inner.now (d.args.height - 1) j)) ≡ false
  no = sym d.vanish.ensures ∙ d.if-vanish.false

-- and its children have been tried
module _ (x : After-admitted) where
  abbrev there : ℕ
  there = base x.args.height x.args.q

  abbrev state : State
  state = asked x.args.stack.now x.args.list.now x.args.second.now x.args.height x.args.found x.args.other

  back : take there x.args.stack.now ++ (x.admitted.new.t ++ drop (length x.args.stack.now - there) (drop there x.args.stack.now)) ≡ x.args.stack.now
  back = part_back x.args.stack.now there (length x.args.stack.now - there) x.admitted.ensures.t_unchanged

  tried_asked : x.admitted.result ≡ tried_by x.args.limit x.args.q
      (child_for (kind_by x.args.kind) x.args.q state (tuple (row x.args.stack.now there)) x.candidate_marks-left.result)
      (tuple (row x.args.stack.now there))
  tried_asked =
      x.admitted.ensures.value ∙ tried_same x.args.limit x.args.q _ _ _
      (λ j l. child_asked (kind_by x.args.kind) x.args.q x.args.list.now x.args.second.now x.args.found x.args.other _ _ x.args.stack.now x.args.height j)

pub overflow_mul-base : goal.overflow_mul-base
overflow_mul-base c = omega (arith, fits (goal.at.overflow_mul-base c).Start)

pub read-requires : goal.read-requires
read-requires c =
    omega (arith, fits (goal.at.read-requires c).Start, c.requires.bounds.1)

pub enlist-requires : goal.enlist-requires
enlist-requires c = (c.requires.standing.wide, omega (arith, c.requires.bounds.1, c.read.auto.t))

pub returns-then-vanish : goal.returns-then-vanish
returns-then-vanish c =
    taken_solution c.requires.standing c.read.ensures (sym c.vanish.ensures ∙ c.if-vanish.true)
    (enlisted_asked (kind_by c.args.kind) c.args.q c.args.stack.now c.args.height c.enlist.ensures)

pub overflow_add-marks : goal.overflow_add-marks
overflow_add-marks c = omega (arith, fits (goal.at.overflow_add-marks c).Start)

pub offset_bounds-stack-base : goal.offset_bounds-stack-base
offset_bounds-stack-base c = omega (arith, fits (goal.at.offset_bounds-stack-base c).Start)

pub bounds-stack-base : goal.bounds-stack-base
bounds-stack-base c = omega (arith, fits (goal.at.bounds-stack-base c).Start)

pub returns-then-left-eq0 : goal.returns-then-left-eq0
returns-then-left-eq0 c =
    taken_none c.requires.standing (no (goal.at.returns-then-left-eq0 c).After-candidate_marks-left) refl
    (rw c.if-left-eq0.true at c.candidate_marks-left.ensures)

pub offset_bounds-stack-base-2 : goal.offset_bounds-stack-base-2
offset_bounds-stack-base-2 c = omega (arith, fits (goal.at.offset_bounds-stack-base-2 c).Start)

pub slice_bounds-admitted-count : goal.slice_bounds-admitted-count
slice_bounds-admitted-count c = omega (arith, fits (goal.at.slice_bounds-admitted-count c).Start)

pub slice_bounds-admitted-start : goal.slice_bounds-admitted-start
slice_bounds-admitted-start c = omega (arith, fits (goal.at.slice_bounds-admitted-start c).Start)

pub admitted-requires : goal.admitted-requires
admitted-requires c =
    let v = c.requires.standing in record {
      q_nonzero = ((v.wide, v.few, v.listed), c.requires.bounds.0);
      second_fits = (
        second_asked (kind_by c.args.kind) c.args.q
            (asked c.args.stack.now c.args.list.now c.args.second.now c.args.height c.args.found c.args.other) v.listed₂,
        long
            (goal.at.admitted-requires c).Start,
        c.candidate_marks-left.ensures.below,
      );
      limited = (
        top_limited v (held (goal.at.admitted-requires c).Start),
        top_within v (held (goal.at.admitted-requires c).Start),
        top_inside v
            (held (goal.at.admitted-requires c).Start),
      );
    }

pub push-requires : goal.push-requires
push-requires c =
    let made = (made_tried _ _ _ _ (sym c.in_ok-made.was ∙ tried_asked (goal.at.push-requires c).After-admitted)).1 in
    record {
      parent = rw (back (goal.at.push-requires c).After-admitted)
          ((
            top_parent c.requires.standing (held (goal.at.push-requires c).Start) (no (goal.at.push-requires c).After-candidate_marks-left) refl
                c.candidate_marks-left.ensures made,
            c.requires.bounds.1,
          ));
      made_bound = (
        made_few c.requires.standing (held (goal.at.push-requires c).Start) (no (goal.at.push-requires c).After-candidate_marks-left) refl
            c.candidate_marks-left.ensures made,
        made_below c.requires.standing (held (goal.at.push-requires c).Start) (no (goal.at.push-requires c).After-candidate_marks-left) refl
            c.candidate_marks-left.ensures made,
      );
    }

pub returns-in_err-made : goal.returns-in_err-made
returns-in_err-made c =
    let (large, is) = large_tried _ _ _ _ (sym c.in_err-made.was ∙ tried_asked (goal.at.returns-in_err-made c).After-admitted) in
    rw (back (goal.at.returns-in_err-made c).After-admitted, handed_on c.from_residual.ensures, is)
    (taken_large c.requires.standing (held (goal.at.returns-in_err-made c).Start) (no (goal.at.returns-in_err-made c).After-candidate_marks-left) refl
    c.candidate_marks-left.ensures refl large)

pub returns : goal.returns
returns c =
    let (none, made) = made_tried _ _ _ _ (sym c.in_ok-made.was ∙ tried_asked (goal.at.returns c).After-admitted) in
    let grown = rw (back (goal.at.returns c).After-admitted) at c.push.ensures.stack_after in
    taken_grown c.requires.standing (held (goal.at.returns c).Start) (no (goal.at.returns c).After-candidate_marks-left) refl
    c.candidate_marks-left.ensures made none c.push.ensures.value grown c.push.ensures.combined
    c.push.ensures.totals
