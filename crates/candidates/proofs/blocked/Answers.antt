-- `blocked` meets its contract: the array that is tested holds the raised tuple. Assumes nothing.
use mathlib.Core.Path.{◌≡◌, ◌∙◌}
use mathlib.Core.List.{List}
use Prim.Native.Nat.{ℕ, ◌+◌, ◌-◌, ◌<◌}
use native.Mathlib.Omega.{arith}
use lib.ListN.{length, get_or, set, take, drop, length-set, length-take, length-drop}
use lib.Seq.{get_or-take, get_or-drop, get_or-set_same}
use Rattle.linear.specs.Tuples.{raise}
use Rattle.laws.proofs.SystemLaws.{covered_same}
use Rattle.table_rows.specs.Rows.{tuple}
use Rattle.candidates.specs.RowLaws.{raise_lower, set_raise}
use Rattle.candidates.proofs.blocked.Goals as goal
use Rattle.candidates.proofs.blocked.Goals.{Start}

-- the array while it holds the raised tuple
module _ (s : Start) where
  abbrev raised : List ℕ
  raised = set s.args.t.now s.args.i (tuple s.args.t.now s.args.i + 1)

  raised_long : length raised ≡ length s.args.t.now
  raised_long = length-set s.args.t.now s.args.i (tuple s.args.t.now s.args.i + 1)

  part_raised : (j : ℕ) → j < s.args.w
      → get_or (take (length raised - s.args.from) (drop s.args.from raised)) j 0 ≡ raise (tuple s.args.t.now) s.args.i (s.args.from + j)
  part_raised j l =
      get_or-take (length raised - s.args.from) (drop s.args.from raised) j 0 (omega (arith, raised_long, s.requires.2))
      ∙ get_or-drop s.args.from raised j 0
      ∙ set_raise s.args.t.now s.args.i s.requires.0 (s.args.from + j)

pub slice_bounds-covered-count : goal.slice_bounds-covered-count
slice_bounds-covered-count c = omega (arith, raised_long (goal.at.slice_bounds-covered-count c).Start, c.requires.2)

pub slice_bounds-covered-start : goal.slice_bounds-covered-start
slice_bounds-covered-start c = omega (arith, raised_long (goal.at.slice_bounds-covered-start c).Start, c.requires.2)

pub covered-r-requires : goal.covered-r-requires
covered-r-requires c =
    (c.requires.1, simp (length-take, length-drop) (omega (arith, raised_long (goal.at.covered-r-requires c).Start, c.requires.2)), c.requires.3)

pub bounds-t-i-3 : goal.bounds-t-i-3
bounds-t-i-3 c = omega (arith, raised_long (goal.at.bounds-t-i-3 c).Start, c.requires.0)

pub overflow_sub-t : goal.overflow_sub-t
overflow_sub-t c =
    omega (arith, get_or-set_same c.args.t.now c.args.i (tuple c.args.t.now c.args.i + 1) 0 c.requires.0)

pub bounds-t-i-4 : goal.bounds-t-i-4
bounds-t-i-4 c = omega (arith, raised_long (goal.at.bounds-t-i-4 c).Start, c.requires.0)

pub shape_of-t : goal.shape_of-t
shape_of-t c = simp length-set

pub returns : goal.returns
returns c =
    record {
      value = c.covered-r.ensures ∙ covered_same c.args.w c.args.found _ (part_raised (goal.at.returns c).Start);
      t_unchanged = raise_lower c.args.t.now c.args.i c.requires.0;
    }
