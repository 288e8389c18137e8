-- `append` meets its contract. Assumes nothing.
use mathlib.Core.Path.{◌≡◌, ◌∙◌}
use Prim.Native.Nat.{ℕ, ◌+◌, ◌-◌, ◌<◌}
use native.Mathlib.Omega.{arith}
use lib.ListN.{length, get_or, take, drop, length-take, length-drop}
use lib.Seq.{get_or-take, get_or-drop}
use Rattle.laws.proofs.TableLaws.{write_same}
use Rattle.table_rows.proofs.RowsTheorems.{room_fits}
use Rattle.step.proofs.Enlisting.{appended_none, appended_next}
use Rattle.step.proofs.append.Goals as goal
use Rattle.step.proofs.append.Goals.{Start}

-- the part of the tuple that is written
part_is : (s : Start) (j : ℕ) → j < s.args.w
    → get_or (take (length s.args.t.now - s.args.from) (drop s.args.from s.args.t.now)) j 0 ≡ get_or s.args.t.now (s.args.from + j) 0
part_is s j l =
    get_or-take (length s.args.t.now - s.args.from) (drop s.args.from s.args.t.now) j 0 (omega (arith, s.requires.1))
    ∙ get_or-drop s.args.from s.args.t.now j 0

pub returns-then-list-w : goal.returns-then-list-w
returns-then-list-w c = appended_none _ _ _ _ _ c.if-list-w.true

pub overflow_mul-found : goal.overflow_mul-found
overflow_mul-found c = omega (arith, room_fits _ _ _ c.if-list-w.false)

pub slice_bounds-write-count : goal.slice_bounds-write-count
slice_bounds-write-count c = omega (arith, c.requires.1)

pub slice_bounds-write-start : goal.slice_bounds-write-start
slice_bounds-write-start c = omega (arith, c.requires.1)

pub write-requires : goal.write-requires
write-requires c =
    (simp (length-take, length-drop) (omega (arith, c.requires.1)), omega (arith, room_fits _ _ _ c.if-list-w.false))

pub returns : goal.returns
returns c =
    appended_next _ _ _ _ _ c.if-list-w.false (c.write.ensures ∙ write_same c.args.w _ _ (part_is (goal.at.returns c).Start))
