-- `next_pair` meets its contract: the rows passed have no pair that is left, and for the next one the pointer has not fallen too far. Assumes nothing.
use mathlib.Core.Path.{◌≡◌}
use Prim.Native.Nat.{◌+◌, ◌-◌, ◌≤◌}
use native.Mathlib.Omega.{arith}
use borrow.Author.Rules.{sfits_of}
use mir.Facts.{to_z-of_z}
use mir.Syntax.{w64}
use Rattle.engine_search.specs.Falls.{falling_back, falling_next}
use Rattle.engine_search.specs.Firsts.{told, untold}
use Rattle.engine_search.specs.Places.{degree_of, value_of}
use Rattle.engine_search.specs.Rows.{is_above, row_found, row_passed, searched_end, searched_past, searched_skip}
use Rattle.engine_search.proofs.next_pair.Goals as goal
use Rattle.engine_search.proofs.next_pair.Goals.{After-next_below}

-- a turn whose row has a value above 0
module _ (b : After-next_below) where
  above : is_above b.args.values.now b.loop-upper.upper
  above =
      let known = to_z-of_z {w = w64} {z = value_of b.args.values.now b.loop-upper.upper} (sfits_of b.is_above-arg-1.given) in
      rw known at (told b.is_above.ensures (b.if-not-is_above.false))

  sum : degree_of b.args.degrees.now b.loop-upper.upper + (b.args.d - b.wide-x.result) ≡ b.args.d
  sum = omega (arith, b.wide-x.ensures, b.if-d-x.false)

  fallen : b.back-first.result ≤ b.args.n
  fallen = omega (arith, b.back-first.ensures.late.fallen, b.loop-upper.invariant.0)

pub loop-upper-preserved-then-not-is_above : goal.loop-upper-preserved-then-not-is_above
loop-upper-preserved-then-not-is_above c =
    let known = to_z-of_z {w = w64} {z = value_of c.args.values.now c.loop-upper.upper} (sfits_of c.is_above-arg-1.given) in
    let not-above = rw known at (untold c.is_above.ensures (c.if-not-is_above.true)) in
    (c.loop-upper.invariant.0, searched_skip c.loop-upper.invariant.1 not-above, falling_next c.requires.0 c.loop-upper.invariant.2)

pub returns-in-Some : goal.returns-in-Some
returns-in-Some c =
    let b = (goal.at.returns-in-Some c).After-next_below in
    let w = rw (c.in-Some.is, c.max.ensures) at c.next_below.ensures in (
      c.loop-upper-test.true,
      row_found c.loop-upper.invariant.1 c.requires.0 c.loop-upper-test.true (above b) (sum b) (fallen b) c.back-first.ensures w.4 w.1 w.0 w.2 w.3
          c.loop-upper.invariant.2,
    )

pub loop-upper-preserved : goal.loop-upper-preserved
loop-upper-preserved c =
    let b = (goal.at.loop-upper-preserved c).After-next_below in
    let w = rw (c.in_default.is, c.max.ensures) at c.next_below.ensures in (
      fallen b,
      row_passed c.loop-upper.invariant.1 c.requires.0 c.loop-upper-test.true (above b) (sum b) (fallen b) c.back-first.ensures w (omega arith),
      falling_next c.requires.0 (falling_back c.loop-upper.invariant.2 c.back-first.ensures (omega (arith, sum b))),
    )

pub returns : goal.returns
returns c = searched_end c.loop-upper.invariant.1 c.loop-upper-test.false

pub returns-then-d-x : goal.returns-then-d-x
returns-then-d-x c = searched_past c.loop-upper.invariant.1 c.requires.0 (omega (arith, c.wide-x.ensures, c.if-d-x.true))
