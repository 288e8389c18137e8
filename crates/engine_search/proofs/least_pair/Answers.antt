-- `least_pair` meets its contract: the least of the rows passed, and for the next row a pointer that has not fallen too far. Assumes nothing.
use mathlib.Core.Path.{◌≡◌}
use Prim.Native.Nat.{◌+◌, ◌-◌, ◌≤◌}
use native.Mathlib.Omega.{arith}
use borrow.Author.Rules.{rules, sfits_of}
use mir.Facts.{to_z-of_z}
use mir.Syntax.{w64}
use Rattle.engine_search.specs.Falls.{falling_next, falling_start, low_start}
use Rattle.engine_search.specs.Firsts.{least_start, told, untold}
use Rattle.engine_search.specs.Leasts.{best_more, best_same, fallen_falling, row_least, row_least_none, skipped_least}
use Rattle.engine_search.specs.Places.{Falling, degree_of, value_of}
use Rattle.engine_search.specs.Rows.{is_above}
use Rattle.engine_search.proofs.least_pair.Goals as goal
use Rattle.engine_search.proofs.least_pair.Goals.{After-fall-edge, in-Some, in_default}

-- a turn whose row has a value above 0
module _ (f : After-fall-edge) where
  above : is_above f.args.values.now f.loop-h.h
  above =
      let known = to_z-of_z {w = w64} {z = value_of f.args.values.now f.loop-h.h} (sfits_of f.is_above-arg-1.given) in
      rw known at (told f.is_above.ensures (f.if-not-is_above.false))

  sum : f.missing.result ≡ f.args.d + 1 - degree_of f.args.degrees.now f.loop-h.h
  sum = omega (arith, f.wide-x.ensures, f.missing.ensures)

  fallen : f.fall-edge.result.first ≤ f.args.n
  fallen = omega (arith, f.fall-edge.ensures.back.late.fallen, f.loop-h.invariant.2)

  falling : Falling f.args.n f.args.degrees.now (f.args.d + 1) (f.loop-h.h + 1) f.fall-edge.result.first
  falling =
      falling_next f.requires
      (fallen_falling f.requires f.args.d f.loop-h-test.true sum f.loop-h.invariant.1 f.fall-edge.ensures.back fallen)

pub loop-h-init : goal.loop-h-init
loop-h-init c = (least_start _ _, falling_start _ _ _ _, search rules, low_start _ _)

pub loop-h-preserved-then-not-is_above : goal.loop-h-preserved-then-not-is_above
loop-h-preserved-then-not-is_above c =
    let known = to_z-of_z {w = w64} {z = value_of c.args.values.now c.loop-h.h} (sfits_of c.is_above-arg-1.given) in
    let not-above = rw known at (untold c.is_above.ensures (c.if-not-is_above.true)) in (
      best_same c.args.n c.args.values.now c.args.degrees.now c.args.d c.loop-h.h c.loop-h.best
          (skipped_least _ c.args.values.now c.args.degrees.now _ _ not-above) c.loop-h.invariant.0,
      falling_next c.requires c.loop-h.invariant.1,
      c.loop-h.invariant.2,
      c.loop-h.invariant.3,
    )

pub loop-h-preserved : goal.loop-h-preserved
loop-h-preserved c =
    let f = (goal.at.loop-h-preserved c).After-fall-edge in (
      elim c.match-edge.branch [
        | in-Some w ↦
            let low = rw w.in-Some.is at f.fall-edge.ensures.lowest in
            let least = row_least c.requires c.args.d c.loop-h-test.true (sum f) c.loop-h.invariant.1 f.fall-edge.ensures.back (fallen f) (above f) w.in-Some.k
            low.0 low.1 low.2 low.3 in
            rw w.best-is (best_more c.args.n c.args.values.now c.args.degrees.now c.args.d c.loop-h.h c.loop-h.best w.lesser-best.result
            (c.wide-x.result + w.wide.result) (rw (← w.wide.ensures, ← c.wide-x.ensures) at least) c.loop-h.invariant.0 w.lesser-best.ensures)
        | in_default w ↦
            let low = rw w.in_default.is at f.fall-edge.ensures.lowest in
            rw w.best-is (best_same c.args.n c.args.values.now c.args.degrees.now c.args.d c.loop-h.h c.loop-h.best
            (row_least_none c.requires c.args.d c.loop-h-test.true (sum f) c.loop-h.invariant.1 f.fall-edge.ensures.back (fallen f) low) c.loop-h.invariant.0)
      ],
      falling f,
      fallen f,
      f.fall-edge.ensures.lowest,
    )
