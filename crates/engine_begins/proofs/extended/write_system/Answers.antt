-- `extended::write_system` meets its contract: the rows passed have been written. Assumes nothing.
use Prim.Native.Nat.{◌+◌, ◌*◌}
use mathlib.Core.Path.{◌≡◌}
use native.Mathlib.Omega.{arith}
use borrow.Author.Rules.{rules}
use lib.IntN.{pos}
use lib.ListN.{get_or}
use mir.Facts.{to_z-of_z}
use mir.Syntax.{w32}
use mir.Val.{SFits}
use Rattle.engine_spec.specs.StartSides.{side_at}
use Rattle.engine_checks.specs.Operating.{read64}
use Rattle.engine_checks.specs.Sides.{side_read}
use Rattle.engine_begins.specs.Extended.{opposite_read, row_is, row_more}
use Rattle.engine_begins.specs.Writing.{fill_none}
use Rattle.engine_begins.proofs.extended.write_system.Goals as goal
use Rattle.engine_begins.proofs.extended.write_system.Goals.{After-side_at-side}

-- the side is what the definition says
read : (c : After-side_at-side)
    → let s = c.args in
    read64 c.side_at-side.result ≡ side_at s.q s.coefs.now s.rights.now s.lower.now c.loop-i.i
read c =
    let i = c.loop-i.i in
    let f : SFits w32 (get_or c.args.rights.now i (pos 0)) = search rules in
    side_read i (c.requires.small i c.loop-i-test.true) c.requires.bound c.args.rights.now f (rw (to_z-of_z f) at c.side_at-side.ensures)

pub loop-i-init : goal.loop-i-init
loop-i-init c = let z : 0 * (c.args.q + 1) ≡ 0 = omega arith in rw z (fill_none _ _ _)

pub opposite-requires : goal.opposite-requires
opposite-requires c =
    rw (read (goal.at.opposite-requires c).After-side_at-side) (c.requires.within c.loop-i.i c.loop-i-test.true)

-- what the row's own contract says is one row more of the system
pub loop-i-preserved : goal.loop-i-preserved
loop-i-preserved c =
    let i = c.loop-i.i in
    let low = c.requires.within i c.loop-i-test.true in
    let side = side_at c.args.q c.args.coefs.now c.args.rights.now c.args.lower.now i in
    let first = opposite_read side low (rw (read (goal.at.loop-i-preserved c).After-side_at-side) at c.opposite.ensures) in
    row_more i c.args.q c.args.equations.now _ c.loop-i.invariant c.write_row.ensures (row_is c.requires i c.loop-i-test.true first)
