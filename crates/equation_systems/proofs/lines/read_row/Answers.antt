-- `equation_systems::lines::read_row` meets its contract: the equation is read into the row's own part of the table. Assumes nothing.
use Rattle.std.proofs.Common.{◌+◌, ◌*◌, ◌-◌, List, ℤ, length, take, drop, w32, arith, to_z-of_z}
use Rattle.linear.proofs.Integers.{sfits_nat_abs}
use Rattle.calls.proofs.CallLaws.{handed_on}
use Rattle.equation_read.specs.AnsweredLaws.{side_small}
use Rattle.equation_systems.specs.RowLaws.{part_whole, row_refused, row_read}
use Rattle.equation_systems.proofs.lines.read_row.Goals as goal
use Rattle.equation_systems.proofs.lines.read_row.Goals.{Start}

-- the row's part of the table
abbrev part : Start → List ℤ
part s = take (s.args.i * s.args.q + s.args.q - s.args.i * s.args.q) (drop (s.args.i * s.args.q) s.args.coefs.now)

pub returns-in_err-rights : goal.returns-in_err-rights
returns-in_err-rights c =
    rw (handed_on c.from_residual.ensures)
    (row_refused c.args.q (c.args.i + 1) (take (c.args.i * c.args.q) c.args.coefs.now) (take c.args.i c.args.rights.now)
    c.args.line.now (part (goal.at.returns-in_err-rights c).Start) (part_whole (c.args.i * c.args.q) c.args.q c.args.coefs.now c.requires.0)
    c.in_err-rights.ensures)

pub returns : goal.returns
returns c =
    let e = c.in_ok-rights.ensures in
    let l = side_small c.args.q (length (part (goal.at.returns c).Start)) c.args.line.now (part (goal.at.returns c).Start) e in
    rw (to_z-of_z {w = w32} {z = c.in_ok-rights.field-0} (sfits_nat_abs (omega (arith, l))))
    (row_read c.args.q c.args.i (c.args.i + 1) c.args.coefs.now c.args.rights.now c.args.line.now (part (goal.at.returns c).Start) _ _
    c.in_ok-rights.field-0 c.requires.0 c.requires.1 (part_whole (c.args.i * c.args.q) c.args.q c.args.coefs.now c.requires.0)
    c.read_equation.auto.row e)
