-- `c_equation::write_equation` meets its contract: each answer as its number. Assumes nothing.
use mir.Facts.{to_z-of_z}
use Rattle.c_equation.proofs.CodeLaws.{write_refusal_fits, write_short, write_refused_told, write_told_lem, side_told, space_told}
use Rattle.c_equation.proofs.write_equation.Goals as goal

pub written_code-requires : goal.written_code-requires
written_code-requires c =
    write_short c.args.q c.args.row.now c.args.right c.args.out.now c.write_equation.result _
    (rw (to_z-of_z c.ranges.right) at c.write_equation.ensures) c.in-Ok.is

pub row_refusal-requires : goal.row_refusal-requires
row_refusal-requires c =
    write_refusal_fits c.args.q c.args.row.now c.args.right c.args.out.now c.write_equation.result _
    (rw (to_z-of_z c.ranges.right) at c.write_equation.ensures) (cc (c.in-Row.is, c.in-Err.is))

pub returns-in-Ok : goal.returns-in-Ok
returns-in-Ok c =
    write_told_lem c.args.q c.args.row.now c.args.right c.args.out.now c.write_equation.result _
    (rw (to_z-of_z c.ranges.right) at c.write_equation.ensures) c.in-Ok.is c.written_code.ensures

pub returns-in-Row : goal.returns-in-Row
returns-in-Row c =
    write_refused_told c.args.q c.args.row.now c.args.right c.args.out.now c.write_equation.result _
    (rw (to_z-of_z c.ranges.right) at c.write_equation.ensures) (cc (c.in-Row.is, c.in-Err.is)) c.row_refusal.ensures

pub returns-in-RightSide : goal.returns-in-RightSide
returns-in-RightSide c =
    side_told c.args.q c.args.row.now c.args.right c.args.out.now c.write_equation.result _
    (rw (to_z-of_z c.ranges.right) at c.write_equation.ensures) (cc (c.in-RightSide.is, c.in-Err.is))

pub returns-in-Space : goal.returns-in-Space
returns-in-Space c =
    space_told c.args.q c.args.row.now c.args.right c.args.out.now c.write_equation.result _
    (rw (to_z-of_z c.ranges.right) at c.write_equation.ensures) (cc (c.in-Space.is, c.in-Err.is))
