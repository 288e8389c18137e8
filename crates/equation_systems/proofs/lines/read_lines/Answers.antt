-- `equation_systems::lines::read_lines` meets its contract. The lines that are left, after the rows in the tables, come to the same as all of them.
-- Assumes nothing.
use Rattle.std.proofs.Common.{◌+◌, ◌*◌, ◌≤◌, ◌<◌, refl, ◌∙◌, length, take, arith}
use Rattle.std.proofs.Math.Nat.{zero-mul, sub-zero}
use Rattle.equation_systems.specs.RowLaws.{row_inside, lines_unended, lines_refused, lines_read, lines_end}
use Rattle.equation_systems.proofs.lines.read_lines.Goals as goal
use Rattle.equation_systems.proofs.lines.read_lines.Goals.{In-loop-i}

-- there is room for the line
fits_in : (c : In-loop-i) → (c.loop-i.i * c.args.q + c.args.q ≤ length c.loop-i.coefs) × (c.loop-i.i < length c.loop-i.rights)
fits_in c =
    let l = c.loop-i in (
      rw l.invariant.coefs (row_inside l.i c.requires c.loop-i-test.true),
      omega (arith, l.invariant.rights, c.requires.sides, c.requires.equations, c.loop-i-test.true),
    )

pub loop-i-init : goal.loop-i-init
loop-i-init c = record { coefs = refl; rights = refl; inside = omega arith; reads = rw (zero-mul, sub-zero) }

pub returns-then-text-end : goal.returns-then-text-end
returns-then-text-end c =
    let l = c.loop-i in
    lines_unended c.args.p c.args.q l.i (take (l.i * c.args.q) l.coefs) (take l.i l.rights) c.args.text.now l.at
    c.line_end-end.result c.loop-i-test.true l.invariant.inside c.line_end-end.ensures.0 c.if-text-end.true ∙ l.invariant.reads

pub read_row-requires : goal.read_row-requires
read_row-requires c = fits_in (goal.at.read_row-requires c).In-loop-i

pub returns-in-Err : goal.returns-in-Err
returns-in-Err c =
    let l = c.loop-i in
    lines_refused c.args.p c.args.q l.i (take (l.i * c.args.q) l.coefs) (take l.i l.rights) c.args.text.now l.at
    c.line_end-end.result c.loop-i-test.true l.invariant.inside c.line_end-end.ensures.0 c.if-text-end.false c.in-Err.ensures ∙ l.invariant.reads

pub loop-i-preserved : goal.loop-i-preserved
loop-i-preserved c =
    let l = c.loop-i in record {
      coefs = c.read_row.auto.coefs ∙ l.invariant.coefs;
      rights = c.read_row.auto.rights ∙ l.invariant.rights;
      inside = omega (arith, c.if-text-end.false);
      reads = lines_read c.args.p c.args.q l.i (take (l.i * c.args.q) l.coefs) (take l.i l.rights) c.args.text.now l.at
          c.line_end-end.result c.loop-i-test.true l.invariant.inside c.line_end-end.ensures.0 _ _ c.if-text-end.false
          c.in_default.ensures ∙ l.invariant.reads;
    }

pub returns : goal.returns
returns c =
    let l = c.loop-i in
    lines_end c.args.p c.args.q l.i l.coefs l.rights _ l.auto.i-end c.loop-i-test.false ∙ l.invariant.reads
