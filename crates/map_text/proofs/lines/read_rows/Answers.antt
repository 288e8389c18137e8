-- `map_text::lines::read_rows` meets its contract. The lines that are left, after the numbers in the table, come to the same as all of them.
-- Assumes nothing.
use Rattle.std.proofs.Common.{◌≤◌, ◌+◌, ◌*◌, ◌∙◌, length, refl, arith}
use Rattle.std.proofs.Math.Nat.{zero-mul, sub-zero}
use Rattle.map_text.proofs.LineLaws.{row_inside, rows_malformed, rows_line, rows_end, rows_extra}
use Rattle.map_text.proofs.lines.read_rows.Goals as goal
use Rattle.map_text.proofs.lines.read_rows.Goals.{In-loop-i}

-- there is room for the line
inside : (c : In-loop-i) → c.loop-i.i * c.args.q + c.args.q ≤ length c.loop-i.coefs
inside c = rw c.loop-i.invariant.same (row_inside c.loop-i.i c.requires c.loop-i-test.true)

pub loop-i-init : goal.loop-i-init
loop-i-init c = record { same = refl; reads = rw (zero-mul, sub-zero) }

pub overflow_mul-i : goal.overflow_mul-i
overflow_mul-i c = omega (arith, inside (goal.at.overflow_mul-i c).In-loop-i)

pub read_line-requires : goal.read_line-requires
read_line-requires c = inside (goal.at.read_line-requires c).In-loop-i

pub returns-in_default : goal.returns-in_default
returns-in_default c =
    let l = c.loop-i in rows_malformed _ _ l.i _ _ c.loop-i-test.true c.in_default.ensures ∙ l.invariant.reads

pub loop-i-preserved : goal.loop-i-preserved
loop-i-preserved c =
    let l = c.loop-i in record {
      same = c.read_line.auto.coefs ∙ l.invariant.same;
      reads = rows_line _ _ l.i _ _ _ c.loop-i-test.true c.in-Some.ensures ∙ l.invariant.reads;
    }

pub returns-then-next-text : goal.returns-then-next-text
returns-then-next-text c =
    let l = c.loop-i in
    rows_extra _ _ l.i _ _ _ l.auto.i-end c.loop-i-test.false c.if-next-text.true ∙ l.invariant.reads

pub returns : goal.returns
returns c =
    let l = c.loop-i in
    rows_end _ _ l.i _ _ _ l.auto.i-end c.loop-i-test.false c.if-next-text.false ∙ l.invariant.reads
