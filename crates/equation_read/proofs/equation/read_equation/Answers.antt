-- `equation_read::equation::read_equation` meets its contract. Assumes nothing.
use Rattle.std.proofs.Common.{◌∙◌, length}
use Rattle.equation_read.specs.EquationLaws.{too_long, no_unknown, many_unknowns, other_row, at_fault, to_tree}
use Rattle.equation_read.proofs.equation.read_equation.Goals as goal
use Rattle.equation_read.proofs.equation.read_equation.Goals.{then-q-lt1-via-then-q-lt1, then-q-lt1-via-else-q-lt1+then-q-gt16}

pub returns-then-text-gt4096 : goal.returns-then-text-gt4096
returns-then-text-gt4096 c = too_long _ _ _ _ c.if-text-gt4096.true

pub returns-then-q-lt1 : goal.returns-then-q-lt1
returns-then-q-lt1 c =
    elim c.then-q-lt1.branch [
      | then-q-lt1-via-then-q-lt1 w ↦ no_unknown _ _ _ _ c.if-text-gt4096.false w.if-q-lt1.true
      | then-q-lt1-via-else-q-lt1+then-q-gt16 w ↦ many_unknowns _ _ _ _ c.if-text-gt4096.false w.if-q-lt1.false w.if-q-gt16.true
    ]

pub returns-then-row-q : goal.returns-then-row-q
returns-then-row-q c = other_row _ _ _ _ c.if-text-gt4096.false c.if-q-lt1.false c.if-q-gt16.false c.if-row-q.true

pub returns-in-Some : goal.returns-in-Some
returns-in-Some c =
    let (e, some) = c.in-Some.ensures in
    rw (← e) (at_fault c.args.q (length c.args.row.now) c.args.text.now c.args.row.now c.if-text-gt4096.false c.if-q-lt1.false c.if-q-gt16.false
    c.if-row-q.false (rw (← e) at some))

pub returns : goal.returns
returns c =
    c.read_sides.ensures
    ∙ to_tree c.args.q (length c.args.row.now) c.args.text.now c.args.row.now c.if-text-gt4096.false c.if-q-lt1.false c.if-q-gt16.false c.if-row-q.false
