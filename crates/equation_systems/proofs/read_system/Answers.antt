-- `equation_systems::read_system` meets its contract. Assumes nothing.
use Rattle.std.proofs.Common.{◌∙◌}
use Rattle.equation_systems.specs.CallLaws.{too_long, no_line, many_lines, no_unknown, many_unknowns, to_lines}
use Rattle.equation_systems.proofs.read_system.Goals as goal
use Rattle.equation_systems.proofs.read_system.Goals.{then-p-lt1-via-then-p-lt1, then-p-lt1-via-else-p-lt1+then-p-gt8}
use Rattle.equation_systems.proofs.read_system.Goals.{then-q-lt1-via-then-q-lt1, then-q-lt1-via-else-q-lt1+then-q-gt16}

pub returns-then-text-gt4096 : goal.returns-then-text-gt4096
returns-then-text-gt4096 c = too_long _ _ _ _ c.if-text-gt4096.true

pub returns-then-p-lt1 : goal.returns-then-p-lt1
returns-then-p-lt1 c =
    elim c.then-p-lt1.branch [
      | then-p-lt1-via-then-p-lt1 w ↦ no_line _ _ _ _ _ c.count-p.ensures c.if-text-gt4096.false w.if-p-lt1.true
      | then-p-lt1-via-else-p-lt1+then-p-gt8 w ↦ many_lines _ _ _ _ _ c.count-p.ensures c.if-text-gt4096.false w.if-p-lt1.false w.if-p-gt8.true
    ]

pub returns-then-q-lt1 : goal.returns-then-q-lt1
returns-then-q-lt1 c =
    elim c.then-q-lt1.branch [
      | then-q-lt1-via-then-q-lt1 w ↦ no_unknown _ _ _ _ _ c.count-p.ensures c.if-text-gt4096.false c.if-p-lt1.false c.if-p-gt8.false w.if-q-lt1.true
      | then-q-lt1-via-else-q-lt1+then-q-gt16 w ↦
          many_unknowns _ _ _ _ _ c.count-p.ensures c.if-text-gt4096.false c.if-p-lt1.false c.if-p-gt8.false w.if-q-lt1.false w.if-q-gt16.true
    ]

pub returns : goal.returns
returns c =
    c.read_equations.ensures
    ∙ to_lines _ _ _ _ _ c.count-p.ensures c.if-text-gt4096.false c.if-p-lt1.false c.if-p-gt8.false c.if-q-lt1.false c.if-q-gt16.false
