-- `map_text::read_body` meets its contract: the counts are tested in order, and are in range before the coefficients are read. Assumes nothing.
use Rattle.std.proofs.Common.{to_z-of_z}
use Rattle.definitions.specs.System.{most_equations, most_unknowns}
use Rattle.map_text.proofs.SignLaws.{within, below_one, above_most}
use Rattle.map_text.proofs.StageLaws.{counts_within}
use Rattle.map_text.proofs.AnswerLaws.{equations_outside, unknowns_outside}
use Rattle.map_text.proofs.read_body.Goals as goal
use Rattle.map_text.proofs.read_body.Goals.{then-p-lt1-via-then-p-lt1, then-p-lt1-via-else-p-lt1+then-p-gt8}
use Rattle.map_text.proofs.read_body.Goals.{then-q-lt1-via-then-q-lt1, then-q-lt1-via-else-q-lt1+then-q-gt16}

pub returns-then-p-lt1 : goal.returns-then-p-lt1
returns-then-p-lt1 c =
    let e = to_z-of_z c.ranges.p in
    equations_outside c.args.p _ _ _
    (elim c.then-p-lt1.branch [
      | then-p-lt1-via-then-p-lt1 w ↦ below_one most_equations c.args.p (rw e at w.if-p-lt1.true)
      | then-p-lt1-via-else-p-lt1+then-p-gt8 w ↦ above_most most_equations c.args.p (rw e at w.if-p-lt1.false) (rw e at w.if-p-gt8.true)
    ])

pub returns-then-q-lt1 : goal.returns-then-q-lt1
returns-then-q-lt1 c =
    let e = to_z-of_z c.ranges.p in
    let f = to_z-of_z c.ranges.q in
    unknowns_outside c.args.p c.args.q _ _ (within most_equations c.args.p (rw e at c.if-p-lt1.false) (rw e at c.if-p-gt8.false)).inside
    (elim c.then-q-lt1.branch [
      | then-q-lt1-via-then-q-lt1 w ↦ below_one most_unknowns c.args.q (rw f at w.if-q-lt1.true)
      | then-q-lt1-via-else-q-lt1+then-q-gt16 w ↦ above_most most_unknowns c.args.q (rw f at w.if-q-lt1.false) (rw f at w.if-q-gt16.true)
    ])

pub returns : goal.returns
returns c =
    let e = to_z-of_z c.ranges.p in
    let f = to_z-of_z c.ranges.q in
    rw (← counts_within c.args.p c.args.q _
    (within most_equations c.args.p (rw e at c.if-p-lt1.false) (rw e at c.if-p-gt8.false)).inside
    (within most_unknowns c.args.q (rw f at c.if-q-lt1.false) (rw f at c.if-q-gt16.false)).inside)
    (rw (e, f) at c.read_coefficients.ensures)
