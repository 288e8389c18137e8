-- `turn` is the stage's turn. Assumes nothing.
use Rattle.std.proofs.Common.{refl, arith}
use Rattle.engine_stage.specs.Turning.{by_end, by_late, by_pair, by_raise, by_row, pair_due, row_due, row_is, spent_by}
use Rattle.engine_stage.proofs.turns.turn.Goals as goal

pub returns-then-s-eq-STEP_LIMIT : goal.returns-then-s-eq-STEP_LIMIT
returns-then-s-eq-STEP_LIMIT c =
    by_late c.requires c.if-s-eq-STEP_LIMIT.true

pub due-requires : goal.due-requires
due-requires c =
    (c.requires.given.sized.long, λ e. rw (← row_is c.requires) at (c.requires.spent e))

pub row_turn-requires : goal.row_turn-requires
row_turn-requires c =
    (c.requires, row_due c.requires c.if-s-eq-STEP_LIMIT.false c.in-Some.ensures.1 c.in-Some.ensures.0)

pub returns-in-Some : goal.returns-in-Some
returns-in-Some c =
    rw (by_row c.requires c.if-s-eq-STEP_LIMIT.false c.in-Some.ensures.1 c.in-Some.ensures.0) c.row_turn.ensures

pub pair_turn-requires : goal.pair_turn-requires
pair_turn-requires c =
    let found = c.in-Some-next_pair.ensures in
    (c.requires, pair_due c.requires c.if-s-eq-STEP_LIMIT.false (spent_by c.requires c.in_default.ensures) found.1 found.0)

pub returns-in-Some-next_pair : goal.returns-in-Some-next_pair
returns-in-Some-next_pair c =
    let found = c.in-Some-next_pair.ensures in
    rw (by_pair c.requires c.if-s-eq-STEP_LIMIT.false (spent_by c.requires c.in_default.ensures) found.1 found.0) c.pair_turn.ensures

pub returns-in-Some-next_degree : goal.returns-in-Some-next_degree
returns-in-Some-next_degree c =
    let least = c.in-Some-next_degree.ensures in
    by_raise c.requires c.if-s-eq-STEP_LIMIT.false (spent_by c.requires c.in_default.ensures) c.in_default-next_pair.ensures least.0 (λ e. omega arith)

pub returns-in-None : goal.returns-in-None
returns-in-None c =
    by_end c.requires c.if-s-eq-STEP_LIMIT.false (spent_by c.requires c.in_default.ensures) c.in_default-next_pair.ensures refl c.in-None.ensures
