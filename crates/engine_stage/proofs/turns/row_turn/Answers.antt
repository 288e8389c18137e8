-- `row_turn` is the stage's turn at a row of the basis. Assumes nothing.
use mathlib.Core.Path.{refl}
use Rattle.laws.proofs.TableLaws.{row_fits}
use Rattle.engine_beside.specs.Writing.{table_row}
use Rattle.engine_stage.specs.Turning.{ltb_no, room_left, row_appended, row_full}
use native.Mathlib.Omega.{arith}
use Rattle.engine_stage.proofs.turns.row_turn.Goals as goal

pub returns-then-f-n : goal.returns-then-f-n
returns-then-f-n c =
    row_full c.requires.0 c.requires.1 (ltb_no c.args.s.rows c.args.f.room c.if-f-n.true)

pub overflow_mul-i : goal.overflow_mul-i
overflow_mul-i c =
    omega (arith, c.requires.0.given.rows.whole, row_fits c.args.f.q c.args.i c.args.f.m c.requires.1.low)

pub word_at-word-requires : goal.word_at-word-requires
word_at-word-requires c =
    (c.requires.0.given.rows.few, table_row c.requires.0.given.rows c.args.i c.requires.1.low)

pub append_row-requires : goal.append_row-requires
append_row-requires c =
    record {
      room = room_left c.requires.0 c.if-f-n.false;
      equation = c.requires.0.given.small;
      row = table_row c.requires.0.given.rows c.args.i c.requires.1.low;
    }

pub appended-requires : goal.appended-requires
appended-requires c =
    omega (arith, c.requires.0.few, c.requires.0.roomy.few)

pub overflow_add-result : goal.overflow_add-result
overflow_add-result c = omega
    (arith, c.requires.0.few, c.requires.0.roomy.few)

pub overflow_add-result-2 : goal.overflow_add-result-2
overflow_add-result-2 c = omega
    (arith, c.requires.1.low, c.requires.0.given.few)

pub overflow_add-result-3 : goal.overflow_add-result-3
overflow_add-result-3 c = omega (arith, c.requires.1.early)

pub overflow_add-result-4 : goal.overflow_add-result-4
overflow_add-result-4 c = omega
    (arith, c.requires.0.few, c.requires.0.roomy.few)

pub returns : goal.returns
returns c =
    row_appended c.requires.0 c.requires.1 c.if-f-n.false c.word_at-word.ensures refl c.append_row.ensures
