-- `pair_turn` is the stage's turn at a pair. Assumes nothing.
use mathlib.Core.Path.{sym, ◌∙◌}
use Rattle.definitions.specs.Tables.{at}
use Rattle.laws.proofs.TableLaws.{row_fits}
use Rattle.engine_beside.specs.WordLaws.{word_low}
use Rattle.engine_beside.specs.Writing.{table_row}
use Rattle.engine_stage.specs.Marked.{was_false, was_true, word_is}
use Rattle.engine_stage.specs.Turning.{ltb_no, pair_appended, pair_fits, pair_full, pair_large, pair_paired, pair_passed}
use native.Mathlib.Omega.{arith}
use mathlib.Core.Path.{ap}
use mathlib.Core.Bool.{not}
use Rattle.engine_stage.proofs.turns.pair_turn.Goals as goal

pub joined-word-requires : goal.joined-word-requires
joined-word-requires c =
    let p = pair_paired c.requires.0 c.requires.1 in (
      omega (arith, p.worded.each c.args.at.upper p.upper, word_low c.args.f.q (at c.args.table.now c.args.f.q c.args.at.upper)),
      omega (arith, p.worded.each c.args.at.lower p.lower, word_low c.args.f.q (at c.args.table.now c.args.f.q c.args.at.lower)),
    )

pub needless-requires : goal.needless-requires
needless-requires c =
    let p = pair_paired c.requires.0 c.requires.1 in
    (p, word_is p c.joined-word.ensures, c.requires.0.given.some)

pub overflow_add-passed : goal.overflow_add-passed
overflow_add-passed c = omega (arith, c.requires.1.lower, c.requires.0.few, c.requires.0.roomy.few)

pub overflow_add-passed-2 : goal.overflow_add-passed-2
overflow_add-passed-2 c = omega (arith, c.requires.1.early)

pub returns-then-needless : goal.returns-then-needless
returns-then-needless c =
    pair_passed c.requires.0 c.requires.1 (sym c.needless.ensures ∙ c.if-needless.true)

pub overflow_mul-h : goal.overflow_mul-h
overflow_mul-h c =
    omega (arith, c.requires.0.rows.whole, row_fits c.args.f.q c.args.at.upper c.args.s.rows c.requires.1.upper)

pub overflow_mul-k : goal.overflow_mul-k
overflow_mul-k c =
    omega (arith, c.requires.0.rows.whole, row_fits c.args.f.q c.args.at.lower c.args.s.rows c.requires.1.lower)

pub small_sum-requires : goal.small_sum-requires
small_sum-requires c =
    (table_row c.requires.0.rows c.args.at.upper c.requires.1.upper, table_row c.requires.0.rows c.args.at.lower c.requires.1.lower)

pub returns-then-not-small_sum : goal.returns-then-not-small_sum
returns-then-not-small_sum c =
    pair_large c.requires.0 c.requires.1 (sym c.needless.ensures ∙ c.if-needless.false) (sym c.small_sum.ensures ∙ was_false (ap not c.if-not-small_sum.true))

pub returns-then-f-n : goal.returns-then-f-n
returns-then-f-n c =
    pair_full c.requires.0 c.requires.1 (sym c.needless.ensures ∙ c.if-needless.false) (sym c.small_sum.ensures ∙ was_true (ap not c.if-not-small_sum.false))
    (ltb_no c.args.s.rows c.args.f.room c.if-f-n.true)

pub append_pair-requires : goal.append_pair-requires
append_pair-requires c =
    pair_fits c.requires.0 c.requires.1 c.if-f-n.false

pub appended-requires : goal.appended-requires
appended-requires c =
    omega (arith, c.requires.0.few, c.requires.0.roomy.few)

pub overflow_add-result : goal.overflow_add-result
overflow_add-result c = omega (arith, c.requires.0.few, c.requires.0.roomy.few)

pub returns : goal.returns
returns c =
    pair_appended c.requires.0 c.requires.1 c.if-f-n.false (word_is (pair_paired c.requires.0 c.requires.1) c.joined-word.ensures)
    (sym c.needless.ensures ∙ c.if-needless.false) (sym c.small_sum.ensures ∙ was_true (ap not c.if-not-small_sum.false)) c.append_pair.ensures
