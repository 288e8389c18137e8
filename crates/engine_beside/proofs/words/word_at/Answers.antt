-- `words::word_at` meets its contract. Assumes nothing.
use Rattle.std.proofs.Common.{rules, sym, ◌∙◌, arith}
use Rattle.engine_spec.specs.Beside.{folded, row_at}
use Rattle.engine_spec.specs.Words.{word}
use Rattle.engine_beside.specs.WordLaws.{all_fields, plain_field}
use Rattle.engine_beside.proofs.words.word_at.Goals as goal

pub returns-then-q-le16 : goal.returns-then-q-le16
unfolding word
returns-then-q-le16 c =
    let x = row_at c.args.table.now c.args.base in
    c.word_of_fields.ensures (folded c.args.q x) (λ j y l p. search (rules, plain_field c.args.q x j c.if-q-le16.true l))
    ∙ sym (all_fields c.args.q x c.args.q (omega (arith, c.if-q-le16.true)))

pub returns : goal.returns
unfolding word
returns c = c.word_of_fields-2.ensures (folded c.args.q (row_at c.args.table.now c.args.base)) (λ j y l p. search rules)
