-- `list_file::read::tables::hand_out` meets its contract: both tables are filled from their beginning. Assumes nothing.
use Rattle.list_file.specs.ReadLaws.{handed_out_lem}
use Rattle.list_file.proofs.read.tables.hand_out.Goals as goal

pub returns : goal.returns
returns c =
    rw (
      c.word_at.ensures,
      c.word_at-2.ensures,
      c.word_at-3.ensures,
      c.word_at-4.ensures,
      c.copy_coefs.ensures,
      c.copy_rows.ensures,
      c.row_words-numbers.ensures,
      c.coef_words-first.ensures,
    )
    (handed_out_lem c.args.file.now c.args.coefs.now c.args.list.now c.requires.order.header.range.q_some)
