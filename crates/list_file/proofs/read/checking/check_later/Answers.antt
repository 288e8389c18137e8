-- `list_file::read::checking::check_later` meets its contract: the exact length, and then the blocks. Assumes nothing.
use Rattle.std.proofs.Common.{◌∙◌, arith}
use Rattle.list_file.specs.ReadLaws.{coefs_few, numbers_few, stream_read, not_exact, stream_decides}
use Rattle.list_file.proofs.read.checking.check_later.Goals as goal

pub overflow_add-later : goal.overflow_add-later
overflow_add-later c =
    let h = c.requires.range in omega (arith, c.coef_words-coefs.ensures, c.row_words-rows.ensures, coefs_few h, numbers_few h)

pub overflow_add-later-2 : goal.overflow_add-later-2
overflow_add-later-2 c =
    let h = c.requires.range in omega (arith, c.coef_words-coefs.ensures, c.row_words-rows.ensures, coefs_few h, numbers_few h)

pub overflow_mul-later : goal.overflow_mul-later
overflow_mul-later c =
    let h = c.requires.range in omega (arith, c.coef_words-coefs.ensures, c.row_words-rows.ensures, coefs_few h, numbers_few h)

pub returns-then-file-later : goal.returns-then-file-later
returns-then-file-later c = not_exact _ (λ e. c.if-file-later.true (rw (c.coef_words-coefs.ensures, c.row_words-rows.ensures) e))

pub check_stream-requires : goal.check_stream-requires
check_stream-requires c =
    let h = c.requires.range in
    rw (c.coef_words-coefs.ensures, c.row_words-rows.ensures)
    (stream_read h _ (rw (c.coef_words-coefs.ensures, c.row_words-rows.ensures) at c.if-file-later.false))

pub returns : goal.returns
returns c =
    (rw (c.coef_words-coefs.ensures, c.row_words-rows.ensures) at c.check_stream.ensures)
    ∙ stream_decides _ (rw (c.coef_words-coefs.ensures, c.row_words-rows.ensures) at c.if-file-later.false)
