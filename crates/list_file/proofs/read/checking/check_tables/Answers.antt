-- `list_file::read::checking::check_tables` meets its contract: both lengths are tested. Assumes nothing.
use Rattle.std.proofs.Common.{arith}
use Rattle.list_file.specs.ReadLaws.{coefs_short, list_short, tables_long}
use Rattle.list_file.proofs.read.checking.check_tables.Goals as goal

pub returns-then-coefs-coef_words : goal.returns-then-coefs-coef_words
returns-then-coefs-coef_words c = coefs_short _ _ _ (omega (arith, c.coef_words.ensures))

pub returns-then-list-row_words : goal.returns-then-list-row_words
returns-then-list-row_words c =
    list_short _ _ _ (omega (arith, c.coef_words.ensures)) (omega (arith, c.row_words.ensures))

pub returns : goal.returns
returns c =
    tables_long _ _ _ (omega (arith, c.coef_words.ensures)) (omega (arith, c.row_words.ensures))
