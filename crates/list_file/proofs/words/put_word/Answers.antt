-- `list_file::words::put_word` meets its contract: four bytes are stored, one after the other. Assumes nothing.
use Rattle.std.proofs.Common.{◌*◌, arith, length-set}
use Rattle.list_file.specs.StoreLaws.{four_stored}
use Rattle.list_file.proofs.words.put_word.Goals as goal

pub bounds-bytes-at-2 : goal.bounds-bytes-at-2
bounds-bytes-at-2 c = simp length-set (omega arith)

pub bounds-bytes-at-3 : goal.bounds-bytes-at-3
bounds-bytes-at-3 c = simp length-set (omega arith)

pub bounds-bytes-at-4 : goal.bounds-bytes-at-4
bounds-bytes-at-4 c = simp length-set (omega arith)

pub returns : goal.returns
returns c = four_stored c.args.bytes.now (4 * c.args.k) _ _ _ _ (omega arith)
