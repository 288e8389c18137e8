-- `equation_read::bytes::read_index` meets its contract. Assumes nothing.
use Rattle.equation_read.specs.ByteLaws.{index_none, index_above, index_within, index_malformed}
use Rattle.equation_read.proofs.bytes.read_index.Goals as goal
use Rattle.equation_read.proofs.bytes.read_index.Goals.{then-index-lt1-via-then-index-lt1, then-index-lt1-via-else-index-lt1+then-q-index}

pub returns-in_err-index : goal.returns-in_err-index
returns-in_err-index c = rw c.from_residual.ensures (index_malformed _ _ c.in_err-index.ensures)

pub returns-then-index-lt1 : goal.returns-then-index-lt1
returns-then-index-lt1 c =
    elim c.then-index-lt1.branch [
      | then-index-lt1-via-then-index-lt1 w ↦ index_none _ _ _ c.in_ok-index.ensures w.if-index-lt1.true
      | then-index-lt1-via-else-index-lt1+then-q-index w ↦ index_above _ _ _ c.in_ok-index.ensures w.if-index-lt1.false w.if-q-index.true
    ]

pub returns : goal.returns
returns c = index_within _ _ _ c.in_ok-index.ensures c.if-index-lt1.false c.if-q-index.false
