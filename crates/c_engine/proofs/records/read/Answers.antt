-- `records::read` meets its contract. Assumes nothing.
use Rattle.c_engine.specs.WordLaws.{record_in_lem, record_large, record_short}
use Rattle.c_engine.proofs.records.read.Goals as goal

pub returns-then-done-lt4294967296 : goal.returns-then-done-lt4294967296
returns-then-done-lt4294967296 c =
    record_in_lem _ c.if-words-eq11.true c.if-done-lt4294967296.true

pub returns-else-done-lt4294967296 : goal.returns-else-done-lt4294967296
returns-else-done-lt4294967296 c = record_large _ c.if-words-eq11.true c.if-done-lt4294967296.false

pub returns-else-words-eq11 : goal.returns-else-words-eq11
returns-else-words-eq11 c = record_short _ c.if-words-eq11.false
