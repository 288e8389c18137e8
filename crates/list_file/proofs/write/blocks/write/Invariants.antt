-- `list_file::write::blocks::write` meets its contract. The blocks passed stand in the buffer. Assumes nothing.
use Rattle.std.proofs.Common.{◌≡◌, ◌*◌, length}
use Rattle.list_file.specs.WriteAnswer.{list_of}
use Rattle.list_file.specs.BlockLaws.{Begun}
use Rattle.list_file.proofs.write.blocks.write.Given as goal

abbrev pub invariant-loop-b : goal.invariant-loop-b
invariant-loop-b l = record {
  same : length l.out ≡ length l.initial.out;
  begun : Begun (list_of l.p l.q l.coefs l.rows l.ending) (128 * l.b) l.out;
}
