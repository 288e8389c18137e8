-- `list_file::write::blocks::write_content` meets its contract. The words passed stand in the buffer. Assumes nothing.
use Rattle.std.proofs.Common.{◌≡◌, ◌+◌, ◌*◌, length}
use Rattle.list_file.specs.WriteAnswer.{list_of}
use Rattle.list_file.specs.BlockLaws.{Begun}
use Rattle.list_file.proofs.write.blocks.write_content.Given as goal

abbrev pub invariant-loop-j : goal.invariant-loop-j
invariant-loop-j l = record {
  same : length l.out ≡ length l.initial.out;
  begun : Begun (list_of l.p l.q l.coefs l.rows l.ending) (128 * l.b + l.j) l.out;
}
