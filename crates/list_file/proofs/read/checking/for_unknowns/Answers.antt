-- `list_file::read::checking::for_unknowns` meets its contract: the product of two small words. Assumes nothing.
use Rattle.std.proofs.Common.{mul-le-mul, arith}
use Rattle.list_file.proofs.read.checking.for_unknowns.Goals as goal

pub overflow_mul-result : goal.overflow_mul-result
overflow_mul-result c =
    let s = c.requires in
    omega (
      arith,
      mul-le-mul {n₁ = c.word_at.result} {m₁ = c.word_at-2.result} {n₂ = 4096} {m₂ = 16} (omega (arith, c.word_at.ensures))
          (omega (arith, c.word_at-2.ensures)),
    )

pub returns : goal.returns
returns c = rw (c.word_at.ensures, c.word_at-2.ensures)
