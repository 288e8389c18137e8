-- `list_file::words::wrapping_sum` meets its contract. The sum is that of the words passed, modulo 2^32. Assumes nothing.
use Rattle.list_spec.proofs.SumLaws.{sum_next}
use Rattle.list_spec.specs.Words.{word_at, total}
use Rattle.std.proofs.Common.{ℕ, ◌+◌, refl, le_antisymm}
use Rattle.list_file.proofs.words.wrapping_sum.Goals as goal

pub loop-j-init : goal.loop-j-init
unfolding total
loop-j-init c = refl

pub loop-j-preserved : goal.loop-j-preserved
loop-j-preserved c =
    let a = c.args in
    let f : ℕ → ℕ = λ k. word_at a.bytes.now (a.first + k) in
    cc (c.word_at-sum.ensures, c.loop-j.invariant, sum_next c.loop-j.j f)

pub returns : goal.returns
returns c = rw (← le_antisymm c.loop-j.auto.j-end c.loop-j-test.false) c.loop-j.invariant
