-- `list_file::read::tables::copy_part` meets its contract. The entries passed are those of the stream, and the others are as they were. Assumes nothing.
use Rattle.std.proofs.Common.{◌≡◌, ℕ, ◌+◌, ◌<◌, length, refl, ◌∙◌, le_antisymm, arith, length-set}
use Rattle.list_spec.specs.Reading.{stream_at}
use Rattle.list_file.specs.ReadLaws.{filled_next, stream_run}
use Rattle.list_file.proofs.read.tables.copy_part.Goals as goal

pub loop-j-init : goal.loop-j-init
loop-j-init c = let i = c.args.i in let e : i + 0 ≡ i = omega arith in record { same = refl; filled = λ table h. rw e h }

pub loop-j-preserved : goal.loop-j-preserved
loop-j-preserved c =
    let l = c.loop-j in
    let i = c.args.i in
    let j = l.j in
    let f : ℕ → ℕ = λ k. stream_at c.args.file.now (c.args.first + k) in
    let run = stream_run c.args.file.now c.args.first i j c.args.m _ c.requires.0 c.loop-j-test.true in
    let w : c.word_at.result ≡ f (i + j) = cc (c.word_at.ensures, c.place-at.ensures, run) in
    let e : i + (j + 1) ≡ i + j + 1 = omega arith in
    let inside : i + j < length l.list = omega (arith, c.requires.1, l.invariant.same) in record {
      same = length-set l.list (i + j) _ ∙ l.invariant.same;
      filled = λ table h. rw e (filled_next f (i + j) table l.list c.word_at.result w inside (l.invariant.filled table h));
    }

pub returns : goal.returns
returns c = λ table h. rw (← le_antisymm c.loop-j.auto.j-end c.loop-j-test.false) (c.loop-j.invariant.filled table h)
