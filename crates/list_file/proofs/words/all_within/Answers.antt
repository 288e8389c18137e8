-- `list_file::words::all_within` meets its contract. The answer so far is that for the words passed. Assumes nothing.
use Rattle.std.proofs.Common.{ℕ, ◌+◌, Bool, leb, refl, le_antisymm}
use Rattle.linear.specs.Tests.{all_to}
use Rattle.list_spec.specs.Words.{word_at}
use Rattle.list_file.specs.RangeLaws.{all_more}
use Rattle.list_file.proofs.words.all_within.Goals as goal

pub loop-j-init : goal.loop-j-init
unfolding all_to
loop-j-init c = refl

pub loop-j-preserved : goal.loop-j-preserved
loop-j-preserved c =
    let a = c.args in
    let f : ℕ → Bool = λ k. leb (word_at a.bytes.now (a.first + k)) a.limit in
    cc (c.also_within-within.ensures, c.word_at.ensures, c.loop-j.invariant, all_more c.loop-j.j f)

pub returns : goal.returns
returns c = rw (← le_antisymm c.loop-j.auto.j-end c.loop-j-test.false) c.loop-j.invariant
