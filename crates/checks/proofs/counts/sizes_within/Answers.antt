-- `checks::counts::sizes_within` meets its contract: each test decides the first check that refuses. Assumes nothing.
use Prim.Native.Nat.{ℕ, ◌≤◌}
use mathlib.Core.Bool.{true}
use mathlib.Core.Path.{◌≡◌}
use native.Mathlib.Omega.{arith}
use borrow.Author.Tests.{le-leb, lt-leb}
use Rattle.definitions.specs.Answers.{refuse_with, ◌then◌}
use Rattle.definitions.specs.Refusals.{between}
use Rattle.checks.proofs.counts.sizes_within.Goals as goal

in_range : (b n : ℕ) → 1 ≤ n → n ≤ b → between 1 b n ≡ true
in_range b n l m = rw (le-leb 1 n l, le-leb n b m)

pub returns-then-p-lt1 : goal.returns-then-p-lt1
unfolding refuse_with ◌then◌
returns-then-p-lt1 c = rw (lt-leb 1 _ c.if-p-lt1.true)

pub returns-then-equations-p : goal.returns-then-equations-p
unfolding refuse_with ◌then◌
returns-then-equations-p c = rw (le-leb 1 _ c.if-p-lt1.false, lt-leb _ _ c.if-equations-p.true)

pub returns-then-q-lt1 : goal.returns-then-q-lt1
unfolding refuse_with ◌then◌
returns-then-q-lt1 c = let s = c.args in rw (in_range s.equations s.p (omega arith) (omega arith), lt-leb 1 s.q c.if-q-lt1.true)

pub returns-then-unknowns-q : goal.returns-then-unknowns-q
unfolding refuse_with ◌then◌
returns-then-unknowns-q c =
    let s = c.args in
    rw (in_range s.equations s.p (omega arith) (omega arith), le-leb 1 s.q (omega arith), lt-leb s.q s.unknowns c.if-unknowns-q.true)

pub returns : goal.returns
unfolding refuse_with ◌then◌
returns c =
    let s = c.args in
    rw (in_range s.equations s.p (omega arith) (omega arith), in_range s.unknowns s.q (omega arith) (omega arith))
