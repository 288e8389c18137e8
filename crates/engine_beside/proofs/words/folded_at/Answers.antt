-- `words::folded_at` meets its contract: place 16 + j counts where there is one. Assumes nothing.
use mathlib.Core.Path.{refl}
use Prim.Native.Nat.{◌+◌}
use native.Mathlib.Omega.{arith}
use borrow.Author.Tests.{le-ltb, lt-ltb}
use Rattle.engine_beside.proofs.words.folded_at.Goals as goal

pub returns-then-j-q : goal.returns-then-j-q
returns-then-j-q c =
    rw (lt-ltb c.args.j c.args.q c.requires.0, lt-ltb (16 + c.args.j) c.args.q c.if-j-q.true) refl

pub returns : goal.returns
returns c =
    rw (lt-ltb c.args.j c.args.q c.requires.0, le-ltb (16 + c.args.j) c.args.q c.if-j-q.false) (omega arith)
