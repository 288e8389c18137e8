-- `search` meets its contract: none of the rows passed reduces the sum. Assumes nothing.
use mathlib.Core.Path.{sym, ◌∙◌}
use native.Mathlib.Omega.{arith}
use Rattle.engine_reduce.specs.Fits.{looked_low, passed_unfit}
use Rattle.engine_reduce.specs.Sums.{found, none_yet, passed}
use borrow.Author.Rules.{rules}
use Rattle.engine_reduce.proofs.sums.search.Goals as goal

pub loop-k-init : goal.loop-k-init
loop-k-init c = (search rules, none_yet _ _ _ _ _)

pub next_fit-requires : goal.next_fit-requires
next_fit-requires c = (looked_low c.requires, c.loop-k.invariant.0)

pub returns-then-reduces_at : goal.returns-then-reduces_at
returns-then-reduces_at c =
    let f = rw c.in-Some.is at c.next_fit.ensures in
    (f.1, found _ _ _ _ _ c.args.pair.n c.in-Some.k f.1 (sym c.reduces_at.ensures ∙ c.if-reduces_at.true))

pub loop-k-smaller : goal.loop-k-smaller
loop-k-smaller c = let f = rw c.in-Some.is at c.next_fit.ensures in omega (arith, f.0.behind, f.1)

pub loop-k-preserved : goal.loop-k-preserved
loop-k-preserved c =
    let f = rw c.in-Some.is at c.next_fit.ensures in
    let none = passed_unfit c.requires _ c.loop-k.i c.in-Some.k (omega (arith, f.1)) f.0 c.loop-k.invariant.1 in
    (omega (arith, f.1), passed _ _ _ _ _ c.in-Some.k none (sym c.reduces_at.ensures ∙ c.if-reduces_at.false))

pub returns : goal.returns
returns c =
    let f = rw c.in_default.is at c.next_fit.ensures in
    passed_unfit c.requires _ c.loop-k.i c.args.pair.n (omega arith) f c.loop-k.invariant.1
