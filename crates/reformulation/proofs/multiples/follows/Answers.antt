-- `multiples::follows` meets its contract. Assumes nothing.
use Rattle.std.proofs.Common.{rules, refl, pos, to_z-of_z, get_or, ℕ, ℤ}
use Rattle.std.specs.Int.{w64}
use borrow.Author.Tests.{tests}
use Rattle.chains.proofs.ChainLaws.{all_in_range}
use Rattle.reformulation_spec.specs.Reformulation as paper
use Rattle.reformulation_spec.specs.Reformulation.{left_over, meets, row_of}
use Rattle.reformulation.specs.Sums.{line_at, line_first}
use Rattle.reformulation.proofs.multiples.follows.Goals as goal

pub returns-then-t-from-gt0 : goal.returns-then-t-from-gt0
unfolding paper.follows
returns-then-t-from-gt0 c =
    let a = c.args in
    let left : ℕ → ℤ = left_over a.t.now.n (line_at a.t.now.by.now a.from) (line_at a.t.now.rows.now a.base) (row_of a.t.now.w a.t.now.table.now) in
    let e = all_in_range {f = λ j. meets a.exact (left j)} c.all.ensures.ran refl (λ x b q k. search (rules, tests)) in
    let t = rw (to_z-of_z {w = w64} {z = get_or a.t.now.by.now a.from (pos 0)} (search rules)) at c.if-t-from-gt0.true in
    rw (← line_first a.t.now.by.now a.from, t) e

pub returns-else-t-from-gt0 : goal.returns-else-t-from-gt0
unfolding paper.follows
returns-else-t-from-gt0 c =
    let a = c.args in
    let t = rw (to_z-of_z {w = w64} {z = get_or a.t.now.by.now a.from (pos 0)} (search rules)) at c.if-t-from-gt0.false in
    rw (c.if-t-from-gt0.false, ← line_first a.t.now.by.now a.from, t) refl
