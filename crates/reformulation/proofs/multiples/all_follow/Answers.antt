-- `multiples::all_follow` meets its contract. Assumes nothing.
use Rattle.std.proofs.Common.{rules, refl, arith, ◌≤◌, ◌+◌}
use borrow.Author.Tests.{tests}
use Rattle.std.proofs.lemmas.Iterator.{serves_from_Range}
use Rattle.reformulation.specs.Sums.{line_of}
use Rattle.chains.proofs.ChainLaws.{all_in_range}
use Rattle.reformulation_spec.specs.Reformulation as paper
use Rattle.reformulation.proofs.multiples.all_follow.Goals as goal

pub all-requires-clause-callable : goal.all-requires-clause-callable
all-requires-clause-callable c =
    serves_from_Range (λ x q r. search rules)
    (λ x l h.
    let line = line_of c.requires x h in
    let low : c.args.first + x ≤ 64 = omega (arith, c.requires.start) in
    search (rules, line, line.by_long, line.row_long, low, c.requires.few))

pub returns : goal.returns
unfolding paper.all_follow
returns c = all_in_range c.all.ensures.ran refl (λ x b q k. search (rules, tests))
