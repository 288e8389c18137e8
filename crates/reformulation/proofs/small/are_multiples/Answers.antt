-- `small::are_multiples` meets its contract. Assumes nothing.
use Rattle.std.proofs.Common.{rules, ◌∙◌, pos, Bool, leb, nat_abs, ℤ}
use borrow.Author.Tests.{tests}
use Rattle.chains.proofs.ChainLaws.{all_by_places, all_in_slice}
use Rattle.reformulation_spec.specs.Reformulation.{most_multiple}
use Rattle.reformulation.proofs.small.are_multiples.Goals as goal

pub returns : goal.returns
returns c =
    let small : ℤ → Bool = λ x. leb (nat_abs x) most_multiple in
    all_in_slice {xs = c.args.by.now} small c.all.ensures.ran (cc) (λ x b q k. search (rules, tests)) ∙ all_by_places small (pos 0) c.args.by.now
