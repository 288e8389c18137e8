-- `entries::row_extends` meets its contract. Assumes nothing.
use Rattle.std.proofs.Common.{rules, refl, arith, ◌<◌, ◌≤◌, ◌+◌, ◌*◌, ℕ, length}
use borrow.Author.Tests.{tests}
use Rattle.std.proofs.lemmas.Iterator.{serves_from_Range}
use Rattle.laws.proofs.TableLaws.{row_fits}
use Rattle.chains.proofs.ChainLaws.{all_in_range}
use Rattle.reformulation.specs.Given.{product_few}
use Rattle.reformulation.proofs.entries.row_extends.Goals as goal

pub all-requires-clause-callable : goal.all-requires-clause-callable
all-requires-clause-callable c =
    let a = c.args in
    let row : (a.i * (a.q + a.k)) + (a.q + a.k) ≤ (a.p + a.k) * (a.q + a.k) = row_fits (a.q + a.k) a.i (a.p + a.k) c.requires.1 in
    let few = product_few {x = a.p + a.k} {y = a.q + a.k} (omega (arith, c.requires.0.p_few, c.requires.0.few)) (omega (arith, c.requires.0.few)) in
    let inside : (j : ℕ) → j < a.q + a.k → (a.i * (a.q + a.k) + j < length a.extended.now) × (a.i * (a.q + a.k) + j ≤ 4225) =
    λ j l. (omega (arith, row, c.requires.0.whole), omega (arith, row, few)) in
    serves_from_Range (λ x q r. search (rules)) (λ x l h. let e = inside x h in search (rules, few, e))

pub returns : goal.returns
returns c = all_in_range c.all.ensures.ran refl (λ x b q k. search (rules, tests))
