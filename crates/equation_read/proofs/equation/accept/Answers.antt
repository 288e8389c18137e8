-- `equation_read::equation::accept` meets its contract: the search finds the first coefficient out of range. Assumes nothing.
use Rattle.std.proofs.Common.{◌+◌, ◌∙◌, sym, ap, refl, pos, neg_ℤ, get_or, w32, w64, rules, to_z-of_z}
use borrow.Author.Rules.{sfits_of}
use borrow.Author.Tests.{tests}
use Rattle.definitions.specs.Refusals.{out_of_range}
use Rattle.texts.proofs.FirstLaws.{First, first_in_range}
use Rattle.equation_read.specs.EquationLaws.{coefficient_out, none_out, right_out, all_in, ranged}
use Rattle.equation_read.proofs.equation.accept.Goals as goal
use Rattle.equation_read.proofs.equation.accept.Goals.{After-position}

found : (c : After-position) → First c.args.q (λ i. out_of_range (get_or c.args.totals.now (i + 1) (pos 0))) c.position.result
found c = first_in_range (λ i. out_of_range (get_or c.args.totals.now (i + 1) (pos 0))) c.position.ensures.ran refl (λ x b q k. search (rules, tests))

pub returns-in-Some : goal.returns-in-Some
returns-in-Some c = coefficient_out c.args.q c.args.totals.now c.args.row.now (rw c.in-Some.is at (found (goal.at.returns-in-Some c).After-position))

pub returns-then-out_of_range : goal.returns-then-out_of_range
returns-then-out_of_range c =
    let none = rw c.in_default.is at (found (goal.at.returns-then-out_of_range c).After-position) in
    right_out c.args.q c.args.totals.now c.args.row.now (none_out c.args.q c.args.totals.now c.args.row.now none)
    (rw (to_z-of_z {w = w64} {z = get_or c.args.totals.now 0 (pos 0)} (search rules)) at (sym c.out_of_range.ensures ∙ c.if-out_of_range.true))

pub write_row-requires : goal.write_row-requires
write_row-requires c =
    let none = rw c.in_default.is at (found (goal.at.write_row-requires c).After-position) in
    (c.requires.0, c.requires.1, ranged c.args.q c.args.totals.now none)

pub returns : goal.returns
returns c =
    let none = rw c.in_default.is at (found (goal.at.returns c).After-position) in
    let z = to_z-of_z {w = w64} {z = get_or c.args.totals.now 0 (pos 0)} (search rules) in
    all_in c.args.q c.args.totals.now c.args.row.now (none_out c.args.q c.args.totals.now c.args.row.now none)
    (rw z at (sym c.out_of_range.ensures ∙ c.if-out_of_range.false))
    c.write_row.ensures
    (to_z-of_z {w = w32} (sfits_of c.negated.type_inv) ∙ c.negated.ensures ∙ ap neg_ℤ z)
