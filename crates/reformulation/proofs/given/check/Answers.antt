-- `given::check` meets its contract: sizes, lengths and coefficients decide, in this order. Assumes nothing.
use Rattle.std.proofs.Common.{rules}
use borrow.Author.Tests.{tests}
use Rattle.reformulation.specs.Given.{fails, holds, many_equations, many_unknowns, other_lengths, passed, sized_by}
use mathlib.Core.Path.{ap}
use mathlib.Core.Bool.{not}
use Rattle.reformulation.proofs.given.check.Goals as goal

pub returns-then-not-equations_fit : goal.returns-then-not-equations_fit
returns-then-not-equations_fit c = many_equations _ (search (rules, tests))

pub returns-then-not-unknowns_fit : goal.returns-then-not-unknowns_fit
returns-then-not-unknowns_fit c = many_unknowns _ (search (rules, tests)) (fails c.unknowns_fit.ensures (ap not c.if-not-unknowns_fit.true))

pub lengths_fit-requires : goal.lengths_fit-requires
lengths_fit-requires c = sized_by _ _ _ _ (search (rules, tests)) (holds c.unknowns_fit.ensures (ap not c.if-not-unknowns_fit.false))

pub returns-then-not-lengths_fit : goal.returns-then-not-lengths_fit
returns-then-not-lengths_fit c =
    other_lengths _ (search (rules, tests)) (holds c.unknowns_fit.ensures (ap not c.if-not-unknowns_fit.false))
    (fails c.lengths_fit.ensures (ap not c.if-not-lengths_fit.true))

pub returns : goal.returns
returns c =
    passed _ (search (rules, tests)) (holds c.unknowns_fit.ensures (ap not c.if-not-unknowns_fit.false))
    (holds c.lengths_fit.ensures (ap not c.if-not-lengths_fit.false)) c.check.ensures
