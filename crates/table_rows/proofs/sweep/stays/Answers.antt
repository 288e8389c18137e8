-- `sweep::stays` meets its contract: the tests over the rows kept and over those after row i are those of the paper's test. Assumes nothing.
use Rattle.std.proofs.Common.{rules, ◌≡◌, refl, sym, ◌∙◌, ap, Bool, ℕ, ◌+◌, ◌-◌, not, ◌&&◌, arith}
use Rattle.std.proofs.lemmas.Iterator.{YieldsList-from_range}
use Rattle.std.proofs.lemmas.Iterator.Search.{any_from_yields_List}
use borrow.Author.Tests.{tests}
use Rattle.chains.proofs.ChainLaws.{any_in_range}
use Rattle.linear.specs.Tests.{any_to}
use Rattle.definitions.specs.System.{is_at_or_below}
use Rattle.definitions.specs.Tables.{at}
use Rattle.laws.specs.SweepTable.{stays_here}
use Rattle.table_rows.specs.Keeping.{spoils_earlier, spoils_later}
use Rattle.table_rows.proofs.Keeping.{any_after}
use Rattle.table_rows.proofs.sweep.stays.Goals as goal
use Rattle.table_rows.proofs.sweep.stays.Goals.{After-any, After-any-then-not-any}

earlier : (c : After-any) → let a = c.args in c.any.result ≡ any_to a.kept (spoils_earlier a.q (at a.table.now a.q) a.i)
earlier c = any_in_range c.any.ensures.ran refl (λ x b q k. search (rules, tests))

later : (c : After-any-then-not-any) → let a = c.args in c.any-then-not-any.result ≡ any_to a.n (spoils_later a.q (at a.table.now a.q) a.i)
later c =
    let a = c.args in
    let spoils : ℕ → Bool = λ k. is_at_or_below a.q (at a.table.now a.q k) (at a.table.now a.q a.i)
    && not (is_at_or_below a.q (at a.table.now a.q a.i) (at a.table.now a.q k)) in
    let whole : a.i + 1 + (a.n - (a.i + 1)) ≡ a.n = omega (arith, c.requires.2) in
    any_from_yields_List spoils _ _ _ c.any-then-not-any.ensures.ran (YieldsList-from_range (a.i + 1) a.n (a.n - (a.i + 1)) refl refl)
    (λ x b q k. search (rules, tests))
    ∙ any_after spoils a.i (a.n - (a.i + 1))
    ∙ ap (λ n. any_to n (spoils_later a.q (at a.table.now a.q) a.i)) whole

pub returns-then-not-any : goal.returns-then-not-any
unfolding stays_here
returns-then-not-any c =
    rw (sym (earlier (goal.at.returns-then-not-any c).After-any) ∙ c.if-not-any.true)
    (ap not (later (goal.at.returns-then-not-any c).After-any-then-not-any))

pub returns-else-not-any : goal.returns-else-not-any
unfolding stays_here
returns-else-not-any c = rw (sym (earlier (goal.at.returns-else-not-any c).After-any) ∙ c.if-not-any.false, c.if-not-any.false)
