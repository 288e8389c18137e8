-- `reasons::first_true` meets its contract: each test decides the first reason that is true. Assumes nothing.
use mathlib.Core.Path.{sym, ◌∙◌}
use Rattle.reasons.proofs.Amounts.{amount_read, asked_rows, asked_system, asked_tuple, large}
use Rattle.reasons.proofs.AnswerLaws.{even_at, off_at, zero_at}
use Rattle.reasons.proofs.first_true.Goals as goal

pub returns-then-vanishes : goal.returns-then-vanishes
returns-then-vanishes c = zero_at _ _ _ _ (sym c.vanishes.ensures ∙ c.if-vanishes.true)

pub first_off-requires : goal.first_off-requires
first_off-requires c = let a = c.requires in (asked_system large a, asked_tuple large a)

pub in_list-requires : goal.in_list-requires
in_list-requires c = let a = c.requires in (a.q_some, (asked_tuple large a).whole, asked_rows large a)

pub returns-in-Some : goal.returns-in-Some
returns-in-Some c =
    let a = c.requires in
    let off = rw c.in-Some.is at c.first_off.ensures in
    off_at _ _ _ _ (sym c.vanishes.ensures ∙ c.if-vanishes.false) off.0 (amount_read (asked_system large a) (asked_tuple large a) off.0 off.1)

pub returns-in-None : goal.returns-in-None
returns-in-None c =
    even_at _ _ _ _ (sym c.vanishes.ensures ∙ c.if-vanishes.false) (rw c.in-None.is at c.first_off.ensures) c.in_list.ensures
