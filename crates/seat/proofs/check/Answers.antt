-- `check` meets its contract: a refusal of the sizes decides, else the seat's own does. Assumes nothing.
use mathlib.Core.Path.{sym, ◌∙◌, ap}
use borrow.Author.Tests.{le-ltb, lt-ltb}
use Rattle.definitions.specs.Answers.{refuse_if, refuse_with, ◌then◌}
use Rattle.calls.proofs.CallLaws.{handed_on, passes}
use Rattle.seat_spec.specs.Training.{check23, seat_input}
use Rattle.seat.specs.Seat.{sizes_first}
use Rattle.seat.proofs.check.Goals as goal

pub returns-in_err-check_sizes : goal.returns-in_err-check_sizes
unfolding ◌then◌
returns-in_err-check_sizes c coefs =
    let a = c.args in
    rw (handed_on c.from_residual.ensures)
    (ap (λ x. x then check23 (seat_input a.p a.q coefs)) (rw c.in_err-check_sizes.was at c.check_sizes.ensures) ∙ sizes_first a.p a.q coefs)

pub returns-then-q-gt-SEAT_UNKNOWNS : goal.returns-then-q-gt-SEAT_UNKNOWNS
unfolding refuse_with ◌then◌
returns-then-q-gt-SEAT_UNKNOWNS c coefs =
    let a = c.args in
    sym (ap (λ b. refuse_if b 23) (lt-ltb 6 a.q c.if-q-gt-SEAT_UNKNOWNS.true))
    ∙ ap (λ x. x then check23 (seat_input a.p a.q coefs)) (sym (passes c.check_sizes.ensures c.in_ok-check_sizes.was))
    ∙ sizes_first a.p a.q coefs

pub returns : goal.returns
unfolding refuse_with ◌then◌
returns c coefs =
    let a = c.args in
    sym (ap (λ b. refuse_if b 23) (le-ltb 6 a.q c.if-q-gt-SEAT_UNKNOWNS.false))
    ∙ ap (λ x. x then check23 (seat_input a.p a.q coefs)) (sym (passes c.check_sizes.ensures c.in_ok-check_sizes.was))
    ∙ sizes_first a.p a.q coefs
