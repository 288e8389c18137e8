-- A run from a lower bound whose record comes in another number of words is refused with 6, after 1 to 5. Assumes nothing.
use Rattle.std.specs.Prelude.{ℕ, List, [], ◌≢◌, ◌≡◌, length}
use Rattle.std.proofs.Math.Path.{ap}
use Rattle.std.proofs.Common.{ne_eqb}
use Rattle.definitions.specs.Answers.{◌then◌, refuse, refuse_with}
use Rattle.definitions.specs.Calls.{machine_from, resume_from}
use Rattle.definitions.specs.Input.{Input, system_of}
use Rattle.definitions.specs.Machine.{call, checked, walk}
use Rattle.definitions.specs.Refusals.{check1, check4, check5, check6_from, check7, check8, in_order_from, numbers_check, resume_from_checks, shape_then}
use Rattle.definitions.specs.Refusals.{unknowns_check}
use Rattle.definitions.specs.Tables.{State}
use Rattle.calls.specs.Paper.{state_with}
use Rattle.c_record.specs.Words.{record_in}
use Rattle.c_record.specs.WordLaws.{then_same}

-- ---- another number of words: "6: run record or tables out of order"

module _ (lower words : List ℕ) (i : Input) (stack list second : List ℕ) (ne : length words ≢ 7) where
  abbrev lent : State
  lent = state_with stack list second (record_in words)

  disordered : (check6_from lower i lent then check7 i then check8 i lower) ≡ refuse 6 []
  unfolding in_order_from record_in refuse_with ◌then◌
  disordered = rw (ne_eqb (length words) 7 ne)

  misfit_checks_lem : resume_from_checks lower i lent ≡ shape_then i lent (check5 i lower then refuse 6 [])
  unfolding resume_from_checks
  misfit_checks_lem =
      then_same (check1 i) _ _ (λ _.
      then_same (unknowns_check i) _ _ (λ _.
      then_same (numbers_check i) _ _ (λ _.
      then_same (check4 (system_of i) lent) _ _ (λ _.
      then_same (check5 i lower) _ _ (λ _. disordered)))))

  -- "Refusals 1 to 8 are checked in rising number": the first of 1 to 5 that is due, or else 6, and nothing lent is changed
  pub misfit_refused : (budget : ℕ)
      → resume_from budget lower i lent ≡ checked (shape_then i lent (check5 i lower then refuse 6 [])) lent (walk budget (machine_from lower i))
  unfolding call
  misfit_refused budget = ap (λ c. checked c lent (walk budget (machine_from lower i))) misfit_checks_lem
