-- The calls on a record of words, as the code goes about them; and that another number of words is refused with 6, after 1 to 4. Assumes nothing.
use Rattle.std.specs.Prelude.{ℕ, Bool, true, false, ◌&&◌, not, List, [], ◌≢◌, ◌≡◌, refl, length}
use Rattle.std.proofs.Math.Path.{ap}
use Rattle.std.proofs.Common.{ne_eqb}
use Rattle.definitions.specs.Answers.{◌then◌, refuse, refuse_if, refuse_with}
use Rattle.definitions.specs.Machine.{call, checked, walk}
use Rattle.definitions.specs.Refusals.{check1, check2}
use Rattle.definitions.specs.Tables.{State}
use Rattle.calls.specs.Paper.{state_of}
use Rattle.c_record.specs.WordLaws.{then_same}
use Rattle.c_record.specs.Words.{record_in}
use Rattle.desk_spec.specs.Desks.{Desk, desk_check3, desk_check4, desk_in_order, desk_machine, desk_resume, desk_resume_checks, generators_in_order}
use Rattle.desk_spec.specs.Desks.{group_input, ranges_checks}

-- ---- another number of words: "6: run record or tables out of order"

never : (b : Bool) → (b && false) ≡ false
never true = refl
never false = refl

module _ (words : List ℕ) (d : Desk) (stack list : List ℕ) (ne : length words ≢ 7) where
  abbrev lent : State
  lent = state_of stack list (record_in words)

  -- it reads as the record of a plain run
  disordered : desk_in_order d lent ≡ false
  unfolding desk_in_order record_in
  disordered = rw (ne_eqb (length words) 7 ne)

  six : (refuse_if (not (generators_in_order d && desk_in_order d lent)) 6 then ranges_checks d) ≡ refuse 6 []
  unfolding ◌then◌ refuse_with
  six = rw (disordered, never (generators_in_order d))

  misfit_checks_lem : desk_resume_checks d lent ≡ check1 (group_input d) then check2 (group_input d) then desk_check3 d then desk_check4 d lent then refuse 6 []
  unfolding desk_resume_checks
  misfit_checks_lem =
      then_same (check1 (group_input d)) _ _ (λ _.
      then_same (check2 (group_input d)) _ _ (λ _. then_same (desk_check3 d) _ _ (λ _. then_same (desk_check4 d lent) _ _ (λ _. six))))

  -- the first of 1 to 4 that is due, or else 6, and nothing lent is changed
  pub misfit_refused : (budget : ℕ) → desk_resume budget d lent
      ≡ checked (check1 (group_input d) then check2 (group_input d) then desk_check3 d then desk_check4 d lent then refuse 6 []) lent
      (walk budget (desk_machine d))
  unfolding call
  misfit_refused budget = ap (λ c. checked c lent (walk budget (desk_machine d))) misfit_checks_lem
