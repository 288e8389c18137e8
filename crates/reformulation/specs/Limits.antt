-- The tests of one number and of a table, as code makes them. Assumes nothing.
use Rattle.std.specs.Result.{is_ok}
use Rattle.std.specs.Prelude.{Result, Ok, Err, ◌≡◌, refl, Bool, true, false, not, List, ℕ, ℤ, pos, get_or, length}
use Rattle.std.proofs.Common.{sym, ◌∙◌, ap}
use Rattle.linear.specs.Tests.{any_to}
use Rattle.definitions.specs.Answers.{refuse, refuse_if, refuse_with}
use Rattle.definitions.specs.Refusals.{out_of_range}
use Rattle.calls.specs.Paper.{check_of}
use Rattle.calls.specs.declared.Refusal.{Refusal}
use Rattle.checks.specs.Coefficients.{coefficient_checks, first_any, instead}
use Rattle.laws.proofs.AnswerLaws.{refuse_if_go}
use Rattle.laws.proofs.CheckLaws.{refuse_not_go}
use Rattle.reformulation_spec.specs.Reformulation.{in_range}

out : {n : ℕ} {values : List ℕ} (b : Bool) → refuse n values ≡ refuse_if b n → false ≡ not b
unfolding refuse_with
out true h = refl
out false h = absurd (refuse_not_go h)

-- ---- a table of coefficients, by the check that refuses the first out of range

module _ (table : List ℤ) where
  abbrev any_out : Bool
  any_out = any_to (length table) (λ i. out_of_range (get_or table i (pos 0)))

  out_by : instead 7 (coefficient_checks table) ≡ refuse_if any_out 7
  out_by = first_any 7 7 (λ i. out_of_range (get_or table i (pos 0))) (length table)

  pub range_by : (c : Result (Unit {0}) Refusal) → check_of c ≡ coefficient_checks table → is_ok c ≡ in_range table
  range_by (Ok x) e = sym (ap not (refuse_if_go any_out 7 (sym out_by ∙ rw (← e))))
  range_by (Err why) e = out any_out (rw (← e) at out_by)
