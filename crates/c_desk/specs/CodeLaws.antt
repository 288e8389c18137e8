-- A number of 64 bits holds each answer, as a place is one of at most 128 coefficients. Assumes nothing.
use Rattle.std.specs.Prelude.{ℕ, zero, suc, ◌≤◌, not, ◌≡◌, length}
use Rattle.std.proofs.Common.{mul-le-mul, arith}
use Rattle.definitions.specs.Answers.{Check, go, refuse_if}
use Rattle.definitions.specs.Machine.{call, walk}
use Rattle.definitions.specs.Refusals.{check1, check2, check7}
use Rattle.definitions.specs.System.{most_equations, most_unknowns}
use Rattle.definitions.specs.Tables.{State}
use Rattle.c_record.specs.CodeLaws.{Fits, Small, fits_checked, fits_unless, small_if, small_range, small_then, within}
use Rattle.desk_spec.specs.Desks.{Desk, desk_begin, desk_check3, desk_check4, desk_checks, desk_machine, desk_resume, desk_resume_checks, desk_search_checks}
use Rattle.desk_spec.specs.Desks.{desk_start_checks, desk_step, generators_in_order, group_input, ranges_checks, settled, wide}
use Rattle.desk_spec.proofs.Rules.{numbers_go}

-- ---- checks

few : (d : Desk) → check1 (group_input d) ≡ go → check2 (group_input d) ≡ go → desk_check3 d ≡ go → length d.coefs ≤ 128
few d a b c = omega (arith, numbers_go d c, mul-le-mul (within 1 most_equations d.p 1 a) (within 1 most_unknowns d.q 2 b))

small_checks : (d : Desk) (s : State) (own : Check) → Small own → Small (desk_checks d s own)
small_checks d s own h =
    small_then (check1 (group_input d)) _ (small_if _ 1 (omega arith)) (λ a.
    small_then (check2 (group_input d)) _ (small_if _ 2 (omega arith)) (λ b.
    small_then (desk_check3 d) _ (small_if _ 3 (omega arith)) (λ c.
    small_then (desk_check4 d s) _ (small_if _ 4 (omega arith)) (λ _.
    small_then own (ranges_checks d) h (λ _.
    small_then (check7 (group_input d)) _ (small_range (group_input d) (few d a b c)) (λ _. small_if (wide d) 25 (omega arith)))))))

module _ (d : Desk) (s : State) where
  small_start : Small (desk_start_checks d s)
  unfolding desk_start_checks
  small_start = small_checks d s _ (small_if (not (generators_in_order d)) 6 (omega arith))

  small_resume : Small (desk_resume_checks d s)
  unfolding desk_resume_checks
  small_resume = small_checks d s _ (small_if _ 6 (omega arith))

  small_search : Small (desk_search_checks d s)
  unfolding desk_search_checks
  small_search =
      small_then (refuse_if _ 14) _ (small_if _ 14 (omega arith)) (λ _.
      small_then (refuse_if _ 11) _ (small_if _ 11 (omega arith)) (λ _. small_if _ 12 (omega arith)))

-- ---- calls

fits_walk : (n : ℕ) (d : Desk) (s : State) → Fits (walk n (desk_machine d) s).answer
unfolding walk
fits_walk zero d s = fits_unless _ (settled d s) _ (omega arith)
fits_walk (suc n) d s =
    fits_unless _ (settled d s) _
    (fits_checked (desk_search_checks d (settled d s)) (settled d s) _ (small_search d (settled d s)) (fits_walk n d (desk_step d (settled d s))))

pub begin_fits : (d : Desk) (s : State) → Fits (desk_begin d s).answer
unfolding desk_begin
begin_fits d s = fits_checked (desk_start_checks d s) s _ (small_start d s) (omega arith)

pub resume_fits : (budget : ℕ) (d : Desk) (s : State) → Fits (desk_resume budget d s).answer
unfolding call
resume_fits budget d s = fits_checked (desk_resume_checks d s) s (walk budget (desk_machine d)) (small_resume d s) (fits_walk budget d s)
