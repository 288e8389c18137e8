-- Theorems about what specs/Runs.antt defines. Assumes nothing.
use Rattle.std.specs.Prelude.{◌≡◌, ℕ, ◌<◌, ℤ, pos}
use Rattle.std.proofs.Common.{sym, ◌∙◌, ap, arith}
use Rattle.linear.specs.Combinations.{Enumerates}
use Rattle.linear.specs.Systems.{SolutionIn}
use Rattle.linear.specs.Tuples.{Nonzero}
use Rattle.definitions.specs.Answers.{complete, go}
use Rattle.definitions.specs.System.{MinimalSolution, coef}
use Rattle.definitions.specs.Tables.{State, at}
use Rattle.theorems.specs.CallAnswers.{CallAnswers, Ruled, started_goes}
use Rattle.theorems.proofs.CallAnswers.{call_answers}
use Rattle.theorems.specs.Listed.{Exactly}
use Rattle.theorems.specs.WholeSteps.{call_keeps, called}
use Rattle.theorems.proofs.WholeSteps.{settled_after}
use Rattle.linear.proofs.Loops.{Solutions}
use Rattle.desk_spec.specs.Desks.{Desk, desk_begin, desk_machine, desk_resume, desk_resume_checks, desk_resume_steps, desk_start_checks, generator}
use Rattle.desk_spec.specs.Desks.{generator_count}
use Rattle.desk_spec.specs.Desks.{settled, swept}
use Rattle.desk_spec.specs.Rules.{desk_resume_rules, desk_search_rules}
use Rattle.desk_spec.proofs.Rules.{resume_renders, search_renders}
use Rattle.desk_spec.specs.Valid.{DeskValid}
use Rattle.desk_spec.proofs.Valid.{search_going, settled_again, settled_done, start_shaped, valid_resume}
use Rattle.desk_spec.specs.Groups.{FirstGroup, first_system, whole_system}
use Rattle.desk_spec.proofs.Groups.{groups_joined}
use Rattle.desk_spec.proofs.Second.{second_complete, second_solutions}
use Rattle.desk_spec.specs.Walk.{Sound}
use Rattle.desk_spec.proofs.Walk.{relisted_sound, settled_sound, start_sound, step_sound, sweeps}
use Rattle.desk_spec.specs.Runs.{DeskRun, begun, continued, left, relisted}

pub desk_ruled : (d : Desk) → Ruled (desk_machine d) (desk_resume_rules d) (desk_search_rules d)
desk_ruled d = record { before_renders = resume_renders d; within_renders = search_renders d }

pub desk_answers : (budget : ℕ) (d : Desk) (s : State)
    → CallAnswers (desk_resume_rules d s) (desk_search_rules d (left budget d s)) budget (desk_resume_steps budget d s) (left budget d s).run.height
    (desk_resume budget d s).answer
desk_answers budget d s = call_answers (desk_ruled d) budget s

module _ (d : Desk) (p₁ : ℕ) (a₁ : ℕ → ℕ → ℤ) (solve : Solutions p₁ d.q a₁ (generator_count d) (generator d)) where
  resume_sound : (budget : ℕ) (s : State) → Sound d p₁ a₁ solve s → Sound d p₁ a₁ solve (left budget d s)
  resume_sound =
      call_keeps (desk_machine d) (Sound d p₁ a₁ solve) (settled_sound d p₁ a₁ solve)
      (λ s o (h, e). step_sound d p₁ a₁ solve s o (search_going d s o.valid.ordered h e))

  pub run_sound : {s : State} → DeskRun d s → Sound d p₁ a₁ solve s
  unfolding desk_begin
  run_sound (begun s e) = let (g, w) = started_goes (desk_start_checks d s) s _ e in rw w (start_sound d p₁ a₁ solve s (start_shaped d s g))
  run_sound (continued {s = s} w budget) = resume_sound budget s (run_sound w)
  run_sound (relisted {s = s} w list same) = relisted_sound d p₁ a₁ solve s list same (run_sound w)

-- tables and record of a run are in order, whatever the generators are: take a first group of no equations
pub run_valid : {d : Desk} {s : State} → DeskRun d s → DeskValid d s
run_valid {d} w = (run_sound d 0 (λ i j. pos 0) (λ k l i il. absurd (omega arith)) w).valid

-- what a call that goes on leaves is swept where it is finished
pub left_swept : (budget : ℕ) (d : Desk) (s : State) → desk_resume_checks d s ≡ go → (left budget d s).run.height ≡ 0
    → swept d.q (left budget d s) ≡ left budget d s
left_swept budget d s e done =
    let k = desk_machine d in
    let t : State = left budget d s in
    let here = (called k budget s e).state in
    sym (settled_done d t done) ∙ ap (settled d) here ∙ settled_after k (settled_again d) (desk_resume_steps budget d s) s ∙ sym here

module _ (d : Desk) (g : FirstGroup d) where
  -- "cut short, it promises solutions only": each row is a nonzero solution of the whole map, where the generators are such of the first group
  pub run_solutions : ((k : ℕ) → k < generator_count d → SolutionIn g.p d.q (coef (first_system d g)) (Nonzero d.q) (generator d k)) → {s : State}
      → DeskRun d s → (i : ℕ) → i < s.run.found → SolutionIn (whole_system d g).p d.q (coef (whole_system d g)) (Nonzero d.q) (at s.list d.q i)
  run_solutions some w =
      second_solutions (groups_joined d g) (generator_count d) (generator d) some
      (run_sound d g.p (coef (first_system d g)) (λ k l. (some k l).solution) w).walked

  -- "From the first group's whole list, a complete result is, as a set, the list of the whole map, each once"
  pub run_exactly : Enumerates d.q (MinimalSolution (first_system d g)) (generator_count d) (generator d) → {s : State} → DeskRun d s → (budget : ℕ)
      → (desk_resume budget d s).answer ≡ complete → Exactly d.q (MinimalSolution (whole_system d g)) (left budget d s).list (left budget d s).run.found
  run_exactly basis {s} w budget a =
      let t : State = left budget d s in
      let solve : Solutions g.p d.q (coef (first_system d g)) (generator_count d) (generator d) = λ k l. (basis.only k l).holds.solution in
      let o = run_sound d g.p (coef (first_system d g)) solve (continued w budget) in
      let done = ((desk_answers budget d s).completes.0 a).1 in
      let same = left_swept budget d s (valid_resume d s (run_valid w)) done in
      let e = rw same at
      (second_complete (groups_joined d g) (generator_count d) (generator d) basis o.walked done (sweeps d g.p (coef (first_system d g)) solve t)) in
      record { part = record { room = o.valid.ordered.found; only = e.only; once = e.once }; all = e.all }
