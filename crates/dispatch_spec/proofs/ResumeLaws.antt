-- Theorems about what specs/ResumeLaws.antt defines. Assumes nothing.
use Rattle.std.specs.Prelude.{◌≡◌, refl, List, [], ◌∷◌, ℕ, ◌+◌, ◌≤◌, length}
use Rattle.std.proofs.Common.{◌∙◌, ap, inl, inr, arith}
use Rattle.definitions.specs.Calls.{machine, resume, resume_steps}
use Rattle.definitions.specs.Input.{Input}
use Rattle.definitions.specs.Refusals.{resume_checks, step_limit}
use Rattle.definitions.specs.Tables.{State}
use Rattle.laws.proofs.CheckLaws.{check_cases}
use Rattle.laws.proofs.MachineLaws.{call_refused}
use Rattle.theorems.proofs.Counts.{after_counts}
use Rattle.theorems.proofs.First.{resume_after}
use Rattle.theorems.specs.Series.{continuing}
use Rattle.theorems.proofs.First.{left_valid}
use Rattle.theorems.proofs.Untouched.{call_untouched}
use Rattle.dispatch_spec.specs.ResumeLaws.{Rises}

-- ---- the lengths of the tables

pub resume_stack_length : (n : ℕ) (i : Input) (s : State) → length (resume n i s).state.stack ≡ length s.stack
resume_stack_length n i s = (call_untouched (continuing n i) s).stack_length

pub resume_list_length : (n : ℕ) (i : Input) (s : State) → length (resume n i s).state.list ≡ length s.list
resume_list_length n i s = (call_untouched (continuing n i) s).list_length

none_left : (xs : List ℕ) → length xs ≡ 0 → xs ≡ []
none_left [] e = refl
none_left (x ∷ xs) e = absurd (omega arith)

-- a run with no second list is left with none
pub resume_no_second : (n : ℕ) (i : Input) (s : State) → s.second ≡ [] → (resume n i s).state.second ≡ []
resume_no_second n i s e = none_left _ ((call_untouched (continuing n i) s).second_length ∙ ap length e)

-- ---- the count of steps

-- the record counts the steps of a continuing call
pub resume_counts : (n : ℕ) (i : Input) (s : State) → (resume n i s).state.run.steps ≡ s.run.steps + resume_steps n i s
resume_counts n i s = ap (λ (t : State). t.run.steps) (resume_after n i s) ∙ after_counts i (resume_steps n i s) s

pub rises_not : (a : ℕ) → Rises a a
rises_not a = record { from = omega arith; top = omega arith }

pub rises_on : {a b c : ℕ} → Rises a b → Rises b c → Rises a c
rises_on g h = record { from = omega (arith, g.from, h.from); top = omega (arith, g.top, h.top) }

pub resume_rises : (n : ℕ) (i : Input) (s : State) → Rises s.run.steps (resume n i s).state.run.steps
resume_rises n i s =
    elim (check_cases (resume_checks i s)) [
      | inl e ↦
          let early : (resume n i s).state.run.steps ≤ step_limit = (left_valid n i s e).ordered.early in
          record { from = omega (arith, resume_counts n i s); top = omega (arith, early) }
      | inr (r, values, e) ↦ rw (call_refused (machine i) s n r values e).0 (rises_not s.run.steps)
    ]
