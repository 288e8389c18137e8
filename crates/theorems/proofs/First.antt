-- What the calls of document 01 leave and answer: the rules that their refusals render, whole steps, what is let go on again, and that a longer list table
-- helps after refusal 11. Assumes nothing.
use Rattle.std.specs.Prelude.{◌≡◌, refl, List, [], ℕ, suc}
use Rattle.std.proofs.Common.{inl, inr, arith}
use Rattle.definitions.specs.Answers.{go, refused}
use Rattle.definitions.specs.Calls.{machine, resume, resume_steps, start_from}
use Rattle.definitions.specs.Input.{Input, system_of}
use Rattle.definitions.specs.Machine.{after, walk}
use Rattle.definitions.specs.Refusals.{lower_checks, resume_checks, search_checks}
use Rattle.definitions.specs.Step.{step, to_second, top, width}
use Rattle.definitions.specs.System.{System}
use Rattle.definitions.specs.Tables.{State}
use Rattle.laws.specs.CheckLaws.{FirstDue}
use Rattle.laws.specs.RefusalLaws.{Room, Valid, lower_rules, resume_rules}
use Rattle.laws.proofs.RefusalLaws.{lower_renders, resume_handed, resume_renders, resume_valid, room_not, search_going}
use Rattle.laws.specs.RefusalLaws.{search_rules}
use Rattle.laws.proofs.RefusalLaws.{search_renders, valid_resume}
use Rattle.laws.proofs.ValidLaws.{step_valid}
use Rattle.theorems.specs.CallAnswers.{CallAnswers, Ruled, StartAnswers}
use Rattle.theorems.proofs.CallAnswers.{call_answers, goes_on, refused_there, start_answers}
use Rattle.theorems.specs.Run.{Longer, longer_list, longer_second, relisted_valid, relisted_valid₂, with_lists}
use Rattle.theorems.specs.WholeSteps.{Goes, call_keeps}
use Rattle.theorems.proofs.WholeSteps.{call_after}

-- ---- the starts

pub lower_answers : (lower : List ℕ) (i : Input) (s : State) → StartAnswers (lower_rules lower i s) (start_from lower i s).answer
unfolding start_from
lower_answers lower i s = start_answers (lower_checks lower i s) s _ refl (lower_rules lower i s) (lower_renders i s lower)

-- ---- the continuing call

pub ruled : (i : Input) → Ruled (machine i) (resume_rules i) (search_rules (system_of i))
ruled i = record { before_renders = resume_renders i; within_renders = search_renders (system_of i) }

pub resume_answers : (budget : ℕ) (i : Input) (s : State)
    → CallAnswers (resume_rules i s) (search_rules (system_of i) (resume budget i s).state) budget (resume_steps budget i s)
    (resume budget i s).state.run.height (resume budget i s).answer
resume_answers budget i s = call_answers (ruled i) budget s

-- any continuing call leaves the state after the whole steps that it took
pub resume_after : (n : ℕ) (i : Input) (s : State) → (resume n i s).state ≡ after (resume_steps n i s) (machine i) s
resume_after n i = call_after (machine i) (λ t. refl) n

-- a call that goes on leaves the record and the tables in order
pub left_valid : (budget : ℕ) (i : Input) (s : State) → resume_checks i s ≡ go → Valid (system_of i) (resume budget i s).state
left_valid budget i s e = call_keeps (machine i) (Valid (system_of i)) (λ t v. v) kept budget s (resume_valid i s e)
  where
    kept : (t : State) → Valid (system_of i) t → Goes (machine i) t → Valid (system_of i) (step (system_of i) t)
    kept t v (h, f) = step_valid (system_of i) t v h (search_going (system_of i) t v.ordered h f)

-- and so it is let go on again: "A paused run goes on in a later call."
pub left_goes : (budget : ℕ) (i : Input) (s : State) → resume_checks i s ≡ go → resume_checks i (resume budget i s).state ≡ go
left_goes budget i s e = valid_resume i (resume budget i s).state (resume_handed i s e) (left_valid budget i s e)

-- ---- after a refusal of the search

-- where 11 is due, the same top with room in its list is not refused
pub full_only : (m : System) (t : State) → FirstDue (search_rules m t) 11 [] → (list second : List ℕ) → Room m.kind m.q (with_lists t list second) (top m t)
    → search_checks m (with_lists t list second) ≡ go
full_only m t (inl (n, v, e)) list second roomy = absurd (omega arith)
full_only m t (inr (late, inl (n, v, (sol, full)))) list second roomy =
    (search_renders m (with_lists t list second)).silent (
      late,
      (
        λ (y, l). room_not (to_second m.kind (top m t)) (width m) (with_lists t list second) roomy l,
        (λ (y, j, l, mj, e). y.2 (sol y.0 y.1), tt),
      ),
    )
full_only m t (inr (late, inr (full, inl (n, v, e)))) list second roomy = absurd (omega arith)
full_only m t (inr (late, inr (full, inr (large, y)))) list second roomy = absurd y

-- "after 11 a longer list table with the same rows may be given": the call then takes the step that it had no room for
module _ (budget : ℕ) (i : Input) (s : State) (e : resume_checks i s ≡ go) (a : (resume budget i s).answer ≡ refused 11 []) where
  abbrev left : State
  left = (resume budget i s).state

  goes_with : (list second : List ℕ) → Valid (system_of i) (with_lists left list second)
      → Room (system_of i).kind (system_of i).q (with_lists left list second) (top (system_of i) left) → (more : ℕ)
      → resume (suc more) i (with_lists left list second) ≡ walk more (machine i) (step (system_of i) (with_lists left list second))
  goes_with list second v roomy more =
      let m : System = system_of i in
      let u : State = with_lists left list second in
      let (h, f) = refused_there (ruled i) budget s 11 [] e a in
      goes_on (machine i) u (valid_resume i u (resume_handed i s e) v) (h, full_only m left ((search_renders m left).refuses 11 [] f) list second roomy) more

  pub longer_table : (u : State) → Longer (system_of i) left u → (more : ℕ) → resume (suc more) i u ≡ walk more (machine i) (step (system_of i) u)
  longer_table u (longer_list list same roomy) =
      goes_with list left.second (relisted_valid (system_of i) left list same (left_valid budget i s e)) roomy
  longer_table u (longer_second second same roomy) =
      goes_with left.list second (relisted_valid₂ (system_of i) left second same (left_valid budget i s e)) roomy
