-- Theorems about what specs/Continuing.antt defines. Assumes nothing.
use Rattle.std.proofs.Math.Path.{◌≡◌, sym}
use Rattle.std.specs.Prelude.{Result as Checking, Ok, Err, refl, false, cond, ℕ, ◌^◌, ◌-◌, ◌≤◌, ◌<◌, eqb, ℤ, length}
use Rattle.std.proofs.Common.{◌∙◌, ap}
use Rattle.std.proofs.Math.Bool.{true}
use mathlib.Core.List.{List}
use native.Mathlib.Omega.{arith}
use borrow.Author.Tests.{le-ltb, lt-ltb}
use Rattle.definitions.specs.Answers as paper
use Rattle.engine_spec.specs.Calls as spec
use Rattle.engine_spec.specs.Engine.{Result, Work, all_done, rested}
use Rattle.engine_beside.specs.Writing.{kept_none, measured_none, valued_none, worded_none}
use Rattle.engine_stage.specs.Standing.{Sides, beyond_none, unchanged}
use Rattle.calls.specs.Paper.{answer_of, check_of}
use Rattle.calls.proofs.CallLaws.{passes}
use Rattle.calls.specs.declared.Refusal.{Refusal}
use Rattle.engine_beside.specs.Records.{call_passed, call_refused, refused_with, work_of}
use Rattle.engine_beside.specs.declared.Outcome.{Outcome}
use Rattle.engine_beside.specs.declared.Record.{Record}
use Rattle.engine_checks.specs.Room.{basis_few, basis_fits, stage_fits}
use Rattle.engine_checks.specs.Standing.{Roomed, Stands, resume_checks_lem, standing, stands}
use Rattle.engine_resume.specs.Resuming.{Entered, ResumedTo, Sided}
use Rattle.engine_resume.proofs.ResumingTheorems.{ordered}
use Rattle.engine_resume.specs.Continuing.{LeftBy, ResumeLeft, goes_on, lent_lengths, w}

pub resume_roomed : (q : ℕ) (basis sizes table : List ℕ) (x : Sides) {most room : ℕ} → most ≡ spec.basis_room q (lent_lengths basis sizes table x)
    → room ≡ spec.stage_room q (lent_lengths basis sizes table x)
    → Roomed q most room (length basis) (length table)
resume_roomed q basis sizes table x m n =
    rw (m, n)
    (record {
      long = basis_fits q (length basis) (length sizes);
      wide =
          (stage_fits q (length table) (length x.values) (length x.words) (length x.degrees) (length x.marks) (length x.mothers)).rows;
    })

-- ---- by what the checks find

sided_none : {c : ℕ → ℤ} {q : ℕ} {table : List ℕ} {x : Sides} → Sided c q 0 table x x
sided_none =
    record {
      valued = valued_none;
      worded = worded_none;
      measured = measured_none;
      marked = record { long = omega arith; each = λ i l h. absurd (omega arith) };
      beyond = beyond_none;
    }

module _ (p q most room budget : ℕ) (w : Work) (sizes : List ℕ) (x : Sides) where
  -- nothing beside the rows is written
  still : {o : Result} → goes_on (spec.resume_checks p q most room w) p w.equation ≡ false → o ≡ spec.resume p q most room budget w → o.work ≡ w
      → LeftBy p q most room budget w sizes x o sizes x
  still e is same =
      record {
        outcome = is;
        refused = λ n values h. (same, refl, refl);
        rested = λ l. (refl, refl);
        few = rw e (omega arith);
        sided = rw e sided_none;
        mothers = unchanged;
        sized = rw e measured_none;
        kept = kept_none;
      }

module _ (p q budget : ℕ) (equations : List ℤ) (basis sizes table : List ℕ) (x : Sides) (r : Record) where
  module _ {made : Checking (Unit {0}) Refusal} {most room : ℕ} (m : most ≡ spec.basis_room q (lent_lengths basis sizes table x))
      (n : room ≡ spec.stage_room q (lent_lengths basis sizes table x))
      (e : check_of made ≡ standing p q most room (work_of equations basis table r)) where
    pub resume_refused : {why : Refusal} → made ≡ Err why → ResumeLeft p q budget equations basis sizes table x r (refused_with why r) basis sizes table x
    unfolding spec.resume goes_on
    resume_refused g = rw (← m, ← n)
        (still p q most room budget (w p q budget equations basis sizes table x r) sizes x
        (rw (← (e ∙ resume_checks_lem p q most room (w p q budget equations basis sizes table x r)), g))
        (call_refused (e ∙ resume_checks_lem p q most room (w p q budget equations basis sizes table x r)) equations basis table r _ g) refl)

    module _ {nothing : Unit {0}} (g : made ≡ Ok nothing) where
      pub resume_stands : Stands p q most room (work_of equations basis table r)
      resume_stands = stands p q most room (work_of equations basis table r) (passes e g)

      pub resume_rested : p ≤ r.equation → (o : Outcome) → o.run ≡ r
          → answer_of o.answer ≡ cond (eqb r.done (2 ^ p - 1)) paper.complete paper.paused
          → ResumeLeft p q budget equations basis sizes table x r o basis sizes table x
      unfolding spec.resume rested all_done goes_on
      resume_rested l o s a =
          rw (← m, ← n)
          (still p q most room budget (w p q budget equations basis sizes table x r) sizes x
          (rw (← (e ∙ resume_checks_lem p q most room (w p q budget equations basis sizes table x r)), g, le-ltb r.equation p l))
          (call_passed (e ∙ resume_checks_lem p q most room (w p q budget equations basis sizes table x r)) equations basis table r _ g
          (rw (le-ltb r.equation p l, a, s))) (rw s))

      pub resume_enters : r.equation < p → Entered p q most room equations basis sizes table x r
      resume_enters l =
          let s = resume_stands in
          record {
            size = s.size;
            whole = s.whole;
            long = rw m (basis_fits q (length basis) (length sizes));
            sized = rw m (basis_few q (length basis) (length sizes)).0;
            capped = rw m (basis_few q (length basis) (length sizes)).1;
            fits = rw n (stage_fits q (length table) (length x.values) (length x.words) (length x.degrees) (length x.marks) (length x.mothers));
            going = l;
            order = ordered p q most room (work_of equations basis table r) s.order;
          }

      pub resume_ran : r.equation < p → {o : Outcome} {basis' sizes' table' : List ℕ} {x' : Sides}
          → ResumedTo p q most room budget equations basis sizes table x r o basis' sizes' table' x'
          → ResumeLeft p q budget equations basis sizes table x r o basis' sizes' table' x'
      unfolding spec.resume goes_on
      resume_ran l t =
          let on : goes_on (spec.resume_checks p q most room (w p q budget equations basis sizes table x r)) p r.equation ≡ true =
          rw (← (e ∙ resume_checks_lem p q most room (w p q budget equations basis sizes table x r)), g, lt-ltb r.equation p l)
          in
          rw (← m, ← n)
          (record {
            outcome = call_passed (e ∙ resume_checks_lem p q most room (w p q budget equations basis sizes table x r)) equations basis table r _ g
                (rw (lt-ltb r.equation p l) t.outcome);
            refused = λ k values h. absurd (not_refused k values h);
            rested = λ h. absurd (omega arith);
            few = rw on t.few;
            sided = rw on t.sided;
            mothers = t.mothers;
            sized = rw on t.sized;
            kept = rw on t.kept;
          })
        where
          not_refused : (k : ℕ) (values : List ℕ) → spec.resume_checks p q most room (w p q budget equations basis sizes table x r) ≡ paper.refuse k values → ⊥
          not_refused k values h =
              let no : paper.go ≡ paper.refuse k values =
              sym (ap check_of g) ∙ ((e ∙ resume_checks_lem p q most room (w p q budget equations basis sizes table x r)) ∙ h) in
              let z : ◌≡◌
              {A = ℕ} 0 1 = cc in omega arith
