-- What a turn does: to the run that has it, what a continuing call does; to the others, nothing. Assumes nothing.
use Rattle.std.specs.Prelude.{◌≡◌, refl, [], ℕ, zero, suc, ◌≤◌, ◌<◌, length, get_or}
use Rattle.std.proofs.Common.{sym, ◌∙◌, arith, eq-eqb, ne_eqb}
use Rattle.std.proofs.Math.Path.{ap}
use Rattle.std.proofs.Math.Option.{Option, none, some}
use Rattle.std.proofs.Math.Decide.{ℕ_discrete}
use Rattle.definitions.specs.Calls.{resume}
use Rattle.definitions.specs.Machine.{Outcome}
use Rattle.definitions.specs.Tables.{State}
use Rattle.dispatch_spec.proofs.PartLaws.{In, Apart, part_length, with_length, with_own, with_other, with_outside}
use Rattle.dispatch_spec.specs.ResumeLaws.{Rises}
use Rattle.dispatch_spec.proofs.ResumeLaws.{resume_no_second, resume_stack_length, resume_list_length, rises_not, rises_on, resume_rises}
use Rattle.dispatch_spec.proofs.RoundLaws.{next_some, put_same, put_other}
use Rattle.dispatch_spec.specs.Dispatch.{Schedule, Round, own, next, leave_turn, serve_run, serve, after_turns}

-- the parts as the check for 28 found them, for tables of these lengths
pub record Laid (d : Schedule) (r : Round) : Type 0 where
  pub stacks : Apart d.count (length r.stack) (λ i. (d.shares i).stack_part)
  pub lists : Apart d.count (length r.list) (λ i. (d.shares i).list_part)

-- what a call of run i left fits its parts
pub record Fits (d : Schedule) (i : ℕ) (o : Outcome State) : Type 0 where
  pub stack : length o.state.stack ≡ (d.shares i).stack_part.size
  pub list : length o.state.list ≡ (d.shares i).list_part.size
  pub single : o.state.second ≡ []

module _ (d : Schedule) (r : Round) (laid : Laid d r) (i : ℕ) (li : i < d.count) where
  pub turn_fits : (n : ℕ) → Fits d i (resume n (d.shares i).input (own d r i))
  unfolding own
  turn_fits n =
      record {
        stack = resume_stack_length n _ (own d r i) ∙ part_length (d.shares i).stack_part r.stack (laid.stacks.fit i li);
        list = resume_list_length n _ (own d r i) ∙ part_length (d.shares i).list_part r.list (laid.lists.fit i li);
        single = resume_no_second n _ (own d r i) refl;
      }

  module _ (o : Outcome State) (f : Fits d i o) where
    pub turn_laid : Laid d (leave_turn d i r o)
    unfolding leave_turn
    turn_laid =
        record {
          stacks = rw (with_length (d.shares i).stack_part r.stack o.state.stack (laid.stacks.fit i li) f.stack) laid.stacks;
          lists = rw (with_length (d.shares i).list_part r.list o.state.list (laid.lists.fit i li) f.list) laid.lists;
        }

    -- the run that has the turn
    pub turn_own : own d (leave_turn d i r o) i ≡ o.state
    unfolding own leave_turn
    turn_own =
        rw (
          with_own (d.shares i).stack_part r.stack o.state.stack (laid.stacks.fit i li) f.stack,
          with_own (d.shares i).list_part r.list o.state.list (laid.lists.fit i li) f.list,
          put_same i (record { run = o.state.run; answer = some o.answer }) r.progress,
          f.single,
        )

    pub turn_answer : ((leave_turn d i r o).progress i).answer ≡ some o.answer
    unfolding leave_turn
    turn_answer = ap (λ x. x.answer) (put_same i (record { run = o.state.run; answer = some o.answer }) r.progress)

    -- another run
    module _ (j : ℕ) (lj : j < d.count) (ne : ¬ (j ≡ i)) where
      pub turn_progress : (leave_turn d i r o).progress j ≡ r.progress j
      unfolding leave_turn
      turn_progress = put_other i _ r.progress j ne

      pub turn_other : own d (leave_turn d i r o) j ≡ own d r j
      unfolding own leave_turn
      turn_other =
          rw (
            with_other (d.shares i).stack_part r.stack o.state.stack (laid.stacks.fit i li) f.stack (d.shares j).stack_part
                (laid.stacks.fit j lj) (laid.stacks.none i j li lj (λ e. ne (sym e))),
            with_other (d.shares i).list_part r.list o.state.list (laid.lists.fit i li) f.list (d.shares j).list_part (laid.lists.fit j lj)
                (laid.lists.none i j li lj (λ e. ne (sym e))),
            put_other i (record { run = o.state.run; answer = some o.answer }) r.progress j ne,
          )

    -- places outside the run's parts
    pub turn_stack_outside : (x : ℕ) → ¬ (In (d.shares i).stack_part x) → get_or (leave_turn d i r o).stack x 0 ≡ get_or r.stack x 0
    unfolding leave_turn
    turn_stack_outside x out = with_outside (d.shares i).stack_part r.stack o.state.stack (laid.stacks.fit i li) f.stack x out

    pub turn_list_outside : (x : ℕ) → ¬ (In (d.shares i).list_part x) → get_or (leave_turn d i r o).list x 0 ≡ get_or r.list x 0
    unfolding leave_turn
    turn_list_outside x out = with_outside (d.shares i).list_part r.list o.state.list (laid.lists.fit i li) f.list x out

-- ---- the counts of steps

serve_rises : (d : Schedule) (r : Round) (o : Option ℕ) (i : ℕ) → Rises (r.progress i).run.steps ((serve_run o d r).progress i).run.steps
unfolding leave_turn own
serve_rises d r none i = rises_not (r.progress i).run.steps
serve_rises d r (some j) i =
    elim (ℕ_discrete i j) [
      | yes e ↦ rw (e, eq-eqb j j refl) (resume_rises d.quantum (d.shares j).input (own d r j))
      | no ne ↦ rw (ne_eqb i j ne) (rises_not (r.progress i).run.steps)
    ]

pub turns_rise : (k : ℕ) (d : Schedule) (r : Round) (i : ℕ) → Rises (r.progress i).run.steps ((after_turns k d r).progress i).run.steps
unfolding after_turns serve
turns_rise zero d r i = rises_not (r.progress i).run.steps
turns_rise (suc k) d r i = rises_on (turns_rise k d r i) (serve_rises d (after_turns k d r) (next d.count (after_turns k d r)) i)

-- ---- numbers past the runs

serve_past : (d : Schedule) (r : Round) (o : Option ℕ) → 0 < d.count → next d.count r ≡ o → (i : ℕ) → d.count ≤ i
    → (serve_run o d r).progress i ≡ r.progress i
unfolding leave_turn
serve_past d r none some_run e i l = refl
serve_past d r (some j) some_run e i l =
    put_other j _ r.progress i (λ q. omega (arith, q, (next_some d.count r some_run j e).below))

pub turns_past : (k : ℕ) (d : Schedule) (r : Round) → 0 < d.count → (i : ℕ) → d.count ≤ i → (after_turns k d r).progress i ≡ r.progress i
unfolding after_turns serve
turns_past zero d r some_run i l = refl
turns_past (suc k) d r some_run i l =
    serve_past d (after_turns k d r) (next d.count (after_turns k d r)) some_run refl i l ∙ turns_past k d r some_run i l
