-- Document 02, job 14: "Each run's answer, record and rows equal those it would have alone from one continuing call for each of its turns, with a
-- turn's steps as allowance; a run without a turn answers as to allowance 0." Assumes nothing.
use Rattle.std.specs.Prelude.{◌≡◌, List, [], ◌∷◌, ℕ, suc, ◌<◌}
use Rattle.std.proofs.Math.Path.{refl, ap}
use Rattle.std.proofs.Common.{sym, inl, inr, arith, eq-eqb, ne_eqb}
use Rattle.std.proofs.Math.Decide.{ℕ_discrete}
use Rattle.definitions.specs.Calls.{machine, resume}
use Rattle.definitions.specs.Input.{Input}
use Rattle.definitions.specs.Machine.{Outcome}
use Rattle.definitions.specs.Refusals.{resume_checks}
use Rattle.definitions.specs.Tables.{State}
use Rattle.laws.proofs.CheckLaws.{check_cases}
use Rattle.laws.proofs.MachineLaws.{call_refused, call_walks, walk_done, walk_paused}
use Rattle.dispatch_spec.specs.RoundLaws.{Next}
use Rattle.dispatch_spec.proofs.TurnLaws.{Laid, turn_fits, turn_own, turn_answer, turn_progress, turn_other}
use Rattle.dispatch_spec.proofs.CheckRules.{accepted}
use Rattle.dispatch_spec.specs.Dispatch.{Schedule, Round, own, leave_turn, turn_of, opened, answer_for, dispatch}
use Rattle.dispatch_spec.specs.Turns.{Turn, turn_taken, turns_of, turns_by, alone}
use Rattle.dispatch_spec.proofs.Serving.{after_turns_lem, opened_laid, Served}

-- a call with allowance 0 changes nothing
pub idle : (input : Input) (s : State) → (resume 0 input s).state ≡ s
idle input s =
    elim (check_cases (resume_checks input s)) [
      | inr (r, values, e) ↦ rw (call_refused (machine input) s 0 r values e).0
      | inl e ↦ rw (call_walks (machine input) s 0 e).0
          (elim (ℕ_discrete s.run.height 0) [
            | yes z ↦ rw (walk_done (machine input) s 0 z).0
            | no z ↦ rw (walk_paused (machine input) s (omega (arith, z))).0
          ])
    ]

-- run i as the dispatcher leaves it
abbrev pub outcome_for : Schedule → Round → ℕ → Outcome State
outcome_for d r i = record { answer = answer_for d r i; state = own d r i }

-- the turns of run i, one more or not
turns_own : (i : ℕ) (t : Turn) (log : List Turn) → i ≡ t.run → turns_by i (t ∷ log) ≡ suc (turns_by i log)
unfolding turns_by
turns_own i t log e = rw (eq-eqb i t.run e) (omega arith)

turns_other : (i : ℕ) (t : Turn) (log : List Turn) → ¬ (i ≡ t.run) → turns_by i (t ∷ log) ≡ turns_by i log
unfolding turns_by
turns_other i t log ne = rw (ne_eqb i t.run ne) (omega arith)

module _ (d : Schedule) (r₀ : Round) (i : ℕ) (li : i < d.count) where
  -- after these turns run i is where it would be alone
  abbrev Alike : Round → List Turn → Type 0
  Alike r log = outcome_for d r i ≡ alone d.quantum (turns_by i log) (d.shares i).input (own d r₀ i)

  alike_own : (r : Round) (log : List Turn) → Laid d r → Alike r log → Alike (leave_turn d i r (turn_of d i r)) (turn_taken d i r ∷ log)
  unfolding answer_for alone
  alike_own r log l a =
      let f = turn_fits d r l i li d.quantum in
      rw (turns_own i (turn_taken d i r) log refl, turn_own d r l i li (turn_of d i r) f, turn_answer d r l i li (turn_of d i r) f)
      (ap (λ (o : Outcome State). resume d.quantum (d.shares i).input o.state) a)

  alike_other : (r : Round) (log : List Turn) → Laid d r → Alike r log → (j : ℕ) → j < d.count → ¬ (i ≡ j)
      → Alike (leave_turn d j r (turn_of d j r)) (turn_taken d j r ∷ log)
  unfolding answer_for
  alike_other r log l a j lj ne =
      let f = turn_fits d r l j lj d.quantum in
      rw (turns_other i (turn_taken d j r) log ne, turn_other d r l j lj (turn_of d j r) f i li ne, turn_progress d r l j lj (turn_of d j r) f i li ne) a

  alike_turn : (r : Round) (log : List Turn) → Laid d r → Alike r log → (j : ℕ) → Next d.count r j
      → Alike (leave_turn d j r (turn_of d j r)) (turn_taken d j r ∷ log)
  alike_turn r log l a j n =
      elim (ℕ_discrete j i) [
        | yes e ↦ rw e (alike_own r log l a)
        | no ne ↦ alike_other r log l a j n.below (λ e. ne (sym e))
      ]

  alike_opened : Alike (opened r₀) []
  unfolding answer_for alone turns_by own opened
  alike_opened = let e = idle (d.shares i).input (own d r₀ i)
      in ap (λ (s : State). record { answer = (resume 0 (d.shares i).input (own d r₀ i)).answer; state = s }) (sym e)

-- in a call that serves, each run is where it would be alone, after as many continuing calls as it had turns
pub each_alone : {turns : ℕ} {d : Schedule} {r : Round} → Served turns d r → (i : ℕ) → i < d.count
    → record { answer = (dispatch turns d r).answers i; state = own d (dispatch turns d r).round i }
    ≡ alone d.quantum (turns_by i (turns_of turns d r)) (d.shares i).input (own d r i)
each_alone {turns} {d} {r} s i li =
    let a = accepted d r s.goes in
    rw (s.answers_are i li, s.round_is, s.turns_are)
    (after_turns_lem d a.some_run (Alike d r i li) (alike_turn d r i li) (opened r) (opened_laid d r a.laid) (alike_opened d r i li) turns).1
