-- Document 02, job 14: what is promised of the dispatcher, each under its words. Assumes nothing.
use Rattle.std.specs.Prelude.{◌≡◌, List, ◌∷◌, ◌++◌, ℕ, ◌*◌, ◌≤◌, ◌<◌, length}
use Rattle.std.proofs.Common.{ap}
use Rattle.definitions.specs.Answers.{go, paused, refuse}
use Rattle.definitions.specs.Tables.{State}
use Rattle.laws.specs.CheckLaws.{Renders}
use Rattle.theorems.specs.Series.{Lending, meanwhile}
use Rattle.theorems.proofs.Series.{unchanged_leaves}
use Rattle.dispatch_spec.proofs.CheckRules.{dispatch_rules, dispatch_renders, accepted}
use Rattle.dispatch_spec.proofs.TurnLaws.{turn_fits, turn_other}
use Rattle.dispatch_spec.specs.Dispatch.{Schedule, Round, own, leave_turn, turn_of, dispatch_checks, dispatch, refused_with}
use Rattle.dispatch_spec.specs.Turns.{Turn, turns_of, turns_by, alone, taken}
use Rattle.dispatch_spec.proofs.Serving.{dispatch_refused, served_by}
use Rattle.dispatch_spec.proofs.Alone.{each_alone}
use Rattle.dispatch_spec.proofs.Untouched.{Same, same_stack, same_list}
use Rattle.dispatch_spec.proofs.Total.{Sum, steps_sum}
use Rattle.dispatch_spec.specs.Fair.{Calls, NoneOf}
use Rattle.dispatch_spec.proofs.Fair.{fair}
use Rattle.dispatch_spec.specs.Order.{Given}
use Rattle.dispatch_spec.proofs.Order.{turns_given}

-- "27, .. 28, ..; both before any run's own refusals": each in its case and in no other
pub refusals : (d : Schedule) (r : Round) → Renders (dispatch_checks d r) (dispatch_rules d r)
refusals = dispatch_renders

-- and "a refusal not given within a walk changes nothing lent"
pub refused_untouched : (turns : ℕ) (d : Schedule) (r : Round) (n : ℕ) (values : List ℕ) → dispatch_checks d r ≡ refuse n values
    → dispatch turns d r ≡ refused_with (refuse n values) r
refused_untouched turns d r n values e = (dispatch_refused turns d r n values e).0

-- so that a refused call is a foreign call of the third demand (theorems/specs/Series), whatever of a run it was lent: it leaves the run as it is
pub refused_leaves : (l : Lending Round) (s : State) (turns : ℕ) (d : Schedule) (n : ℕ) (values : List ℕ) → dispatch_checks d (l.handed s) ≡ refuse n values
    → meanwhile (λ r. (dispatch turns d r).round) l s ≡ s
refused_leaves l s turns d n values e =
    unchanged_leaves (λ r. (dispatch turns d r).round) l s (ap (λ x. x.round) (refused_untouched turns d (l.handed s) n values e))

-- a call that is not refused
module _ (turns : ℕ) (d : Schedule) (r : Round) (e : dispatch_checks d r ≡ go) where
  -- "Each run's answer, record and rows equal those it would have alone from one continuing call for each of its turns, with a turn's steps as
  -- allowance; a run without a turn answers as to allowance 0."
  pub runs_alone : (i : ℕ) → i < d.count
      → record { answer = (dispatch turns d r).answers i; state = own d (dispatch turns d r).round i }
      ≡ alone d.quantum (turns_by i (turns_of turns d r)) (d.shares i).input (own d r i)
  runs_alone = each_alone (served_by turns d r e)

  -- "round the unfinished runs (height above 0), rising from the one after the run served last, whose number its record keeps (0 at first), as many turns as
  -- the call asks, refused ones counted. A run that refuses or finishes leaves the round for that call."
  pub turns_in_order : Given turns d.count r (turns_of turns d r) (dispatch turns d r).round.last
  turns_in_order = turns_given (served_by turns d r e)

  -- "Writing into one run's part touches no other part.": a turn of run i leaves run j as it was
  pub others_untouched : (i j : ℕ) → i < d.count → j < d.count → ¬ (j ≡ i) → own d (leave_turn d i r (turn_of d i r)) j ≡ own d r j
  others_untouched i j li lj ne =
      let l = (accepted d r e).laid in turn_other d r l i li (turn_of d i r) (turn_fits d r l i li d.quantum) j lj ne

  -- and a call leaves what lies in no part, and the lengths of the tables
  pub rest_untouched : Same d.count (λ i. (d.shares i).stack_part) r.stack (dispatch turns d r).round.stack
      × Same d.count (λ i. (d.shares i).list_part) r.list (dispatch turns d r).round.list
  rest_untouched = let s = served_by turns d r e in (same_stack s, same_list s)

  -- "The steps reported are the sum of those the runs took in the call."
  pub steps_reported : Sum d r (dispatch turns d r).round (turns_of turns d r) (dispatch turns d r).steps
  steps_reported = steps_sum (served_by turns d r e)

-- "From one turn of a run left in the round to its next, with the same runs, turn length and dispatcher's record kept from call to call, the others
-- take at most seven turns' worth of steps."
pub fairness : {count quantum : ℕ} {r₀ r : Round} {log : List Turn} → Calls count quantum r₀ r log → (i : ℕ) (t : Turn) (later between earlier : List Turn)
    → log ≡ later ++ (between ++ (t ∷ earlier)) → t.run ≡ i → t.answer ≡ paused → NoneOf i between
    → (length between ≤ 7) × (taken between ≤ 7 * quantum)
fairness = fair
