-- What holds after any number of turns of a call: it is shown of the call's beginning and of a turn. Assumes nothing.
use Rattle.std.specs.Prelude.{◌≡◌, List, [], ◌∷◌}
use Rattle.std.proofs.Math.Path.{refl}
use Rattle.std.proofs.Common.{ap, lt-ltb}
use Rattle.std.proofs.Math.Option.{Option, none, some}
use Prim.Native.Nat.{ℕ, zero, suc, ◌<◌}
use Rattle.definitions.specs.Answers.{go, refuse}
use Rattle.dispatch_spec.specs.RoundLaws.{Next}
use Rattle.dispatch_spec.proofs.RoundLaws.{next_some}
use Rattle.dispatch_spec.proofs.TurnLaws.{Laid, turn_fits, turn_laid}
use Rattle.dispatch_spec.specs.Dispatch.{Schedule, Round, refused_with, served_to, next, leave_turn, turn_of}
use Rattle.dispatch_spec.specs.Dispatch.{serve_run, serve, after_turns, opened, answer_for, steps_between, dispatch_checks, dispatch}
use Rattle.dispatch_spec.specs.Turns.{Turn, turn_taken, written, turns_to, turns_of}

-- ---- induction over the turns of a call

module _ (d : Schedule) (some_run : 0 < d.count) (P : Round → List Turn → Type 0)
    (turn : (r : Round) (log : List Turn) → Laid d r → P r log → (i : ℕ) → Next d.count r i
    → P (leave_turn d i r (turn_of d i r)) (turn_taken d i r ∷ log)) where
  served_next : (o : Option ℕ) (r : Round) (log : List Turn) → Laid d r → P r log → next d.count r ≡ o
      → Laid d (serve_run o d r) × P (serve_run o d r) (written o d r log)
  served_next none r log l p e = (l, p)
  served_next (some i) r log l p e =
      let n = next_some d.count r some_run i e in
      (turn_laid d r l i n.below (turn_of d i r) (turn_fits d r l i n.below d.quantum), turn r log l p i n)

  pub after_turns_lem : (r : Round) → Laid d r → P r [] → (k : ℕ) → Laid d (after_turns k d r) × P (after_turns k d r) (turns_to k d r)
  unfolding after_turns turns_to serve
  after_turns_lem r l p zero = (l, p)
  after_turns_lem r l p (suc k) =
      let (l', p') = after_turns_lem r l p k in
      served_next (next d.count (after_turns k d r)) (after_turns k d r) (turns_to k d r) l' p' refl

-- ---- a call: refused, or served

pub opened_laid : (d : Schedule) (r : Round) → Laid d r → Laid d (opened r)
unfolding opened
opened_laid d r l = record { stacks = l.stacks; lists = l.lists }

module _ (turns : ℕ) (d : Schedule) (r : Round) where
  -- "changes nothing lent"
  pub dispatch_refused : (n : ℕ) (values : List ℕ) → dispatch_checks d r ≡ refuse n values
      → (dispatch turns d r ≡ refused_with (refuse n values) r) × (turns_of turns d r ≡ [])
  unfolding dispatch turns_of
  dispatch_refused n values e = (rw e, rw e)

  pub dispatch_served : dispatch_checks d r ≡ go
      → (dispatch turns d r ≡ served_to d r (after_turns turns d (opened r))) × (turns_of turns d r ≡ turns_to turns d (opened r))
  unfolding dispatch turns_of
  dispatch_served e = (rw e, rw e)

-- what a call that is not refused does
pub record Served (turns : ℕ) (d : Schedule) (r : Round) : Type 0 where
  pub goes : dispatch_checks d r ≡ go
  pub answers_are : (i : ℕ) → i < d.count → (dispatch turns d r).answers i ≡ answer_for d (dispatch turns d r).round i
  pub steps_are : (dispatch turns d r).steps ≡ steps_between d.count r (dispatch turns d r).round
  pub round_is : (dispatch turns d r).round ≡ after_turns turns d (opened r)
  pub turns_are : turns_of turns d r ≡ turns_to turns d (opened r)

pub served_by : (turns : ℕ) (d : Schedule) (r : Round) → dispatch_checks d r ≡ go → Served turns d r
served_by turns d r e =
    let s = dispatch_served turns d r e in
    record {
      goes = e;
      answers_are = λ i l. rw (s.0, lt-ltb i d.count l);
      steps_are = rw s.0;
      round_is = ap (λ o. o.round) s.0;
      turns_are = s.1;
    }
