-- Document 02, job 14: "The steps reported are the sum of those the runs took in the call." Assumes nothing.
use Rattle.std.specs.Prelude.{◌≡◌, List, [], ◌∷◌}
use Rattle.std.proofs.Math.Path.{refl, ap}
use Rattle.std.proofs.Common.{sym, ◌∙◌, inl, inr, arith, eq-eqb, ne_eqb}
use Prim.Native.Nat.{ℕ, zero, suc, ◌+◌, ◌<◌}
use Rattle.std.proofs.Math.Decide.{ℕ_discrete}
use Rattle.linear.specs.Cases.{below_suc}
use Rattle.definitions.specs.Tables.{State}
use Rattle.dispatch_spec.proofs.ResumeLaws.{resume_counts}
use Rattle.dispatch_spec.proofs.TurnLaws.{Laid, turn_fits, turn_own, turn_progress}
use Rattle.dispatch_spec.proofs.CheckRules.{accepted}
use Rattle.dispatch_spec.specs.Dispatch.{Schedule, Round, total_to, own, leave_turn, turn_of, opened, steps_between, dispatch}
use Rattle.dispatch_spec.specs.Turns.{Turn, turn_taken, turns_of, taken, taken_by}
use Rattle.dispatch_spec.proofs.Serving.{after_turns_lem, opened_laid, Served}

own_steps : (d : Schedule) (r : Round) (i : ℕ) → (own d r i).run.steps ≡ (r.progress i).run.steps
unfolding own
own_steps d r i = refl

taken_own : (i : ℕ) (t : Turn) (log : List Turn) → i ≡ t.run → taken_by i (t ∷ log) ≡ t.steps + taken_by i log
unfolding taken_by
taken_own i t log e = rw (eq-eqb i t.run e)

taken_other : (i : ℕ) (t : Turn) (log : List Turn) → ¬ (i ≡ t.run) → taken_by i (t ∷ log) ≡ taken_by i log
unfolding taken_by
taken_other i t log ne = rw (ne_eqb i t.run ne) (omega arith)

-- ---- sums

total_same : (n : ℕ) (f g : ℕ → ℕ) → ((i : ℕ) → i < n → f i ≡ g i) → total_to n f ≡ total_to n g
unfolding total_to
total_same zero f g h = refl
total_same (suc n) f g h = omega (arith, total_same n f g (λ i l. h i (omega arith)), h n (omega arith))

-- one term more by k
total_more : (n : ℕ) (f g : ℕ → ℕ) (j k : ℕ) → j < n → g j ≡ k + f j → ((i : ℕ) → ¬ (i ≡ j) → g i ≡ f i) → total_to n g ≡ k + total_to n f
unfolding total_to
total_more zero f g j k l e others = absurd (omega arith)
total_more (suc n) f g j k l e others =
    elim (below_suc l) [
      | inl h ↦ omega (arith, total_more n f g j k h e others, others n (λ q. omega arith))
      | inr q ↦ omega (arith, total_same n g f (λ i li. others i (λ z. omega arith)), rw q at e)
    ]

-- ---- each run's record counts the steps of its turns, and these are all the steps

module _ (d : Schedule) (r₀ : Round) where
  record Counted (r : Round) (log : List Turn) : Type 0 where
    each : (i : ℕ) → i < d.count → (r.progress i).run.steps ≡ (r₀.progress i).run.steps + taken_by i log
    all : total_to d.count (λ i. taken_by i log) ≡ taken log

  module _ (r : Round) (log : List Turn) (l : Laid d r) (c : Counted r log) (j : ℕ) (lj : j < d.count) where
    own_counted : ((leave_turn d j r (turn_of d j r)).progress j).run.steps ≡ (r₀.progress j).run.steps + taken_by j (turn_taken d j r ∷ log)
    own_counted =
        let f = turn_fits d r l j lj d.quantum in
        let e = sym (own_steps d (leave_turn d j r (turn_of d j r)) j) ∙ ap (λ (t : State). t.run.steps) (turn_own d r l j lj (turn_of d j r) f) in
        omega (arith, e, resume_counts d.quantum (d.shares j).input (own d r j), own_steps d r j, c.each j lj, taken_own j (turn_taken d j r) log refl)

    other_counted : (i : ℕ) → i < d.count → ¬ (i ≡ j)
        → ((leave_turn d j r (turn_of d j r)).progress i).run.steps ≡ (r₀.progress i).run.steps + taken_by i (turn_taken d j r ∷ log)
    other_counted i li ne =
        let f = turn_fits d r l j lj d.quantum in
        rw (turn_progress d r l j lj (turn_of d j r) f i li ne, taken_other i (turn_taken d j r) log ne) (c.each i li)

    counted_turn : Counted (leave_turn d j r (turn_of d j r)) (turn_taken d j r ∷ log)
    unfolding taken
    counted_turn =
        record {
          each = λ i li. elim (ℕ_discrete i j) [ yes e ↦ rw e own_counted | no ne ↦ other_counted i li ne ];
          all =
              total_more d.count (λ i. taken_by i log) (λ i. taken_by i (turn_taken d j r ∷ log)) j (turn_taken d j r).steps lj
              (taken_own j (turn_taken d j r) log refl) (λ i ne. taken_other i (turn_taken d j r) log ne)
              ∙ ap (λ n. (turn_taken d j r).steps + n) c.all;
        }

  none_taken : (n : ℕ) → total_to n (λ i. taken_by i []) ≡ 0
  unfolding total_to taken_by
  none_taken zero = refl
  none_taken (suc n) = omega (arith, none_taken n)

  counted_opened : Counted (opened r₀) []
  unfolding opened taken_by taken
  counted_opened = record { each = λ i l. omega arith; all = none_taken d.count }

-- "the sum of those the runs took in the call", run by run and turn by turn
pub record Sum (d : Schedule) (before after : Round) (log : List Turn) (steps : ℕ) : Type 0 where
  pub each : (i : ℕ) → i < d.count → (after.progress i).run.steps ≡ (before.progress i).run.steps + taken_by i log
  pub by_runs : steps ≡ total_to d.count (λ i. taken_by i log)
  pub by_turns : steps ≡ taken log

pub steps_sum : {turns : ℕ} {d : Schedule} {r : Round} → Served turns d r → Sum d r (dispatch turns d r).round (turns_of turns d r) (dispatch turns d r).steps
unfolding steps_between
steps_sum {turns} {d} {r} s =
    let a = accepted d r s.goes in
    let c = (after_turns_lem d a.some_run (Counted d r) (λ t log l c i n. counted_turn d r t log l c i n.below) (opened r) (opened_laid d r a.laid)
    (counted_opened d r) turns).1 in
    let c' : Counted d r (dispatch turns d r).round (turns_of turns d r) = rw (s.round_is, s.turns_are) c in
    let sum : (dispatch turns d r).steps ≡ total_to d.count (λ i. taken_by i (turns_of turns d r)) = s.steps_are
    ∙ total_same d.count _ _ (λ i li. omega (arith, c'.each i li)) in
    record { each = c'.each; by_runs = sum; by_turns = sum ∙ c'.all }
