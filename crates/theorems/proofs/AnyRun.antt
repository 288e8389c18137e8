-- The first demand of any kind of run, from what is its own: the rules that its refusals render, that what is done ahead of a step is done once, what a step
-- counts and shows, and what a call leaves. Assumes nothing.
use Rattle.std.specs.Prelude.{◌≡◌, refl, List, []}
use Rattle.std.proofs.Common.{◌∙◌, arith}
use Rattle.std.proofs.Math.Path.{ap}
use Rattle.std.proofs.Math.Logic.{inl, inr}
use Prim.Native.Nat.{ℕ, zero, suc, ◌+◌, max}
use Rattle.linear.specs.Tests.{max_to}
use Rattle.definitions.specs.Answers.{go, refuse, refused, started}
use Rattle.definitions.specs.Machine.{Machine, after, call, call_steps, checked, walk}
use Rattle.laws.specs.CheckLaws.{Renders}
use Rattle.laws.proofs.CheckLaws.{check_cases}
use Rattle.laws.proofs.MachineLaws.{call_refused}
use Rattle.theorems.specs.CallAnswers.{Ruled, StartAnswers}
use Rattle.theorems.proofs.CallAnswers.{call_answers, call_later, call_paced, refused_again, start_answers}
use Rattle.theorems.proofs.Deepest.{greatest}
use Rattle.theorems.specs.Demands.{FirstDemand}
use Rattle.theorems.specs.CallTerms.{CallTerms, left}
use Rattle.theorems.specs.WholeSteps.{Steady, called}
use Rattle.theorems.proofs.WholeSteps.{after_next}

-- what a kind of run has to show for it
pub record Grounds {S : Type 0} (k : Machine S) (w : CallTerms S) : Type 1 where
  pub start_is : (s : S) → w.start s ≡ checked (w.start_checks s) s (λ t. record { answer = started; state = w.begun t })
  pub start_renders : (s : S) → Renders (w.start_checks s) (w.start_rules s)
  pub ruled : Ruled k w.before w.within
  pub steady : Steady k
  -- what is done ahead of a step counts none and shows no other number; a step counts one, and shows the greater of the number shown and the sum of its tuple
  pub settles_steps : (s : S) → w.steps (k.settle s) ≡ w.steps s
  pub step_steps : (s : S) → w.steps (k.step s) ≡ w.steps s + 1
  pub settles_deepest : (s : S) → w.deepest (k.settle s) ≡ w.deepest s
  pub step_deepest : (s : S) → w.deepest (k.step s) ≡ max (w.deepest s) (w.top_sum s)
  pub goes_on : (budget : ℕ) (s : S) → k.before s ≡ go → k.before (left budget k s) ≡ go
  pub longer : (budget : ℕ) (s : S) → k.before s ≡ go → (call budget k s).answer ≡ refused 11 [] → (t : S) → w.longer (left budget k s) t → (more : ℕ)
      → call (suc more) k t ≡ walk more k (k.step t)
  pub start_untouched : (s : S) → w.untouched s (w.start s).state
  pub untouched : (budget : ℕ) (s : S) → w.untouched s (left budget k s)
  pub start_marked : (s : S) → w.start_checks s ≡ go → w.marked (w.start s).state
  pub marked : (budget : ℕ) (s : S) → k.before s ≡ go → w.marked (left budget k s)

module _ {S : Type 0} (k : Machine S) (w : CallTerms S) (x : Grounds k w) where
  start_refused : (s : S) (n : ℕ) (values : List ℕ) → w.start_checks s ≡ refuse n values → w.start s ≡ record { answer = refused n values; state = s }
  unfolding checked
  start_refused s n values e = rw (x.start_is s, e)

  start_goes : (s : S) → w.start_checks s ≡ go → w.start s ≡ record { answer = started; state = w.begun s }
  unfolding checked
  start_goes s e = rw (x.start_is s, e)

  starting : (s : S) → StartAnswers (w.start_rules s) (w.start s).answer
  starting s =
      rw (x.start_is s)
      (start_answers (w.start_checks s) s (λ t. record { answer = started; state = w.begun t }) refl (w.start_rules s) (x.start_renders s))

  pub after_steps : (n : ℕ) (s : S) → w.steps (after n k s) ≡ w.steps s + n
  unfolding after
  after_steps zero s = omega (arith, x.settles_steps s)
  after_steps (suc n) s = omega (arith, after_steps n (k.step (k.settle s)), x.step_steps (k.settle s), x.settles_steps s)

  counted : (budget : ℕ) (s : S) → w.steps (left budget k s) ≡ w.steps s + call_steps budget k s
  counted budget s =
      elim (check_cases (k.before s)) [
        | inl e ↦ ap w.steps (called k budget s e).state ∙ after_steps (call_steps budget k s) s
        | inr (n, values, e) ↦ let d = call_refused k s budget n values e in ap (λ o. w.steps o.state) d.0 ∙ omega (arith, d.1)
      ]

  after_deepest : (n : ℕ) (s : S) → w.deepest (after n k s) ≡ max (w.deepest s) (max_to n (λ j. w.top_sum (after j k s)))
  after_deepest = greatest k x.steady w.deepest w.top_sum x.settles_deepest x.step_deepest

  deepest : (budget : ℕ) (s : S) → w.deepest (left budget k s) ≡ max (w.deepest s) (max_to (call_steps budget k s) (λ n. w.top_sum (after n k s)))
  unfolding max_to
  deepest budget s =
      elim (check_cases (k.before s)) [
        | inl e ↦ ap w.deepest (called k budget s e).state ∙ after_deepest (call_steps budget k s) s
        | inr (n, values, e) ↦ let d = call_refused k s budget n values e in ap (λ o. w.deepest o.state) d.0 ∙ rw d.1 (omega arith)
      ]

  pub first_demand_of : FirstDemand k w
  first_demand_of =
      record {
        start_unchanged = start_refused;
        unchanged = λ budget s n values e. (call_refused k s budget n values e).0;
        starts = start_goes;
        whole_steps = λ budget s e. (called k budget s e).state;
        next = after_next k x.steady;
        counted = counted;
        paced = call_paced x.ruled;
        goes_on = x.goes_on;
        later = λ budget more s e. call_later k x.steady budget more s e (x.goes_on budget s e);
        deepest = deepest;
        deepest_after = after_deepest;
        starting_call = starting;
        continuing_call = call_answers x.ruled;
        again = λ budget s n values e. refused_again x.ruled budget s x.steady n values e (x.goes_on budget s e);
        longer = x.longer;
        start_untouched = x.start_untouched;
        untouched = x.untouched;
        start_marked = x.start_marked;
        marked = x.marked;
      }
