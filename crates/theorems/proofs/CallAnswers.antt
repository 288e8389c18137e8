-- Theorems about what specs/CallAnswers.antt defines. Assumes nothing.
use Rattle.std.specs.Prelude.{◌≡◌, refl, ◌⊎◌, List, ℕ, zero, suc, ◌+◌, ◌<◌}
use Rattle.std.proofs.Common.{sym, ◌∙◌, ap, suc-add, zero-add, arith}
use Rattle.std.proofs.Math.Logic.{inl, inr}
use Rattle.std.proofs.Math.Decide.{ℕ_discrete}
use Rattle.definitions.specs.Answers.{Answer, Check, go, paused, refuse, refused, started}
use Rattle.definitions.specs.Machine.{Machine, Outcome, after, call, call_steps, checked, walk}
use Rattle.laws.specs.CheckLaws.{AllSilent, FirstDue, Renders, Rules}
use Rattle.laws.proofs.CheckLaws.{check_cases, refuse_not_go}
use Rattle.laws.proofs.LowerWalk.{walk_steps_few}
use Rattle.laws.proofs.MachineLaws.{call_refused, call_walks, walk_done, walk_more, walk_paused, walk_refused, walk_settled}
use Rattle.theorems.specs.WholeSteps.{Ends, Goes, Steady, call_going, called, completes, pauses, refuses}
use Rattle.theorems.proofs.WholeSteps.{settled_after}
use Rattle.theorems.specs.CallAnswers.{CallAnswers, Paced, Ruled, StartAnswers, left, outcome}

module _ {S : Type 0} (c : Check) (s : S) (work : S → Outcome S) (works : (work s).answer ≡ started) (rules : Rules) (r : Renders c rules) where
  answers_when : (((outcome c s work works rules r).answer ≡ started) × (c ≡ go)) ⊎
      ((n : ℕ) × (values : List ℕ) × (c ≡ refuse n values) × ((outcome c s work works rules r).answer ≡ refused n values))
  unfolding checked
  answers_when = elim (check_cases c) [ inl e ↦ inl (rw e works, e) | inr (n, values, e) ↦ inr (n, values, e, rw e) ]

  pub start_answers : StartAnswers rules (outcome c s work works rules r).answer
  start_answers =
      elim answers_when [
        | inl (a, e) ↦ record {
          refuses = λ n values. (
            λ b. absurd (let z : ◌≡◌ {A = ℕ} 0 1 = cc in omega arith),
            λ d. absurd (refuse_not_go {n = n} {values = values} (cc (r.due n values d))),
          );
          starts = (λ b. r.goes e, λ d. a);
        }
        | inr (k, vs, e, a) ↦ record {
          refuses = λ n values. (λ b. r.refuses n values (cc), λ d. cc (r.due n values d));
          starts = (λ b. absurd (let z : ◌≡◌ {A = ℕ} 0 1 = cc in omega arith), λ d. absurd (refuse_not_go {n = k} {values = vs} (cc (r.silent d))));
        }
      ]

-- refused before the walk
module _ {before : Rules} {c : Check} (r : Renders c before) {n₀ : ℕ} {vs : List ℕ} (e : c ≡ refuse n₀ vs) where
  loud : AllSilent before → ⊥
  loud q = refuse_not_go {n = n₀} {values = vs} (cc (r.silent q))

  refused_answers : (within : Rules) (budget taken height : ℕ) → CallAnswers before within budget taken height (refused n₀ vs)
  refused_answers within budget taken height =
      record {
        completes = (λ b. absurd (let z : ◌≡◌ {A = ℕ} 0 1 = cc in omega arith), λ (q, h). absurd (loud q));
        pauses = (λ b. absurd (let z : ◌≡◌ {A = ℕ} 0 1 = cc in omega arith), λ (q, h, k). absurd (loud q));
        refuses = λ n values. (
          λ b. inl (r.refuses n values (cc)),
          λ d. elim d [ inl y ↦ cc (r.due n values y) | inr (q, h, k, y) ↦ absurd (loud q) ],
        );
        never = λ b. let z : ◌≡◌ {A = ℕ} 0 1 = cc in omega arith;
      }

-- let go on
module _ {S : Type 0} {k : Machine S} {before within : S → Rules} (ruled : Ruled k before within) (budget : ℕ) (s : S) (e : k.before s ≡ go) where
  quiet : AllSilent (before s)
  quiet = (ruled.before_renders s).goes e

  pub not_before : (n : ℕ) (values : List ℕ) → FirstDue (before s) n values → ⊥
  not_before n values y = refuse_not_go {n = n} {values = values} (cc ((ruled.before_renders s).due n values y))

  ends_answers : {t : S} {i : ℕ} {a : Answer} → Ends budget i k t a → CallAnswers (before s) (within t) budget i (k.height t) a
  ends_answers (completes h) =
      record {
        completes = (λ b. (quiet, h), λ d. refl);
        pauses = (λ b. absurd (let z : ◌≡◌ {A = ℕ} 0 1 = cc in omega arith), λ (q, p, k). absurd (omega arith));
        refuses = λ n values. (
          λ b. absurd (let z : ◌≡◌ {A = ℕ} 0 1 = cc in omega arith),
          λ d. elim d [ inl y ↦ absurd (not_before n values y) | inr (q, p, k, y) ↦ absurd (omega arith) ],
        );
        never = λ b. let z : ◌≡◌ {A = ℕ} 0 1 = cc in omega arith;
      }
  ends_answers (pauses h u) =
      record {
        completes = (λ b. absurd (let z : ◌≡◌ {A = ℕ} 0 1 = cc in omega arith), λ (q, p). absurd (omega arith));
        pauses = (λ b. (quiet, h, u), λ d. refl);
        refuses = λ n values. (
          λ b. absurd (let z : ◌≡◌ {A = ℕ} 0 1 = cc in omega arith),
          λ d. elim d [ inl y ↦ absurd (not_before n values y) | inr (q, p, l, y) ↦ absurd (omega arith) ],
        );
        never = λ b. let z : ◌≡◌ {A = ℕ} 0 1 = cc in omega arith;
      }
  ends_answers {t = t} (refuses r vs h l f) =
      record {
        completes = (λ b. absurd (let z : ◌≡◌ {A = ℕ} 0 1 = cc in omega arith), λ (q, p). absurd (omega arith));
        pauses = (λ b. absurd (let z : ◌≡◌ {A = ℕ} 0 1 = cc in omega arith), λ (q, p, k). absurd (omega arith));
        refuses = λ n values. (
          λ b. inr (quiet, h, l, (ruled.within_renders t).refuses n values (cc)),
          λ d. elim d [ inl y ↦ absurd (not_before n values y) | inr (q, p, k, y) ↦ cc ((ruled.within_renders t).due n values y) ],
        );
        never = λ b. let z : ◌≡◌ {A = ℕ} 0 1 = cc in omega arith;
      }

module _ {S : Type 0} {k : Machine S} {before within : S → Rules} (ruled : Ruled k before within) (budget : ℕ) (s : S) where
  pub call_answers : CallAnswers (before s) (within (left ruled budget s)) budget (call_steps budget k s) (k.height (left ruled budget s))
      (call budget k s).answer
  call_answers =
      elim (check_cases (k.before s)) [
        | inl e ↦ ends_answers ruled budget s e (called k budget s e).ends
        | inr (r, vs, e) ↦ rw (ap (λ o. o.answer) (call_refused k s budget r vs e).0)
            (refused_answers (ruled.before_renders s) e (within (left ruled budget s)) budget (call_steps budget k s) (k.height (left ruled budget s)))
      ]

  -- what the search refused, it refuses in the state that is left
  pub refused_there : (n : ℕ) (values : List ℕ) → k.before s ≡ go → (call budget k s).answer ≡ refused n values
      → (0 < k.height (left ruled budget s)) × (k.refusals (left ruled budget s) ≡ refuse n values)
  refused_there n values e a =
      elim ((call_answers.refuses n values).0 a) [
        | inl y ↦ absurd (not_before ruled budget s e n values y)
        | inr (q, h, l, y) ↦ (h, (ruled.within_renders (left ruled budget s)).due n values y)
      ]

  -- "the same call again refuses again", with any budget above 0, if its checks let it go on
  pub refused_again : Steady k → (n : ℕ) (values : List ℕ) → k.before s ≡ go → k.before (left ruled budget s) ≡ go → (call budget k s).answer ≡ refused n values
      → (more : ℕ)
      → call (suc more) k (left ruled budget s) ≡ record { answer = refused n values; state = (left ruled budget s) }
  refused_again steady n values e f a more =
      let (h, r) = refused_there n values e a in
      let same : k.settle (left ruled budget s) ≡ (left ruled budget s) =
      ap k.settle (called k budget s e).state ∙ settled_after k steady (call_steps budget k s) s
      ∙ sym (called k budget s e).state in
      (call_walks k (left ruled budget s) (suc more) f).0 ∙ (walk_refused k (left ruled budget s) more n values (rw same h) (rw same r)).0
      ∙ ap (λ t. record { answer = refused n values; state = t }) same

-- "after 11 a longer list table with the same rows may be given": where what stood in the way is gone, the call takes the step that was refused
pub goes_on : {S : Type 0} (k : Machine S) (s : S) → k.before s ≡ go → Goes k (k.settle s) → (more : ℕ)
    → call (suc more) k s ≡ walk more k (k.step (k.settle s))
goes_on k s e (h, f) more = (call_walks k s (suc more) e).0 ∙ (walk_more k s more h f).0

pub call_paced : {S : Type 0} {k : Machine S} {before within : S → Rules} → Ruled k before within → (budget : ℕ) (s : S) → Paced k within budget s
call_paced {k = k} ruled budget s =
    elim (check_cases (k.before s)) [
      | inl e ↦ record {
        few = rw (call_walks k s budget e).1 (walk_steps_few k budget s);
        high = λ n l. (call_going k budget s e n l).0;
        silent = λ n l. (ruled.within_renders (after n k s)).goes (call_going k budget s e n l).1;
      }
      | inr (r, values, e) ↦
          let none = (call_refused k s budget r values e).1 in
          record { few = omega (arith, none); high = λ n l. absurd (omega (arith, none)); silent = λ n l. absurd (omega (arith, none)) }
    ]

-- ---- "A paused run goes on in a later call."

module _ {S : Type 0} (k : Machine S) (steady : Steady k) where
  walk_later : (n more : ℕ) (s : S) → (walk n k s).answer ≡ paused → walk more k (walk n k s).state ≡ walk (n + more) k s
  walk_later zero more s a = rw zero-add (first (ℕ_discrete (k.height (k.settle s)) 0))
    where
      first : Dec (k.height (k.settle s) ≡ 0) → walk more k (walk 0 k s).state ≡ walk more k s
      first (yes e) = absurd (let z : ◌≡◌ {A = ℕ} 0 1 = cc (walk_done k s 0 e).0 in omega arith)
      first (no ne) =
          ap (λ o. walk more k o.state) (walk_paused k s (omega (arith, ne))).0 ∙ (walk_settled k s (steady s) more).0
  walk_later (suc n) more s a =
      rw suc-add (turn (ℕ_discrete (k.height here) 0) (check_cases (k.refusals here)) (walk_later n more (k.step here)))
    where
      here : S
      here = k.settle s

      turn : Dec (k.height here ≡ 0) → (k.refusals here ≡ go) ⊎ ((r : ℕ) × (values : List ℕ) × (k.refusals here ≡ refuse r values))
          → ((walk n k (k.step here)).answer ≡ paused → walk more k (walk n k (k.step here)).state ≡ walk (n + more) k (k.step here))
          → walk more k (walk (suc n) k s).state ≡ walk (suc (n + more)) k s
      turn (yes e) c next = absurd (let z : ◌≡◌ {A = ℕ} 0 1 = cc (walk_done k s (suc n) e).0 in omega arith)
      turn (no ne) (inr (r, values, e)) next =
          absurd (let z : ◌≡◌ {A = ℕ} 0 1 = cc (walk_refused k s n r values (omega (arith, ne)) e).0 in omega arith)
      turn (no ne) (inl e) next =
          let w = (walk_more k s n (omega (arith, ne)) e).0 in
          ap (λ o. walk more k o.state) w ∙ next (sym (ap (λ o. o.answer) w) ∙ a) ∙ sym (walk_more k s (n + more) (omega (arith, ne)) e).0

  -- what a call with one budget and a later one with another come to, one call with both comes to
  pub call_later : (budget more : ℕ) (s : S) → k.before s ≡ go → k.before (call budget k s).state ≡ go → (call budget k s).answer ≡ paused
      → call more k (call budget k s).state ≡ call (budget + more) k s
  call_later budget more s e f a =
      let w = (call_walks k s budget e).0 in
      (call_walks k (call budget k s).state more f).0 ∙ ap (λ o. walk more k o.state) w
      ∙ walk_later budget more s (sym (ap (λ o. o.answer) w) ∙ a) ∙ sym (call_walks k s (budget + more) e).0
