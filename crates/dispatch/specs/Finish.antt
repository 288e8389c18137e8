-- The loop that answers for the runs and adds up their steps. Assumes nothing.
use Rattle.std.specs.Prelude.{◌≡◌, List, ℕ, zero, suc, ◌+◌, ◌*◌, ◌-◌, ◌≤◌, ◌<◌, ℤ, length, get_or, set}
use Rattle.std.proofs.Math.Path.{refl}
use Rattle.std.proofs.Common.{◌∙◌, suc-mul, add-one, arith}
use Rattle.std.proofs.Math.Decide.{ℕ_discrete}
use Rattle.std.proofs.Math.ListN.{length-set}
use Rattle.std.proofs.Math.Seq.{get_or-set_same, get_or-set_other}
use Rattle.definitions.specs.Refusals.{step_limit}
use Rattle.definitions.specs.Input.{Input}
use Rattle.definitions.specs.Tables.{State}
use Rattle.calls.specs.declared.Record.{Record}
use Rattle.calls.specs.declared.Outcome.{Outcome}
use Rattle.dispatch_spec.specs.Dispatch.{total_to}
use Rattle.dispatch_spec.specs.ResumeLaws.{Rises}
use Rattle.dispatch.specs.declared.types.Share.{Share}
use Rattle.dispatch.specs.declared.types.Progress.{Progress}
use Rattle.dispatch.specs.Form.{no_share, no_record, no_progress, no_outcome, input_for, kept_of, own_state}
use Rattle.dispatch.specs.Filling.{Filled}
use Rattle.dispatch.specs.Idle.{OutcomeFor}

-- each run's count of steps has not fallen, and has risen to no more than the limit
pub record Rising (count : ℕ) (records : List Record) (progress : List Progress) : Type 0 where
  pub rises : (i : ℕ) → i < count → Rises (get_or records i no_record).steps.0 (get_or progress i no_progress).run.steps.0

-- the steps that run i took in the call
abbrev pub took : List Record → List Progress → ℕ → ℕ
took records progress i = (get_or progress i no_progress).run.steps.0 - (get_or records i no_record).steps.0

pub took_by : {p : Progress} {m : Input} {s : State} {o : Outcome} (b : ℕ) {t : ℕ} → OutcomeFor p m s o → t ≡ o.run.steps.0 - b → t ≡ p.run.steps.0 - b
took_by b h e = rw h.run at e

-- what is answered for run i
abbrev pub AnswersFor : List Share → List ℤ → List ℕ → List ℕ → List Progress → List Outcome → ℕ → Type 0
AnswersFor shares coefs stack list progress outcomes i =
    OutcomeFor (get_or progress i no_progress) (input_for (get_or shares i no_share) coefs)
    (own_state (get_or shares i no_share).stack (get_or shares i no_share).list stack list (get_or progress i no_progress).run)
    (get_or outcomes i no_outcome)

-- the first i runs are answered for
pub record Finishing (count : ℕ) (shares : List Share) (coefs : List ℤ) (stack list : List ℕ) (records : List Record) (progress : List Progress)
    (outcomes : List Outcome) (steps i : ℕ) : Type 0 where
  pub upto : i ≤ count
  pub long : length outcomes ≡ 8
  pub each : (j : ℕ) → j < i → AnswersFor shares coefs stack list progress outcomes j
  pub others : (j : ℕ) → i ≤ j → j < 8 → get_or outcomes j no_outcome ≡ kept_of (get_or records j no_record)
  pub sum : steps ≡ total_to i (took records progress)

module _ (count : ℕ) (shares : List Share) (coefs : List ℤ) (stack list : List ℕ) (records : List Record) (progress : List Progress) where
  pub finishing_begins : (outcomes : List Outcome) → Filled 8 (λ j. kept_of (get_or records j no_record)) no_outcome outcomes 8
      → Finishing count shares coefs stack list records progress outcomes 0 0
  unfolding total_to
  finishing_begins outcomes f = record { upto = omega arith; long = f.long; each = λ j l. absurd (omega arith); others = λ j l h. f.same j h; sum = refl }

total_bound : (n b : ℕ) (f : ℕ → ℕ) → ((i : ℕ) → i < n → f i ≤ b) → total_to n f ≤ n * b
unfolding total_to
total_bound zero b f h = omega arith
total_bound (suc n) b f h = rw (suc-mul n b) (omega (arith, total_bound n b f (λ i l. h i (omega arith)), h n (omega arith)))

took_few : {count : ℕ} {records : List Record} {progress : List Progress} → Rising count records progress → (i : ℕ) → i < count
    → took records progress i ≤ step_limit
took_few r i l = omega (arith, (r.rises i l).from, (r.rises i l).top)

module _ {count : ℕ} {shares : List Share} {coefs : List ℤ} {stack list : List ℕ} {records : List Record} {progress : List Progress}
    {outcomes : List Outcome} {steps i : ℕ} (f : Finishing count shares coefs stack list records progress outcomes steps i) (few : count ≤ 8)
    (less : i < count) where
  -- the sum stays small
  pub finishing_small : Rising count records progress → {t : ℕ} → t ≡ took records progress i → steps + t ≤ 8 * step_limit
  unfolding total_to
  finishing_small r e =
      omega (arith, f.sum, total_bound i step_limit (took records progress) (λ j l. took_few r j (omega arith)), took_few r i less)

  pub finishing_more : {t : ℕ} → t ≡ took records progress i → (o : Outcome)
      → OutcomeFor (get_or progress i no_progress) (input_for (get_or shares i no_share) coefs)
      (own_state (get_or shares i no_share).stack (get_or shares i no_share).list stack list (get_or progress i no_progress).run) o
      → Finishing count shares coefs stack list records progress (set outcomes i o) (steps + t) (i + 1)
  unfolding total_to
  finishing_more e o h =
      record {
        upto = omega arith;
        long = length-set outcomes i o ∙ f.long;
        each = λ j l. elim (ℕ_discrete j i) [
          | yes q ↦ rw (q, get_or-set_same outcomes i o no_outcome (omega (arith, f.long))) h
          | no q ↦ rw (get_or-set_other outcomes i j o no_outcome q) (f.each j (omega (arith, q)))
        ];
        others = λ j l h. get_or-set_other outcomes i j o no_outcome (λ q. omega arith) ∙ f.others j (omega arith) h;
        sum = rw (add-one i, f.sum, e);
      }

pub finishing_ends : {count : ℕ} {shares : List Share} {coefs : List ℤ} {stack list : List ℕ} {records : List Record} {progress : List Progress}
    {outcomes : List Outcome} {steps i : ℕ} → Finishing count shares coefs stack list records progress outcomes steps i → count ≤ i
    → Finishing count shares coefs stack list records progress outcomes steps count
finishing_ends {count} {i = i} f l = let e : i ≡ count = omega (arith, f.upto) in rw e at f
