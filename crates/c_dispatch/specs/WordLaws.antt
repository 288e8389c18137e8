-- A call on words, as the code goes about it. Assumes nothing.
use Rattle.std.specs.Prelude.{ℕ, ◌≤◌, ◌≡◌, List, ℤ, length, get_or, set, Result, Ok, Err}
use Rattle.calls.specs.Paper.{answer_of, run_of}
use Rattle.calls.specs.declared.Outcome.{Outcome}
use Rattle.dispatch_spec.specs.Dispatch as form
use Rattle.dispatch_spec.specs.Dispatch.{dispatch}
use Rattle.dispatch.specs.Form.{fault_of, no_outcome}
use Rattle.dispatch.specs.declared.types.Dispatched.{Dispatched}
use Rattle.dispatch.specs.declared.types.Fault.{Fault}
use Rattle.c_dispatch.specs.Words.{round_in}
use Rattle.c_dispatch.specs.Words.{schedule_in, write_runs}

-- ---- writing

-- the words with the first n of the outcomes written
abbrev pub left_by : ℕ → List ℕ → List Outcome → List ℕ
left_by n words outcomes = write_runs n words (λ i. run_of (get_or outcomes i no_outcome).run) (λ i. answer_of (get_or outcomes i no_outcome).answer)

abbrev pub served_by : List ℕ → Dispatched → List ℕ
served_by words d = left_by 8 (set (set words 0 d.last) 1 d.steps.0) d.outcomes

-- what is told of a call by value
abbrev pub told_by : Result (Unit {0}) Fault → List ℕ → Dispatched → ℕ × List ℕ
told_by (Err why) words d = (fault_of why, words)
told_by (Ok _) words d = (110, served_by words d)

-- a call that is not refused was handed as many words as it writes
abbrev pub Fitting : Result (Unit {0}) Fault → List ℕ → Type 0
Fitting (Err why) words = Unit {0}
Fitting (Ok _) words = length words ≡ 74

-- the loop that writes the runs, after i of them
pub record Writing (outcomes : List Outcome) (words₀ words : List ℕ) (i : ℕ) : Type 0 where
  pub upto : i ≤ 8
  pub long : length words ≡ 74
  pub same : words ≡ left_by i words₀ outcomes

module _ (count quantum turns : ℕ) (shares : List ℕ) (coefs : List ℤ) (stack list words : List ℕ) where
  abbrev pub served : form.Dispatched
  served = dispatch turns (schedule_in count quantum shares coefs) (round_in stack list words)
