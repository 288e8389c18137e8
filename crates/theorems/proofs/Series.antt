-- Theorems about what specs/Series.antt defines. Assumes nothing.
use Rattle.std.proofs.Common.{◌∙◌, ap}
use Rattle.std.specs.Prelude.{◌≡◌, List, ℕ}
use Rattle.definitions.specs.Answers.{refuse, refused}
use Rattle.definitions.specs.Calls.{machine, start, start_from}
use Rattle.definitions.specs.Input.{Input}
use Rattle.definitions.specs.Machine.{call, checked}
use Rattle.definitions.specs.Tables.{State}
use Rattle.theorems.specs.OwnCalls as calls
use Rattle.theorems.specs.OwnCalls.{Log, OwnCalls}
use Rattle.theorems.specs.Series.{
  Call,
  Lending,
  Series,
  begun,
  call_checks,
  continuing,
  continuing_from,
  foreign,
  leaves,
  meanwhile,
  own,
  perform,
  starting,
  starting_from,
}

pub series_calls : {i : Input} {s₀ : State} {g : Log State} → Series i s₀ g → OwnCalls (machine i) (start i s₀).state g
series_calls begun = calls.begun
series_calls (own r budget) = calls.own (series_calls r) budget
series_calls (foreign {g = g} r f left) = calls.foreign (series_calls r) (f g.state) left

-- ---- "Each one refused before its walk does so."

pub refused_outcome : (c : Call) (s : State) (n : ℕ) (values : List ℕ) → call_checks c s ≡ refuse n values
    → perform c s ≡ record { answer = refused n values; state = s }
unfolding start start_from call checked
refused_outcome (starting i) s n values e = rw e
refused_outcome (starting_from lower m) s n values e = rw e
refused_outcome (continuing budget i) s n values e = rw e
refused_outcome (continuing_from budget lower m) s n values e = rw e

-- it leaves the run's tables and record as they were, whatever of them it was handed; and so does a call of any other kind that changes nothing lent to it
pub unchanged_leaves : {L : Type 0} (f : L → L) (l : Lending L) (s : State) → f (l.handed s) ≡ l.handed s → meanwhile f l s ≡ s
unchanged_leaves f l s e = ap (l.returned s) e ∙ l.unaltered s

pub refused_leaves : (c : Call) (l : Lending State) (s : State) (n : ℕ) (values : List ℕ) → call_checks c (l.handed s) ≡ refuse n values
    → meanwhile (leaves c) l s ≡ s
refused_leaves c l s n values e = unchanged_leaves (leaves c) l s (ap (λ o. o.state) (refused_outcome c (l.handed s) n values e))
