-- The turns of a call, written down: which run had each, the steps that it took and its answer; the last first. Assumes nothing.
use Rattle.std.specs.Prelude.{ℕ, zero, suc, ◌+◌, List, [], ◌∷◌, eqb}
use Rattle.std.proofs.Math.Option.{Option, none, some}
use Rattle.definitions.specs.Answers.{Answer, Check, refuse, go}
use Rattle.definitions.specs.Calls.{resume, resume_steps}
use Rattle.definitions.specs.Input.{Input}
use Rattle.definitions.specs.Machine.{Outcome}
use Rattle.definitions.specs.Tables.{State}
use Rattle.dispatch_spec.specs.Dispatch.{Schedule, Round, either, own, next, turn_of, after_turns, opened, dispatch_checks}

pub record Turn : Type 0 where
  pub run : ℕ
  pub steps : ℕ
  pub answer : Answer

-- a turn of run i
abbrev pub turn_taken : Schedule → ℕ → Round → Turn
turn_taken d i r = record { run = i; steps = resume_steps d.quantum (d.shares i).input (own d r i); answer = (turn_of d i r).answer }

abbrev pub written : Option ℕ → Schedule → Round → List Turn → List Turn
written none d r log = log
written (some i) d r log = turn_taken d i r ∷ log

-- the first k turns of a call
unfoldable pub turns_to : ℕ → Schedule → Round → List Turn
turns_to zero d r = []
turns_to (suc k) d r = written (next d.count (after_turns k d r)) d (after_turns k d r) (turns_to k d r)

-- the turns of a call: none where it is refused
abbrev pub turns_unless : Check → ℕ → Schedule → Round → List Turn
turns_unless (refuse n values) turns d r = []
turns_unless go turns d r = turns_to turns d (opened r)

unfoldable pub turns_of : ℕ → Schedule → Round → List Turn
turns_of turns d r = turns_unless (dispatch_checks d r) turns d r

-- the steps of all these turns
unfoldable pub taken : List Turn → ℕ
taken [] = 0
taken (t ∷ log) = t.steps + taken log

-- the steps of those of run i
unfoldable pub taken_by : ℕ → List Turn → ℕ
taken_by i [] = 0
taken_by i (t ∷ log) = either (eqb i t.run) t.steps 0 + taken_by i log

-- how many are of run i
unfoldable pub turns_by : ℕ → List Turn → ℕ
turns_by i [] = 0
turns_by i (t ∷ log) = either (eqb i t.run) 1 0 + turns_by i log

-- ---- a run alone

-- "those it would have alone from one continuing call for each of its turns, with a turn's steps as allowance; a run without a turn answers as
-- to allowance 0"
unfoldable pub alone : ℕ → ℕ → Input → State → Outcome State
alone quantum zero i s = resume 0 i s
alone quantum (suc k) i s = resume quantum i (alone quantum k i s).state
