-- The dispatcher's types as the definitions have them. Assumes nothing.
use Rattle.std.specs.Prelude.{ℕ, Bool, true, false, not, ◌&&◌, ◌||◌, List, [], eqb, ltb, ℤ, get_or, Option, Some, None, Result, Ok, Err}
use Rattle.std.proofs.Math.Option as math
use Rattle.definitions.specs.Answers as paper
use Rattle.definitions.specs.Answers.{◌then◌}
use Rattle.definitions.specs.Input.{Input, input_of}
use Rattle.definitions.specs.Machine as machine
use Rattle.definitions.specs.Refusals.{between}
use Rattle.definitions.specs.Tables.{State}
use Rattle.calls.specs.Paper.{answer_of, plain_record, run_of, state_of}
use Rattle.calls.specs.declared.Record.{Record}
use Rattle.calls.specs.declared.Outcome.{Outcome}
use Rattle.calls.specs.declared.Answer.{Answer}
use Rattle.calls.specs.declared.Answer.TheVariants.{Started}
use Rattle.dispatch_spec.specs.Parts as parts
use Rattle.dispatch_spec.specs.Parts.{part_in, part_of, with_part, apart}
use Rattle.dispatch_spec.specs.Dispatch as form
use Rattle.dispatch_spec.specs.Dispatch.{stays_in}
use Rattle.dispatch.specs.declared.types.Part.{Part}
use Rattle.dispatch.specs.declared.types.Share.{Share}
use Rattle.dispatch.specs.declared.types.Progress.{Progress}
use Rattle.dispatch.specs.declared.types.Fault.{Fault}
use Rattle.dispatch.specs.declared.types.Fault.TheVariants.{Schedule, Parts}

-- ---- places of an array past its end, which are never asked for

abbrev pub no_part : Part
no_part = record { start = 0; size = 0 }

abbrev pub no_share : Share
no_share = record { p = 0; q = 0; coefs = no_part; stack = no_part; list = no_part }

abbrev pub no_record : Record
no_record = plain_record 0 (record { 0 = 0 }) (record { 0 = 0 })

abbrev pub no_progress : Progress
no_progress = record { run = no_record; last = None }

abbrev pub no_outcome : Outcome
no_outcome = record { answer = Started; run = no_record }

-- ---- runs

abbrev pub part_for : Part → parts.Part
part_for a = record { start = a.start; size = a.size }

-- a run's coefficients are those that lie in its part of the slice; of a part that leaves the slice there are none, which is the run's own refusal 3
abbrev pub input_for : Share → List ℤ → Input
input_for share coefs = input_of share.p share.q (part_in (part_for share.coefs) coefs)

abbrev pub share_for : Share → List ℤ → form.Share
share_for share coefs = record { input = input_for share coefs; stack_part = part_for share.stack; list_part = part_for share.list }

abbrev pub schedule_for : ℕ → List Share → List ℤ → ℕ → form.Schedule
schedule_for count shares coefs quantum = record { count = count; shares = λ i. share_for (get_or shares i no_share) coefs; quantum = quantum }

-- a run's part of the list table, or of the stack table
abbrev pub chosen : Bool → Share → parts.Part
chosen true share = part_for share.list
chosen false share = part_for share.stack

-- the parts of one table
abbrev pub parts_at : List Part → ℕ → parts.Part
parts_at all i = part_for (get_or all i no_part)

abbrev pub part_at : Bool → List Share → ℕ → parts.Part
part_at of_list shares i = chosen of_list (get_or shares i no_share)

-- ---- refusals

-- the number of a refusal
abbrev pub fault_of : Fault → ℕ
fault_of Schedule = 27
fault_of Parts = 28

abbrev pub verdict_of : Result (Unit {0}) Fault → paper.Check
verdict_of (Err why) = paper.refuse (fault_of why) []
verdict_of (Ok _) = paper.go

-- 27 and 28, from what they look at
unfoldable pub checks_for : ℕ → List Share → ℕ → ℕ → ℕ → ℕ → paper.Check
checks_for count shares quantum last stack_length list_length =
    paper.refuse_if (not (between 1 form.most_runs count) || (eqb quantum 0 || ltb form.most_runs last)) 27
    then paper.refuse_if (not (apart count stack_length (part_at false shares) && apart count list_length (part_at true shares))) 28

-- ---- how far the runs have come

abbrev pub last_of : Option Answer → math.Option paper.Answer
last_of (Some a) = math.some (answer_of a)
last_of None = math.none

abbrev pub progress_of : Progress → form.Progress
progress_of p = record { run = run_of p.run; answer = last_of p.last }

abbrev pub round_for : List ℕ → List ℕ → List Progress → ℕ → form.Round
round_for stack list progress last = record { stack = stack; list = list; progress = λ i. progress_of (get_or progress i no_progress); last = last }

abbrev pub stays_for : List Progress → ℕ → Bool
stays_for progress i = stays_in (get_or progress i no_progress).run.height (last_of (get_or progress i no_progress).last)

abbrev pub found_of : Option ℕ → math.Option ℕ
found_of (Some i) = math.some i
found_of None = math.none

-- what a turn leaves of a run
abbrev pub turned : Outcome → Progress
turned o = record { run = o.run; last = Some o.answer }

-- a run's record before a call
abbrev pub unserved_of : Record → Progress
unserved_of r = record { run = r; last = None }

-- where no run is answered for: "started", which no continuing call answers, and the record as it was handed over
abbrev pub kept_of : Record → Outcome
kept_of r = record { answer = Started; run = r }

-- ---- a call on parts of the tables

-- a run by itself: what lies in its parts, and its record
abbrev pub own_state : Part → Part → List ℕ → List ℕ → Record → State
own_state a b stack list r = state_of (part_of (part_for a) stack) (part_of (part_for b) list) r

-- what a call on the parts left, with the tables whole
abbrev pub placed : Part → Part → List ℕ → List ℕ → machine.Outcome State → machine.Outcome State
placed a b stack list o =
    record {
      answer = o.answer;
      state =
          record {
            stack = with_part (part_for a) stack o.state.stack;
            list = with_part (part_for b) list o.state.list;
            second = o.state.second;
            run = o.state.run;
          };
    }
