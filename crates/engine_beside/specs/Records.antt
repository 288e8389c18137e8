-- The record, what is lent and what a call leaves, as the definitions have them; and a call after its check. Assumes nothing.
use Rattle.std.specs.Prelude.{ℕ, List, ◌≡◌, ℤ, Result, Ok, Err, length}
use Rattle.definitions.specs.Answers as paper
use Rattle.engine_spec.specs.Calls.{Lengths, checked}
use Rattle.engine_spec.specs.Engine.{Result as Left, Work, result}
use Rattle.engine_spec.specs.Stage.{Stage}
use Rattle.calls.specs.Paper.{answer_of, check_of}
use Rattle.calls.specs.declared.Answer.{Answer}
use Rattle.calls.specs.declared.Answer.TheVariants.{Refused}
use Rattle.calls.specs.declared.Refusal.{Refusal}
use Rattle.engine_beside.specs.declared.Beside.{Beside}
use Rattle.engine_beside.specs.declared.Outcome.{Outcome}
use Rattle.engine_beside.specs.declared.Record.{Record}

-- ---- the record, and what is lent

abbrev pub record_of : (done equation fresh count rows taken degree upper lower steps cap : ℕ) → Record
record_of done equation fresh count rows taken degree upper lower steps cap =
    record {
      done = done;
      equation = equation;
      fresh = fresh;
      count = record { 0 = count };
      rows = rows;
      taken = taken;
      degree = degree;
      upper = upper;
      lower = lower;
      steps = record { 0 = steps };
      cap = cap;
    }

abbrev pub stage_of : List ℕ → Record → Stage
stage_of table r =
    record { table = table; rows = r.rows; taken = r.taken; degree = r.degree; upper = r.upper; lower = r.lower; steps = r.steps.0; cap = r.cap }

abbrev pub work_of : List ℤ → List ℕ → List ℕ → Record → Work
work_of equations basis table r =
    record {
      equations = equations;
      basis = basis;
      count = r.count.0;
      done = r.done;
      equation = r.equation;
      fresh = r.fresh;
      stage = stage_of table r;
    }

abbrev pub lengths_of : List ℕ → List ℕ → Beside → Lengths
lengths_of basis table l =
    record {
      basis = length basis;
      sizes = l.sizes;
      table = length table;
      values = l.values;
      words = l.words;
      degrees = l.degrees;
      marks = l.marks;
      mothers = l.mothers;
    }

abbrev pub beside_of : (sizes values words degrees marks mothers : ℕ) → Beside
beside_of sizes values words degrees marks mothers =
    record { sizes = sizes; values = values; words = words; degrees = degrees; marks = marks; mothers = mothers }

-- ---- what a call leaves

abbrev pub leaves : Answer → Record → Outcome
leaves answer r = record { answer = answer; run = r }

abbrev pub refused_with : Refusal → Record → Outcome
refused_with why r = leaves (Refused why) r

abbrev pub outcome_of : Outcome → List ℤ → List ℕ → List ℕ → Left
outcome_of o equations basis table = result (answer_of o.answer) (work_of equations basis table o.run)

-- ---- a call after its check

module _ {r : Result (Unit {0}) Refusal} {c : paper.Check} (e : check_of r ≡ c) (equations : List ℤ) (basis table : List ℕ) (p : Record)
    (work : Work → Left) where
  pub call_refused : {why : Refusal} → r ≡ Err why → outcome_of (refused_with why p) equations basis table ≡ checked c (work_of equations basis table p) work
  unfolding checked
  call_refused g = rw (← e, g)

  pub call_passed : {x : Unit {0}} → r ≡ Ok x → {o : Left} → o ≡ work (work_of equations basis table p) → o ≡ checked c (work_of equations basis table p) work
  unfolding checked
  call_passed g h = rw (← e, g) h
