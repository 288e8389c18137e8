-- The calls' types as document 01 has them: a system, all that is lent, and for each case of an answer its number and values. Assumes nothing.
use Rattle.std.specs.Prelude.{ℕ, List, [], ◌∷◌, ℤ, Result, Ok, Err}
use Rattle.definitions.specs.Answers as paper
use Rattle.definitions.specs.Machine as machine
use Rattle.definitions.specs.System.{Kind, System, plain}
use Rattle.definitions.specs.Tables as tables
use Rattle.definitions.specs.Tables.{State}
use Rattle.calls.specs.declared.Record.{Record}
use Rattle.calls.specs.declared.RunKind.{RunKind}
use Rattle.calls.specs.declared.RunKind.TheVariants.{Plain, Capped, LowerPlain, LowerAbove, Desks}
use Rattle.calls.specs.declared.Solutions.{Solutions}
use Rattle.calls.specs.declared.Steps.{Steps}
use Rattle.calls.specs.declared.Refusal.{Refusal}
use Rattle.calls.specs.declared.Refusal.TheVariants.{Equations, Unknowns, CoefficientCount, TableLength, BoundLength, OutOfOrder, Coefficient}
use Rattle.calls.specs.declared.Refusal.TheVariants.{BoundRange, ListFull, ComponentLimit, StepLimit, RightSide, SeatUnknowns, SeatComponent}
use Rattle.calls.specs.declared.Refusal.TheVariants.{Generators, Column, TablesFull, NotLeft, NotFresh, NotOperation, ShiftedSide}
use Rattle.calls.specs.declared.Answer.{Answer}
use Rattle.calls.specs.declared.Answer.TheVariants.{Started, Complete, Paused, Refused}
use Rattle.calls.specs.declared.Outcome.{Outcome}

-- the system that a walk of a kind goes through
abbrev pub system_with : Kind → ℕ → ℕ → List ℤ → ℕ → System
system_with kind p q coefs limit = record { p = p; q = q; coefs = coefs; kind = kind; limit = limit }

abbrev pub plain_system : ℕ → ℕ → List ℤ → ℕ → System
plain_system p q coefs limit = system_with plain p q coefs limit

abbrev pub kind_of : RunKind → tables.RunKind
kind_of Plain = tables.plain_run
kind_of Capped = tables.capped_run
kind_of LowerPlain = tables.lower_plain
kind_of LowerAbove = tables.lower_above
kind_of Desks = tables.desk_by_desk

abbrev pub run_of : Record → tables.Record
run_of r =
    record {
      kind = kind_of r.kind;
      height = r.height;
      found = r.found.0;
      steps = r.steps.0;
      found2 = r.found2.0;
      steps2 = r.steps2.0;
      deepest = r.deepest;
    }

-- what is lent to a call with two lists; and to one with a single list, whose second one is empty
abbrev pub state_with : List ℕ → List ℕ → List ℕ → Record → State
state_with stack list second r = record { stack = stack; list = list; second = second; run = run_of r }

abbrev pub state_of : List ℕ → List ℕ → Record → State
state_of stack list r = state_with stack list [] r

-- the number of a refusal
abbrev pub number_of : Refusal → ℕ
number_of Equations = 1
number_of Unknowns = 2
number_of CoefficientCount = 3
number_of TableLength = 4
number_of BoundLength = 5
number_of OutOfOrder = 6
number_of (Coefficient place) = 7
number_of BoundRange = 8
number_of ListFull = 11
number_of ComponentLimit = 12
number_of StepLimit = 14
number_of RightSide = 15
number_of SeatUnknowns = 23
number_of SeatComponent = 24
number_of Generators = 25
number_of (Column column) = 26
number_of TablesFull = 31
number_of NotLeft = 32
number_of NotFresh = 33
number_of NotOperation = 34
number_of (ShiftedSide place) = 35

-- the values that it comes with: 7 and 35 have the place, and 26 the column
abbrev pub values_of : Refusal → List ℕ
values_of Equations = []
values_of Unknowns = []
values_of CoefficientCount = []
values_of TableLength = []
values_of BoundLength = []
values_of OutOfOrder = []
values_of (Coefficient place) = place ∷ []
values_of BoundRange = []
values_of ListFull = []
values_of ComponentLimit = []
values_of StepLimit = []
values_of RightSide = []
values_of SeatUnknowns = []
values_of SeatComponent = []
values_of Generators = []
values_of (Column column) = column ∷ []
values_of TablesFull = []
values_of NotLeft = []
values_of NotFresh = []
values_of NotOperation = []
values_of (ShiftedSide place) = place ∷ []

-- the first of them, and 0 where there is none
abbrev pub value : List ℕ → ℕ
value [] = 0
value (x ∷ others) = x

abbrev pub answer_of : Answer → paper.Answer
answer_of Started = paper.started
answer_of Complete = paper.complete
answer_of Paused = paper.paused
answer_of (Refused why) = paper.refused (number_of why) (values_of why)

-- what a check finds: a refusal, or nothing against going on
abbrev pub check_of : Result (Unit {0}) Refusal → paper.Check
check_of (Err why) = paper.refuse (number_of why) (values_of why)
check_of (Ok _) = paper.go

-- ---- what a call leaves

-- a run record of its parts
abbrev pub record_of : RunKind → ℕ → Solutions → Steps → Solutions → Steps → ℕ → Record
record_of kind height found steps found2 steps2 deepest =
    record { kind = kind; height = height; found = found; steps = steps; found2 = found2; steps2 = steps2; deepest = deepest }

-- that of a plain run that shows no depth yet
abbrev pub plain_record : ℕ → Solutions → Steps → Record
plain_record height found steps = record_of Plain height found steps (record { 0 = 0 }) (record { 0 = 0 }) 0

-- what the plain walk of a run from a lower bound sees of it (`plain_part` of the definitions)
abbrev pub plain_part_of : Record → Record
plain_part_of r = record_of Plain r.height r.found2 r.steps2 r.found r.steps r.deepest

abbrev pub left_with : Answer → List ℕ → List ℕ → List ℕ → Record → machine.Outcome State
left_with a stack list second r = record { answer = answer_of a; state = state_with stack list second r }

abbrev pub left_by : Answer → List ℕ → List ℕ → Record → machine.Outcome State
left_by a stack list r = left_with a stack list [] r

abbrev pub outcome_with : Outcome → List ℕ → List ℕ → List ℕ → machine.Outcome State
outcome_with o stack list second = left_with o.answer stack list second o.run

abbrev pub outcome_of : Outcome → List ℕ → List ℕ → machine.Outcome State
outcome_of o stack list = outcome_with o stack list []

-- an answer with a record r whose counts and depth have moved
abbrev pub leaves : Answer → Record → ℕ → ℕ → ℕ → ℕ → ℕ → Outcome
leaves answer r height found steps found2 deepest =
    record { answer = answer; run = record_of r.kind height (record { 0 = found }) (record { 0 = steps }) (record { 0 = found2 }) r.steps2 deepest }

-- begun
abbrev pub begins : RunKind → ℕ → Outcome
begins kind height = record { answer = Started; run = record_of kind height (record { 0 = 0 }) (record { 0 = 0 }) (record { 0 = 0 }) (record { 0 = 0 }) 0 }

-- refused before the walk
abbrev pub refuses : Refusal → Record → Outcome
refuses why r = record { answer = Refused why; run = r }
