-- The run record and all that is lent are those of every kind of run (document 01, "The tables"). How a start, a step and a sweep of a run desk by desk leave
-- the record, and the test of its kind. Assumes nothing.
use Rattle.std.specs.Prelude.{ℕ, Bool, List, [], ◌≡◌}
use Rattle.definitions.specs.Tables.{Record, RunKind, State, begun, desk_by_desk, is_run, stepped}

-- the record of a run that has taken no step
abbrev pub desk_begun : ℕ → Record
desk_begun height = begun desk_by_desk height

-- after one step more: the height, the number found and the greatest sum that it leaves. A run desk by desk has no second list and no walk before it: what the
-- record holds of them is kept.
abbrev pub desk_stepped : Record → ℕ → ℕ → ℕ → Record
desk_stepped r height found deepest = stepped r height found r.found2 deepest

-- after a sweep, which leaves some of the rows found
abbrev pub recounted : Record → ℕ → Record
recounted r found =
    record { kind = r.kind; height = r.height; found = found; steps = r.steps; found2 = r.found2; steps2 = r.steps2; deepest = r.deepest }

-- what was lent, with another stack table, list table and record
abbrev pub lent_with : State → List ℕ → List ℕ → Record → State
lent_with s stack list run = record { stack = stack; list = list; second = s.second; run = run }

-- "A record of one kind of run .. given to a continuing call of another kind is 6.": the test, and what it says
abbrev pub is_desk : Record → Bool
is_desk r = is_run r.kind desk_by_desk

abbrev pub IsDesk : Record → Type 0
IsDesk r = r.kind ≡ desk_by_desk

-- ---- for examples: a record and a state with these parts

abbrev pub record_of : RunKind → ℕ → ℕ → ℕ → ℕ → Record
record_of kind height found steps deepest =
    record { kind = kind; height = height; found = found; steps = steps; found2 = 8; steps2 = 7; deepest = deepest }

abbrev pub state_of : List ℕ → List ℕ → Record → State
state_of stack list run = record { stack = stack; list = list; second = []; run = run }
