-- Runs from a lower bound (document 02, Job 4): the refusals of their continuing call as rules in words and order; what is in order stays so, in either walk
-- and at the change between them. Assumes nothing.
use Rattle.std.specs.Prelude.{◌≡◌, ◌≢◌, List, length, get_or}
use Prim.Native.Nat.{ℕ, ◌+◌, ◌≤◌, ◌<◌}
use Rattle.definitions.specs.Input.{Input, above_system, bound_of, limit_of, map_of}
use Rattle.definitions.specs.Refusals.{step_limit}
use Rattle.definitions.specs.Tables.{RunKind, State, capacity, capped_run, desk_by_desk, lower_above, lower_plain}
use Rattle.definitions.specs.Tables.{plain_part, plain_run}
use Rattle.laws.specs.CheckLaws.{Rules, ◌▹◌, end, rule}
use Rattle.laws.specs.RefusalLaws.{Going, InOrder, OutOfOrder, Shaped}
use Rattle.laws.specs.RefusalLaws.{range_rule}
use Rattle.laws.specs.RefusalLaws.{search_rules, shape_rules}

-- ---- refusal 6

-- "run record or tables out of order", by the walk that the record names: that walk's as in a run of its own, and of the other its list's count and its steps;
-- or a record "given to a continuing call of another kind"
pub data OutOfOrderFrom (lower : List ℕ) (i : Input) (s : State) : Type 0 where
  other : s.run.kind ≢ lower_plain → s.run.kind ≢ lower_above → OutOfOrderFrom lower i s
  plain_walk : s.run.kind ≡ lower_plain → OutOfOrder (map_of i) (plain_part s) → OutOfOrderFrom lower i s
  later_list : s.run.kind ≡ lower_plain → capacity i.q s.list < s.run.found → OutOfOrderFrom lower i s
  later_steps : s.run.kind ≡ lower_plain → step_limit < s.run.steps → OutOfOrderFrom lower i s
  above_walk : s.run.kind ≡ lower_above → OutOfOrder (above_system lower i) s → OutOfOrderFrom lower i s
  earlier_steps : s.run.kind ≡ lower_above → step_limit < s.run.steps2 → OutOfOrderFrom lower i s

-- in order, by the walk that the record names
abbrev pub InOrderBy : RunKind → List ℕ → Input → State → Type 0
InOrderBy plain_run lower i s = ⊥
InOrderBy capped_run lower i s = ⊥
InOrderBy lower_plain lower i s = InOrder (map_of i) (plain_part s) × (s.run.found ≤ capacity i.q s.list) × (s.run.steps ≤ step_limit)
InOrderBy lower_above lower i s = InOrder (above_system lower i) s × (s.run.steps2 ≤ step_limit)
InOrderBy desk_by_desk lower i s = ⊥

-- ---- the rules of the continuing call

-- "A continuing call that is handed a floor checks 5 and 8 too.": in rising number
abbrev pub resume_from_rules : List ℕ → Input → State → Rules
resume_from_rules lower i s =
    shape_rules i s
    (rule 5 (length lower ≢ i.q)
    ▹ rule 6 (OutOfOrderFrom lower i s)
    ▹ range_rule i
    ▹ rule 8 ((j : ℕ) × (j < length lower) × (limit_of i.limit < get_or lower j 0))
    ▹ end)

-- the rules of the search are those of the walk under way
abbrev pub rules_by : RunKind → Rules → Rules → Rules
rules_by plain_run a b = b
rules_by capped_run a b = b
rules_by lower_plain a b = a
rules_by lower_above a b = b
rules_by desk_by_desk a b = b

abbrev pub search_from_rules : List ℕ → Input → State → Rules
search_from_rules lower i s = rules_by s.run.kind (search_rules (map_of i) (plain_part s)) (search_rules (above_system lower i) s)

-- ---- what is known once the continuing call has made its checks

pub record ValidFrom (lower : List ℕ) (i : Input) (s : State) : Type 0 where
  pub shaped : Shaped (map_of i) s
  pub ordered : InOrderBy s.run.kind lower i s
  pub long : length lower ≡ i.q
  pub small : (j : ℕ) → j < i.q → bound_of lower j ≤ limit_of i.limit

-- ---- what a step leaves aside

-- of whichever walk: the kind of the run and the steps of the walk before; its own are one more
pub record Kept (s t : State) : Type 0 where
  pub kind : t.run.kind ≡ s.run.kind
  pub before : t.run.steps2 ≡ s.run.steps2
  pub counted : t.run.steps ≡ s.run.steps + 1

-- of a walk whose solutions all go to the first list: the second list too
pub record Aside (s t : State) : Type 0 where
  pub second : t.second ≡ s.second
  pub found2 : t.run.found2 ≡ s.run.found2

-- ---- what is in order stays so

-- the step of the walk under way may be taken
abbrev pub GoingFrom : List ℕ → Input → State → Type 0
GoingFrom lower i s = (s.run.kind ≡ lower_plain → Going (map_of i) (plain_part s)) × (s.run.kind ≡ lower_above → Going (above_system lower i) s)
