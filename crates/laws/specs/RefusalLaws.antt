-- Document 01's refusals as rules in its words and order, and that the checks of `Refusals` render them; and what is known once a check has let
-- a call go on. Assumes nothing.
use Rattle.std.specs.Prelude.{◌≡◌, ◌≢◌, ◌⊎◌, Bool, true, false, List, ℕ, ◌+◌, ◌*◌, ◌-◌, ◌^◌, ◌≤◌, ◌<◌, T, pos, nat_abs, length, get_or}
use Rattle.linear.specs.Systems.{Fails, Solution}
use Rattle.linear.specs.Tests.{all_to, count_to}
use Rattle.linear.specs.Tuples.{AtOrBelow}
use Rattle.definitions.specs.Input.{Extra, Input, alone, limit_of, rights, system_of}
use Rattle.definitions.specs.Refusals.{deepest_limit, most_for}
use Rattle.definitions.specs.Refusals.{row_in_order, step_limit}
use Rattle.definitions.specs.Step.{makes, row_width, to_second, top, width}
use Rattle.definitions.specs.System.{Kind, System, above, capped, coef, coef_limit, most_component, most_equations, most_unknowns, plain, solves}
use Rattle.definitions.specs.Tables.{State, at, capacity, frozen, run_for}
use Rattle.laws.specs.CheckLaws.{AllSilent, Rule, Rules, ◌▹◌, end, placed}
use Rattle.laws.specs.CheckLaws.{rule}

-- ---- the cases

-- n is outside a to b
abbrev pub Outside : ℕ → ℕ → ℕ → Type 0
Outside a b n = (n < a) ⊎ (b < n)

-- what 6 asks of the tuple of a row besides its components: of a capped walk the first is at most 1, a floor walk's tuples are at or above the floor
abbrev pub Inside : Kind → ℕ → (ℕ → ℕ) → Type 0
Inside plain q x = Unit {0}
Inside capped q x = x 0 ≤ 1
Inside (above f) q x = AtOrBelow q f x

-- "in rows 1 to height a component above 1,000,000, a mark beyond unknown q, or a mark count other than k − 1 in row k" (from 0 here); "a capped component
-- above 1"; "a floor-walk row not at or above the floor"
pub data BadRow (kind : Kind) (limit q : ℕ) (stack : List ℕ) (k : ℕ) : Type 0 where
  large : (j : ℕ) → j < q → limit < at stack (q + 1) k j → BadRow kind limit q stack k
  beyond : 2 ^ q ≤ at stack (q + 1) k q → BadRow kind limit q stack k
  miscounted : count_to q (frozen (at stack (q + 1) k q)) ≢ k → BadRow kind limit q stack k
  outside : ¬ (Inside kind q (at stack (q + 1) k)) → BadRow kind limit q stack k

-- where there are two lists, the count of the second is within its room
abbrev pub SecondFits : Kind → ℕ → State → Type 0
SecondFits plain q s = Unit {0}
SecondFits capped q s = s.run.found2 ≤ capacity (q - 1) s.second
SecondFits (above f) q s = s.run.found2 ≤ capacity q s.second

-- "height above q, found above the room, steps above 1,000,000,000,000; or" such a row; "A record of one kind of run .. given to a continuing call of another
-- kind"; "a value above 16,000,000"
pub data OutOfOrder (m : System) (s : State) : Type 0 where
  other : s.run.kind ≢ run_for m.kind → OutOfOrder m s
  high : m.q < s.run.height → OutOfOrder m s
  many : capacity (width m) s.list < s.run.found → OutOfOrder m s
  late : step_limit < s.run.steps → OutOfOrder m s
  deep : deepest_limit < s.run.deepest → OutOfOrder m s
  many₂ : ¬ (SecondFits m.kind m.q s) → OutOfOrder m s
  row : (k : ℕ) → k < s.run.height → BadRow m.kind m.limit m.q s.stack k → OutOfOrder m s

-- 11: "the list has no room", the row's own list
abbrev pub NoRoomIn : Bool → ℕ → State → Type 0
NoRoomIn false w s = capacity w s.list ≤ s.run.found
NoRoomIn true w s = capacity w s.second ≤ s.run.found2

abbrev pub NoRoom : Kind → ℕ → State → (ℕ → ℕ) → Type 0
NoRoom k q s x = NoRoomIn (to_second k x) (row_width k q) s

-- 3: coefficients "not p × q in number", "also covers right sides not p in number"
abbrev pub Misnumbered : Extra → Input → Type 0
Misnumbered alone i = length i.coefs ≢ i.p * i.q
Misnumbered (rights b) i = (length i.coefs ≢ i.p * i.q) ⊎ (length b ≢ i.p)

-- ---- the rules of each call

-- each call checks 1 to 4, and then what is its own
abbrev pub shape_rules : Input → State → Rules → Rules
shape_rules i s own =
    rule 1 (Outside 1 most_equations i.p)
    ▹ rule 2 (Outside 1 (most_for i.extra) i.q)
    ▹ rule 3 (Misnumbered i.extra i)
    ▹ rule 4 (length s.stack < (system_of i).q * ((system_of i).q + 1))
    ▹ own

-- 7: "with the place of the first, from 1, row by row"
abbrev pub range_rule : Input → Rule
range_rule i = placed 7 (length i.coefs) (λ k. coef_limit < nat_abs (get_or i.coefs k (pos 0)))

-- and what comes after it: 15, "a right side out of range", from −10,000 to 10,000
abbrev pub range_rules : Extra → Input → Rules
range_rules alone i = range_rule i ▹ end
range_rules (rights b) i = range_rule i ▹ rule 15 ((k : ℕ) × (k < length b) × (coef_limit < nat_abs (get_or b k (pos 0)))) ▹ end

-- "A start checks 1 to 4 and 7"
abbrev pub start_rules : Input → State → Rules
start_rules i s = shape_rules i s (range_rules i.extra i)

-- "and with a floor also 5 and 8"
abbrev pub lower_rules : List ℕ → Input → State → Rules
lower_rules lower i s =
    shape_rules i s (rule 5 (length lower ≢ i.q) ▹ range_rule i ▹ rule 8 ((j : ℕ) × (j < length lower) × (limit_of i.limit < get_or lower j 0)) ▹ end)

-- "A continuing call checks 1 to 4, 6 and 7."
abbrev pub resume_rules : Input → State → Rules
resume_rules i s = shape_rules i s (rule 6 (OutOfOrder (system_of i) s) ▹ range_rules i.extra i)

-- "Those of the search are checked as listed, 14 first"
abbrev pub search_rules : System → State → Rules
search_rules m s =
    rule 14 (s.run.steps ≡ step_limit)
    ▹ rule 11 (Solution m.p m.q (coef m) (top m s) × NoRoom m.kind m.q s (top m s))
    ▹ rule 12 (Fails m.p m.q (coef m) (top m s) × (j : ℕ) × (j < m.q) × T (makes m s j) × (top m s j ≡ m.limit))
    ▹ end

-- ---- a row and a record in order

pub record RowInOrder (kind : Kind) (limit q : ℕ) (stack : List ℕ) (k : ℕ) : Type 0 where
  pub small : (j : ℕ) → j < q → at stack (q + 1) k j ≤ limit
  pub fitting : at stack (q + 1) k q < 2 ^ q
  pub marked : count_to q (frozen (at stack (q + 1) k q)) ≡ k
  pub is_inside : Inside kind q (at stack (q + 1) k)

pub record InOrder (m : System) (s : State) : Type 0 where
  pub kind : s.run.kind ≡ run_for m.kind
  pub height : s.run.height ≤ m.q
  pub found : s.run.found ≤ capacity (width m) s.list
  pub early : s.run.steps ≤ step_limit
  pub shallow : s.run.deepest ≤ deepest_limit
  pub found2 : SecondFits m.kind m.q s
  pub rows : (k : ℕ) → k < s.run.height → RowInOrder m.kind m.limit m.q s.stack k

module _ (m : System) (s : State) where
  abbrev pub rows_test : Bool
  rows_test = all_to s.run.height (row_in_order m.kind m.limit m.q s.stack)

module _ (m : System) (s : State) where
  abbrev pub sol : Bool
  sol = solves m (top m s)

-- ---- what is known once a call has made its checks

pub record Shaped (m : System) (s : State) : Type 0 where
  pub p_some : 0 < m.p
  pub p_few : m.p ≤ most_equations
  pub q_some : 0 < m.q
  pub q_few : m.q ≤ most_unknowns
  pub wide : 0 < width m
  pub coefs : length m.coefs ≡ m.p * m.q
  pub stack : m.q * (m.q + 1) ≤ length s.stack
  pub range : (i : ℕ) → i < length m.coefs → nat_abs (get_or m.coefs i (pos 0)) ≤ coef_limit
  pub limit_some : 0 < m.limit
  pub limit_few : m.limit ≤ most_component

-- a continuing call goes on: the shape, and the record and tables in order
pub record Valid (m : System) (s : State) : Type 0 where
  pub shaped : Shaped m s
  pub ordered : InOrder m s

-- what is handed over with the map is accepted, whatever the tables and the record are
pub record Handed (i : Input) : Type 0 where
  pub equations : ¬ (Outside 1 most_equations i.p)
  pub unknowns : ¬ (Outside 1 (most_for i.extra) i.q)
  pub numbers : ¬ (Misnumbered i.extra i)
  pub ranges : AllSilent (range_rules i.extra i)

-- ---- what lets a step be taken

-- the list that a solution goes into has room
abbrev pub RoomIn : Bool → ℕ → State → Type 0
RoomIn false w s = s.run.found < capacity w s.list
RoomIn true w s = s.run.found2 < capacity w s.second

abbrev pub Room : Kind → ℕ → State → (ℕ → ℕ) → Type 0
Room k q s x = RoomIn (to_second k x) (row_width k q) s

pub record Going (m : System) (s : State) : Type 0 where
  pub high : 0 < s.run.height
  pub early : s.run.steps < step_limit
  pub roomy : T (solves m (top m s)) → Room m.kind m.q s (top m s)
  pub small : ¬ (T (solves m (top m s))) → (j : ℕ) → j < m.q → T (makes m s j) → top m s j < m.limit
