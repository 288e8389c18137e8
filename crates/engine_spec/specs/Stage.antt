-- One equation c more, by sums of pairs in the order of their degree (the sum of the components). The m rows of `basis` are what the equations so far left, in
-- any order. A stage appends rows to a table that is empty at first: for each degree d, rising, the rows of the basis of degree d, then the sums of two rows
-- with values above and below 0 whose degrees add up to d, unless the sum passes the cap or a row reduces it. Appended rows have degree d too, so the table is
-- sorted, and no pair of degree d has a row of degree d: what is appended meets later degrees only. A turn does one of four things: it takes one row of the
-- basis; it looks at one pair; it goes to the next degree at which there is something to do; or it finds that there is none, and the stage ends. A call may
-- stop after any turn. The pairs of degree d come in the order (row above 0, row below 0), both in the order of the table: in code, two lists of places by
-- sign, and for each row above 0 the places below 0 of the degree that is left, which stand together. Assumes nothing.
use Rattle.std.specs.Prelude.{ℕ, zero, suc, ◌+◌, ◌*◌, Bool, true, false, cond, ◌&&◌, ◌||◌, List, [], eqb, ltb, ℤ, pos}
use Rattle.std.specs.Int.Signed.{lt_z}
use Rattle.linear.specs.Systems.{value}
use Rattle.linear.specs.Tuples.{total}
use Rattle.definitions.specs.Answers.{Answer, complete, paused, refused}
use Rattle.definitions.specs.Refusals.{step_limit}
use Rattle.definitions.specs.Tables.{at, write_to}
use Rattle.engine_spec.specs.Caps.{is_over}
use Rattle.engine_spec.specs.Reduction.{is_small, reducible}
use Rattle.engine_spec.specs.Signs.{plus}
use Rattle.engine_spec.specs.Search.{first_in, holder, least_to, lesser, partner}

-- The table and its number of rows; the degree under way; the row of the basis and the pair from which on those of that degree are left; the steps; the cap.
pub record Stage : Type 0 where
  pub table : List ℕ
  pub rows : ℕ
  pub taken : ℕ
  pub degree : ℕ
  pub upper : ℕ
  pub lower : ℕ
  pub steps : ℕ
  pub cap : ℕ

abbrev pub row : ℕ → Stage → ℕ → ℕ → ℕ
row q s = at s.table q

-- ---- tests

-- the value of row h is above 0, and that of row k below
unfoldable pub is_pair : (q : ℕ) (c : ℕ → ℤ) (row : ℕ → ℕ → ℕ) (h k : ℕ) → Bool
is_pair q c row h k = lt_z (pos 0) (value c q (row h)) && lt_z (value c q (row k)) (pos 0)

-- such a pair whose degrees add up to d
unfoldable pub is_due : (q : ℕ) (c : ℕ → ℤ) (row : ℕ → ℕ → ℕ) (d h k : ℕ) → Bool
is_due q c row d h k = is_pair q c row h k && eqb (total (row h) q + total (row k) q) d

-- the degree of a pair; 0 where it is none
unfoldable pub pair_degree : (q : ℕ) (c : ℕ → ℤ) (row : ℕ → ℕ → ℕ) (h k : ℕ) → ℕ
pair_degree q c row h k = cond (is_pair q c row h k) (total (row h) q + total (row k) q) 0

-- the next row of the basis of the present degree; at least m where there is none
abbrev pub due_row : (q m : ℕ) (basis : ℕ → ℕ → ℕ) → Stage → ℕ
due_row q m basis s = first_in m s.taken (λ i. eqb (total (basis i) q) s.degree)

-- the next pair of the present degree; `above` is at least the number of rows where there is none
abbrev pub above : (q : ℕ) (c : ℕ → ℤ) → Stage → ℕ
above q c s = holder s.rows (is_due q c (row q s) s.degree) s.upper s.lower

abbrev pub below : (q : ℕ) (c : ℕ → ℤ) → Stage → ℕ
below q c s = partner s.rows (is_due q c (row q s) s.degree) s.upper s.lower (above q c s)

-- the least degree above the present one of a row of the basis or of a pair; 0 where there is none
unfoldable pub next_degree : (q : ℕ) (c : ℕ → ℤ) (m : ℕ) (basis : ℕ → ℕ → ℕ) → Stage → ℕ
next_degree q c m basis s =
    lesser s.degree (least_to s.degree m (λ i. total (basis i) q))
    (least_to s.degree s.rows (λ h. least_to s.degree s.rows (pair_degree q c (row q s) h)))

-- ---- one turn

-- A turn; or the number of the refusal, and then the stage is left as it was, and with more room it can go on; or the end.
pub data Turned : Type 0 where
  goes : Stage → Turned
  stops : ℕ → Turned
  ends : Turned

-- a row x appended; where the rows of the basis and the pairs that are left begin is then as given
unfoldable pub grown : (q : ℕ) (x : ℕ → ℕ) (taken upper lower : ℕ) → Stage → Stage
grown q x taken upper lower s =
    record {
      table = write_to q s.table (s.rows * q) x;
      rows = s.rows + 1;
      taken = taken;
      degree = s.degree;
      upper = upper;
      lower = lower;
      steps = s.steps + 1;
      cap = s.cap;
    }

-- nothing appended
unfoldable pub passed : (upper lower : ℕ) → Stage → Stage
passed upper lower s =
    record {
      table = s.table;
      rows = s.rows;
      taken = s.taken;
      degree = s.degree;
      upper = upper;
      lower = lower;
      steps = s.steps + 1;
      cap = s.cap;
    }

-- the degree d begins
unfoldable pub raised : (d : ℕ) → Stage → Stage
raised d s =
    record {
      table = s.table;
      rows = s.rows;
      taken = 0;
      degree = d;
      upper = 0;
      lower = 0;
      steps = s.steps + 1;
      cap = s.cap;
    }

-- 31: there is no room for a row that is needed. Row i of the basis:
unfoldable pub row_turn : (q : ℕ) (basis : ℕ → ℕ → ℕ) (room : ℕ) → Stage → ℕ → Turned
row_turn q basis room s i = cond (ltb s.rows room) (goes (grown q (basis i) (i + 1) s.upper s.lower s)) (stops 31)

abbrev pub sum_of : ℕ → Stage → ℕ → ℕ → ℕ → ℕ
sum_of q s h k = plus (row q s h) (row q s k)

-- a sum that need not become a row: it passes the cap, so that it is below no wanted tuple, or a row reduces it
abbrev pub is_needless : (q : ℕ) (c : ℕ → ℤ) → Stage → (ℕ → ℕ) → Bool
is_needless q c s z = is_over s.cap z || reducible q c s.rows (row q s) z (value c q z)

-- 12: a sum that is needed has a component above 1,000,000.
unfoldable pub paired : (needless small fits : Bool) → Stage → Stage → Turned
paired true small fits skip more = goes skip
paired false false fits skip more = stops 12
paired false true false skip more = stops 31
paired false true true skip more = goes more

-- the pair (h, k)
unfoldable pub pair_turn : (q : ℕ) (c : ℕ → ℤ) (room : ℕ) → Stage → ℕ → ℕ → Turned
pair_turn q c room s h k =
    paired (is_needless q c s (sum_of q s h k)) (is_small q (sum_of q s h k)) (ltb s.rows room) (passed h (k + 1) s)
    (grown q (sum_of q s h k) s.taken h (k + 1) s)

unfoldable pub degree_turn : ℕ → Stage → Turned
degree_turn d s = cond (eqb d 0) ends (goes (raised d s))

-- 14: the steps taken stand at their limit.
unfoldable pub turn : (q : ℕ) (c : ℕ → ℤ) (m : ℕ) (basis : ℕ → ℕ → ℕ) (room : ℕ) → Stage → Turned
turn q c m basis room s =
    cond (eqb s.steps step_limit) (stops 14)
    (cond (ltb (due_row q m basis s) m) (row_turn q basis room s (due_row q m basis s))
    (cond (ltb (above q c s) s.rows) (pair_turn q c room s (above q c s) (below q c s)) (degree_turn (next_degree q c m basis s) s)))

-- ---- turns

pub record Outcome : Type 0 where
  pub answer : Answer
  pub stage : Stage

abbrev pub outcome : Answer → Stage → Outcome
outcome x s = record { answer = x; stage = s }

unfoldable pub after : Turned → (Stage → Outcome) → Stage → Outcome
after (goes s') f s = f s'
after (stops n) f s = outcome (refused n []) s
after ends f s = outcome complete s

-- at most `budget` turns, in a table with room for `room` rows
unfoldable pub run : (q : ℕ) (c : ℕ → ℤ) (m : ℕ) (basis : ℕ → ℕ → ℕ) (room budget : ℕ) → Stage → Outcome
run q c m basis room zero s = outcome paused s
run q c m basis room (suc budget) s = after (turn q c m basis room s) (run q c m basis room budget) s

-- before the first turn, in any table
abbrev pub begin : (cap : ℕ) → List ℕ → ℕ → Stage
begin cap table steps = record { table = table; rows = 0; taken = 0; degree = 0; upper = 0; lower = 0; steps = steps; cap = cap }
