-- The engine: one equation after the other, a stage for each, from the q unit tuples. A run works on a system of its own, at first the map's, in which row
-- operations may put a combination for an equation that is not done yet: the solutions stay the same. Which equation is next, and which unknown
-- is fresh in it, is handed over; no promise depends on it. When a stage ends, what it leaves is written into the table of the basis. Assumes nothing.
use Rattle.std.specs.Prelude.{ℕ, zero, suc, ◌+◌, ◌*◌, ◌^◌, ◌-◌, Bool, true, cond, not, ◌&&◌, List, [], eqb, ltb, ℤ, pos, ◌+ℤ◌, ◌*ℤ◌, get_or, set}
use Rattle.std.specs.Int.Signed.{le_z}
use Rattle.linear.specs.Systems.{value}
use Rattle.linear.specs.Tests.{all_to, count_to}
use Rattle.linear.specs.Tuples.{unit}
use Rattle.definitions.specs.Answers.{Answer, complete, paused, refused}
use Rattle.definitions.specs.System.{most_component}
use Rattle.definitions.specs.Tables.{at, write_to}
use Rattle.laws.specs.Pack.{pack_to}
use Rattle.laws.specs.Sweep.{swept_to}
use Rattle.engine_spec.specs.Equations.{zero_row}
use Rattle.engine_spec.specs.Fresh.{filled, not_below}
use Rattle.engine_spec.specs.Stage.{Stage, Turned, begin, ends, goes, row, stops, turn}

-- What a run is lent, and its record. The working system, row by row. The basis: the minimal solutions of the equations done, where a stage has a fresh
-- unknown those in which it is 0. The equations done, as marks. The equation of the stage under way, p where there is none; its fresh unknown, q where there
-- is none; and the stage.
pub record Work : Type 0 where
  pub equations : List ℤ
  pub basis : List ℕ
  pub count : ℕ
  pub done : ℕ
  pub equation : ℕ
  pub fresh : ℕ
  pub stage : Stage

abbrev pub system_of : ℕ → List ℤ → ℕ → ℕ → ℤ
system_of q equations i j = get_or equations (i * q + j) (pos 0)

abbrev pub system : ℕ → Work → ℕ → ℕ → ℤ
system q w = system_of q w.equations

abbrev pub basis_row : ℕ → Work → ℕ → ℕ → ℕ
basis_row q w = at w.basis q

-- ---- the start

abbrev pub always : ℕ → Bool
always i = true

-- no stage is under way
abbrev pub resting : (p q : ℕ) (equations : List ℤ) (basis : List ℕ) (count done cap : ℕ) → List ℕ → ℕ → Work
resting p q equations basis count done cap table steps =
    record { equations = equations; basis = basis; count = count; done = done; equation = p; fresh = q; stage = begin cap table steps }

-- numbers 0 .. n - 1 of f, written from the beginning
unfoldable pub fill_to : ℕ → List ℤ → ℕ → (ℕ → ℤ) → List ℤ
fill_to zero table base f = table
fill_to (suc n) table base f = set (fill_to n table base f) (base + n) (f n)

-- the map's coefficients are the working system, rows 0 .. q - 1 of the basis are the unit tuples, and no equation is done; the rows stay inside a cap
unfoldable pub begun_under : (cap p q : ℕ) (coefs : List ℤ) → Work → Work
begun_under cap p q coefs w =
    resting p q (fill_to (p * q) w.equations 0 (λ k. get_or coefs k (pos 0))) (pack_to q q w.basis 0 always unit) q 0 cap w.stage.table 0

-- the same with n rows handed over as the basis: the minimal solutions of equations before these that are inside the cap
unfoldable pub begun_from_under : (cap p q : ℕ) (coefs : List ℤ) (n : ℕ) (rows : List ℕ) → Work → Work
begun_from_under cap p q coefs n rows w =
    resting p q (fill_to (p * q) w.equations 0 (λ k. get_or coefs k (pos 0))) (write_to (n * q) w.basis 0 (λ k. get_or rows k 0)) n 0 cap w.stage.table 0

-- both without a cap
abbrev pub begun : (p q : ℕ) (coefs : List ℤ) → Work → Work
begun = begun_under 0

abbrev pub begun_from : (p q : ℕ) (coefs : List ℤ) (n : ℕ) (rows : List ℕ) → Work → Work
begun_from = begun_from_under 0

-- ---- a row operation

-- u times equation r and t times equation s, in the place of equation r
abbrev pub combination : (q : ℕ) (a : ℕ → ℕ → ℤ) (r s : ℕ) (u t : ℤ) → ℕ → ℤ
combination q a r s u t j = (u *ℤ a r j) +ℤ (t *ℤ a s j)

unfoldable pub combined : (q r s : ℕ) (u t : ℤ) → Work → Work
combined q r s u t w =
    record {
      equations = fill_to q w.equations (r * q) (combination q (system q w) r s u t);
      basis = w.basis;
      count = w.count;
      done = w.done;
      equation = w.equation;
      fresh = w.fresh;
      stage = w.stage;
    }

-- ---- the begin of a stage

-- row i of a table does not have the unknown f
abbrev pub lacks : (q f : ℕ) → List ℕ → ℕ → Bool
lacks q f basis i = eqb (at basis q i f) 0

-- The stage of equation e begins, without a fresh unknown; with one, f, the rows that have it are taken out of the basis.
unfoldable pub taken : (q e : ℕ) → Work → Work
taken q e w =
    record {
      equations = w.equations;
      basis = w.basis;
      count = w.count;
      done = w.done;
      equation = e;
      fresh = q;
      stage = begin w.stage.cap w.stage.table w.stage.steps;
    }

unfoldable pub taken_fresh : (q e f : ℕ) → Work → Work
taken_fresh q e f w =
    record {
      equations = w.equations;
      basis = swept_to w.count q w.basis (lacks q f w.basis);
      count = count_to w.count (lacks q f w.basis);
      done = w.done;
      equation = e;
      fresh = f;
      stage = begin w.stage.cap w.stage.table w.stage.steps;
    }

-- ---- the end of a stage

abbrev pub equation_of : ℕ → Work → ℕ → ℤ
equation_of q w = system q w w.equation

-- which rows stay, and as what: those of value 0; with a fresh unknown those of value 0 or more, each with its value written into the unknown
abbrev pub stays : ℕ → Work → ℕ → Bool
stays q w = cond (ltb w.fresh q) (not_below q (equation_of q w) (row q w.stage)) (zero_row q (equation_of q w) (row q w.stage))

abbrev pub left : ℕ → Work → ℕ → ℕ → ℕ
left q w i = cond (ltb w.fresh q) (filled q (equation_of q w) w.fresh (row q w.stage i)) (row q w.stage i)

unfoldable pub finished : (p q : ℕ) → Work → Work
finished p q w =
    resting p q w.equations (pack_to w.stage.rows q w.basis 0 (stays q w) (left q w)) (count_to w.stage.rows (stays q w))
    (w.done + 2 ^ w.equation) w.stage.cap w.stage.table (w.stage.steps + 1)

-- no value is above 1,000,000, where values become components
unfoldable pub values_small : ℕ → Work → Bool
values_small q w = all_to w.stage.rows (λ i. le_z (value (equation_of q w) q (row q w.stage i)) (pos most_component))

-- every equation is done
unfoldable pub all_done : ℕ → Work → Bool
all_done p w = eqb w.done (2 ^ p - 1)

-- ---- turns

pub record Result : Type 0 where
  pub answer : Answer
  pub work : Work

abbrev pub result : Answer → Work → Result
result x w = record { answer = x; work = w }

-- what a call answers that leaves no stage under way: "complete" once every equation is done
unfoldable pub rested : ℕ → Work → Result
rested p w = result (cond (all_done p w) complete paused) w

unfoldable pub onward : Stage → Work → Work
onward s w =
    record { equations = w.equations; basis = w.basis; count = w.count; done = w.done; equation = w.equation; fresh = w.fresh; stage = s }

-- 12: a value would be a component above 1,000,000. 31: there is no room in the basis.
unfoldable pub finish : (p q most : ℕ) → Work → Result
finish p q most w =
    cond (ltb w.fresh q && not (values_small q w)) (result (refused 12 []) w)
    (cond (ltb most (count_to w.stage.rows (stays q w))) (result (refused 31 []) w) (rested p (finished p q w)))

unfoldable pub after : (p q most : ℕ) → Turned → (Work → Result) → Work → Result
after p q most (goes s) f w = f (onward s w)
after p q most (stops n) f w = result (refused n []) w
after p q most ends f w = finish p q most w

-- at most `budget` turns of the stage under way, with room for `most` rows in the basis and `room` rows in the stage's table
unfoldable pub run : (p q most room budget : ℕ) → Work → Result
run p q most room zero w = result paused w
run p q most room (suc budget) w =
    after p q most (turn q (equation_of q w) w.count (basis_row q w) room w.stage) (run p q most room budget) w
