-- The engine's calls: the start, a row operation, the begin of a stage, and the continuing call with a budget of turns. What is lent: the working system, the
-- basis and the stage's table, the tables beside them, and the record of the run. Assumes nothing.
use Rattle.std.specs.Prelude.{ℕ, ◌*◌, ◌-◌, ◌^◌, ◌/◌, min, Bool, false, not, cond, ◌&&◌, ◌||◌, List, eqb, leb, ltb, ℤ, pos, negsuc, nat_abs, get_or, length}
use Rattle.linear.specs.Tests.{all_to, any_to}
use Rattle.linear.specs.Tuples.{total}
use Rattle.definitions.specs.Answers.{Check, ◌then◌, go, refuse, refuse_first, refuse_if, refused, started}
use Rattle.definitions.specs.Refusals.{between, step_limit}
use Rattle.definitions.specs.System.{coef_limit, is_zero}
use Rattle.definitions.specs.Tables.{at, frozen}
use Rattle.engine_spec.specs.Beside.{coefficient_limit, most_columns, most_rows}
use Rattle.engine_spec.specs.Caps.{is_capped}
use Rattle.engine_spec.specs.Engine.{Result, Work, basis_row, begun_from_under, begun_under, combination, combined, rested, result, run, system, taken}
use Rattle.engine_spec.specs.Engine.{taken_fresh}
use Rattle.engine_spec.specs.Reduction.{is_small}
use Rattle.engine_spec.specs.Stage.{row}

-- ---- capacity

-- no table keeps more rows than this
abbrev pub row_limit : ℕ
row_limit = 1000000000

-- the rows that find room in a table of so many numbers
abbrev pub rows_in : (q numbers : ℕ) → ℕ
rows_in q numbers = min (numbers / q) row_limit

-- What is lent beside the working system, by its lengths: the basis and the degrees beside it; the stage's table and the values, words, degrees, marks and
-- mothers beside it.
pub record Lengths : Type 0 where
  pub basis : ℕ
  pub sizes : ℕ
  pub table : ℕ
  pub values : ℕ
  pub words : ℕ
  pub degrees : ℕ
  pub marks : ℕ
  pub mothers : ℕ

-- the rows that find room in the basis, and in the stage
abbrev pub basis_room : ℕ → Lengths → ℕ
basis_room q l = min (rows_in q l.basis) l.sizes

abbrev pub stage_room : ℕ → Lengths → ℕ
stage_room q l = min (min (min (rows_in q l.table) l.values) (min l.words l.degrees)) (min l.marks l.mothers)

-- ---- refusals that leave everything as it was

-- "1", "2": the engine's own limits
abbrev pub check1 : ℕ → Check
check1 p = refuse_if (not (between 1 most_rows p)) 1

abbrev pub check2 : ℕ → Check
check2 q = refuse_if (not (between 1 most_columns q)) 2

-- 3: coefficients not p × q in number
abbrev pub check3 : (p q : ℕ) → List ℤ → Check
check3 p q coefs = refuse_if (not (eqb (length coefs) (p * q))) 3

-- 4: a table for the working system shorter than p × q numbers, or room for fewer than q rows in the basis
abbrev pub check4 : (p q most : ℕ) → Work → Check
check4 p q most w = refuse_if (ltb (length w.equations) (p * q) || ltb most q) 4

-- 7: a coefficient outside −10,000 to 10,000, with the place of the first
abbrev pub check7 : (p q : ℕ) → List ℤ → Check
check7 p q coefs = refuse_first 7 (p * q) (λ k. ltb coef_limit (nat_abs (get_or coefs k (pos 0))))

-- the equation under way is not done, and there is none past the last
unfoldable pub marks_in_order : (p done equation : ℕ) → Bool
marks_in_order p done equation = leb equation p && not (ltb equation p && frozen done equation)

-- no coefficient of the working system is out of its range
unfoldable pub coefficients_small : (n : ℕ) → List ℤ → Bool
coefficients_small n equations = all_to n (λ k. leb (nat_abs (get_or equations k (pos 0))) coefficient_limit)

-- a row within the component limit that is not all zero
unfoldable pub is_row : (q : ℕ) → (ℕ → ℕ) → Bool
is_row q x = is_small q x && ltb 0 (total x q)

-- none of the n degrees is 0, none is below the one before it, and none is above d
unfoldable pub is_rising : (n : ℕ) (f : ℕ → ℕ) (d : ℕ) → Bool
is_rising n f d = all_to n (λ i. ltb 0 (f i) && (leb (f (i - 1)) (f i) && leb (f i) d))

unfoldable pub in_order : (p q most room : ℕ) → Work → Bool
in_order p q most room w =
    (leb w.count most && leb w.stage.rows room)
    && ((leb w.stage.steps step_limit && ltb w.done (2 ^ p))
    && (marks_in_order p w.done w.equation
    && (coefficients_small (p * q) w.equations
    && (all_to w.count (λ i. is_row q (basis_row q w i))
    && (all_to w.stage.rows (λ i. is_small q (row q w.stage i))
    && is_rising w.stage.rows (λ i. total (row q w.stage i) q) w.stage.degree)))))

-- 6: the record or the tables out of order
abbrev pub check6 : (p q most room : ℕ) → Work → Check
check6 p q most room w = refuse_if (not (in_order p q most room w)) 6

-- each call on a run checks 1, 2, 4 and 6, and then what is its own
abbrev pub standing_then : (p q most room : ℕ) → Work → Check → Check
standing_then p q most room w own = check1 p then check2 q then check4 p q most w then check6 p q most room w then own

-- n rows of q numbers, each within the component limit and not all zero
unfoldable pub is_list : (q n : ℕ) → List ℕ → Bool
is_list q n rows = eqb (length rows) (n * q) && all_to n (λ i. is_row q (at rows q i))

-- 6, of a list handed over: it is not n rows of q numbers, or a row is out of order. Whether it is a whole list cannot be seen.
abbrev pub check6_list : (q n : ℕ) → List ℕ → Check
check6_list q n rows = refuse_if (not (is_list q n rows)) 6

-- 4 also where there is no room for the n rows
unfoldable pub start_from_checks : (p q : ℕ) (coefs : List ℤ) (n : ℕ) (rows : List ℕ) (most : ℕ) → Work → Check
start_from_checks p q coefs n rows most w =
    check1 p
    then check2 q
    then check3 p q coefs
    then check4 p q most w
    then refuse_if (ltb most n) 4
    then check6_list q n rows
    then check7 p q coefs

unfoldable pub start_checks : (p q : ℕ) (coefs : List ℤ) (most : ℕ) → Work → Check
start_checks p q coefs most w = check1 p then check2 q then check3 p q coefs then check4 p q most w then check7 p q coefs

-- 32: there is no such equation that is left, or a stage is under way
unfoldable pub is_left : (p e : ℕ) → Work → Bool
is_left p e w = eqb w.equation p && (ltb e p && not (frozen w.done e))

abbrev pub is_minus_one : ℤ → Bool
is_minus_one (pos n) = false
is_minus_one (negsuc n) = eqb n 0

-- of n rows one has the unknown f, and only rows of degree 1: so only its unit tuple does
unfoldable pub is_alone : (q f n : ℕ) (row : ℕ → ℕ → ℕ) → Bool
is_alone q f n row = any_to n (λ i. ltb 0 (row i f)) && all_to n (λ i. eqb (row i f) 0 || eqb (total (row i) q) 1)

-- no equation done has the unknown f
unfoldable pub is_free : (p q f : ℕ) → Work → Bool
is_free p q f w = all_to p (λ i. not (frozen w.done i) || is_zero (system q w i f))

-- Equation e has the coefficient −1 at the unknown f, no equation done has it, and of the basis only its unit tuple: so no equation before these has it either,
-- where the basis was handed over. An unknown with a cap is never fresh: its value is written in at the end of the stage, past the cap as it may be.
unfoldable pub is_fresh : (p q e f : ℕ) → Work → Bool
is_fresh p q e f w =
    not (is_capped w.stage.cap f)
    && (ltb f q && (is_minus_one (system q w e f) && (is_free p q f w && is_alone q f w.count (basis_row q w))))

-- 33: the unknown handed over is neither q, which is none, nor fresh
unfoldable pub take_checks : (p q most room e f : ℕ) → Work → Check
take_checks p q most room e f w =
    standing_then p q most room w (refuse_if (not (is_left p e w)) 32 then refuse_if (not (eqb f q || is_fresh p q e f w)) 33)

-- 34: no row operation (0 times the equation itself, or the equation itself added), or one that leads out of the coefficients' range
unfoldable pub is_operation : (q r s : ℕ) (u t : ℤ) → Work → Bool
is_operation q r s u t w =
    not (is_zero u) && ((not (eqb r s) || is_zero t) && all_to q (λ j. leb (nat_abs (combination q (system q w) r s u t j)) coefficient_limit))

unfoldable pub combine_checks : (p q most room r s : ℕ) (u t : ℤ) → Work → Check
combine_checks p q most room r s u t w =
    standing_then p q most room w (refuse_if (not (is_left p r w && ltb s p)) 32 then refuse_if (not (is_operation q r s u t w)) 34)

unfoldable pub resume_checks : (p q most room : ℕ) → Work → Check
resume_checks p q most room w = standing_then p q most room w go

-- ---- the calls

-- a refusal before a call's work changes nothing lent
unfoldable pub checked : Check → Work → (Work → Result) → Result
checked (refuse n values) w work = result (refused n values) w
checked go w work = work w

-- takes the map: its coefficients are the working system, the unit tuples are the basis; the rows stay inside the cap
unfoldable pub start_under : (cap p q : ℕ) (coefs : List ℤ) (most : ℕ) → Work → Result
start_under cap p q coefs most w = checked (start_checks p q coefs most w) w (λ v. result started (begun_under cap p q coefs v))

-- takes further equations and a list of those before: the n rows handed over are the basis
unfoldable pub start_from_under : (cap p q : ℕ) (coefs : List ℤ) (n : ℕ) (rows : List ℕ) (most : ℕ) → Work → Result
start_from_under cap p q coefs n rows most w =
    checked (start_from_checks p q coefs n rows most w) w (λ v. result started (begun_from_under cap p q coefs n rows v))

-- both without a cap
abbrev pub start : (p q : ℕ) (coefs : List ℤ) (most : ℕ) → Work → Result
start = start_under 0

abbrev pub start_from : (p q : ℕ) (coefs : List ℤ) (n : ℕ) (rows : List ℕ) (most : ℕ) → Work → Result
start_from = start_from_under 0

-- u times equation r and t times equation s in the place of equation r
unfoldable pub combine : (p q most room r s : ℕ) (u t : ℤ) → Work → Result
combine p q most room r s u t w = checked (combine_checks p q most room r s u t w) w (λ v. result started (combined q r s u t v))

-- begins the stage of equation e, with the fresh unknown f, or with none where f is q
unfoldable pub take : (p q most room e f : ℕ) → Work → Result
take p q most room e f w =
    checked (take_checks p q most room e f w) w (λ v. result started (cond (ltb f q) (taken_fresh q e f v) (taken q e v)))

-- at most `budget` turns of the stage under way; it ends with the stage at the latest
unfoldable pub resume : (p q most room budget : ℕ) → Work → Result
resume p q most room budget w =
    checked (resume_checks p q most room w) w (λ v. cond (ltb v.equation p) (run p q most room budget v) (rested p v))
