-- The start for right sides and lower bounds, as a definition that computes: "an extra unknown, placed first with the negated right sides as its column"
-- (document 02, Job 1), under a cap of 1; from a bound, what exceeds it meets the right sides less what the bound makes of them. Handed over are the map, p
-- right sides and a bound of q numbers: right sides of 0 ask for the smallest solutions at or above the bound (Job 4), a bound of 0 for the smallest tuples
-- that meet the right sides (Job 1). Then the refusals as rules in words. SidesRuns.antt has what it promises. Assumes nothing.
use Rattle.std.specs.Prelude.{◌≡◌, ◌≢◌, not, List, ℕ, suc, ◌*◌, ◌≤◌, ◌<◌, eqb, ltb, ℤ, pos, neg_ℤ, nat_abs, ◌+ℤ◌, get_or, length}
use Rattle.linear.specs.Systems.{value}
use Rattle.definitions.specs.Answers.{Check, ◌then◌, refuse_first, refuse_if, started}
use Rattle.definitions.specs.Input.{bound_of}
use Rattle.definitions.specs.Refusals.{check15}
use Rattle.definitions.specs.System.{coef_limit, extend_to, most_component}
use Rattle.laws.specs.CheckLaws.{Rules, ◌▹◌, end, placed, rule}
use Rattle.laws.specs.RefusalLaws.{Outside}
use Rattle.engine_spec.specs.Beside.{coefficient_limit, most_columns, most_rows}
use Rattle.engine_spec.specs.Calls.{check1, check2, check3, check4, check7, checked}
use Rattle.engine_spec.specs.Engine.{Result, Work, begun_under, result, system_of}
use Rattle.engine_spec.specs.Reduction.{is_small}
use Rattle.engine_spec.specs.Rules.{Short}
use Rattle.engine_spec.specs.Sides.{less_to}

-- right side i, less what the bound makes of equation i
unfoldable pub side_at : (q : ℕ) (coefs rights : List ℤ) (lower : List ℕ) → ℕ → ℤ
side_at q coefs rights lower i = get_or rights i (pos 0) +ℤ neg_ℤ (value (system_of q coefs i) q (bound_of lower))

-- the system that the run works on: the extra unknown first
unfoldable pub sides_system : (p q : ℕ) (coefs rights : List ℤ) (lower : List ℕ) → List ℤ
sides_system p q coefs rights lower = extend_to p q coefs (less_to p q coefs rights (bound_of lower))

-- ---- refusals that leave everything as it was

-- 2 also at 32 unknowns: the extra one is an unknown too. "3 also covers right sides not p in number". 4 counts the extra unknown. 5: the bound is not q
-- numbers. 8: one of them is above 1,000,000. 15: "a right side out of range, comes after 7". 35: a right side less what the bound makes of it is beyond
-- 1,000,000, with the place of the first such equation.
unfoldable pub sides_checks : (p q : ℕ) (coefs rights : List ℤ) (lower : List ℕ) (most : ℕ) → Work → Check
sides_checks p q coefs rights lower most w =
    check1 p
    then check2 q
    then refuse_if (eqb q most_columns) 2
    then check3 p q coefs
    then refuse_if (not (eqb (length rights) p)) 3
    then check4 p (suc q) most w
    then refuse_if (not (eqb (length lower) q)) 5
    then check7 p q coefs
    then refuse_if (not (is_small q (bound_of lower))) 8
    then check15 rights
    then refuse_first 35 p (λ i. ltb coefficient_limit (nat_abs (side_at q coefs rights lower i)))

-- ---- the call

unfoldable pub start_sides : (p q : ℕ) (coefs rights : List ℤ) (lower : List ℕ) (most : ℕ) → Work → Result
start_sides p q coefs rights lower most w =
    checked (sides_checks p q coefs rights lower most w) w (λ v. result started (begun_under 1 p (suc q) (sides_system p q coefs rights lower) v))

-- ---- the rules

abbrev pub sides_rules : (p q : ℕ) (coefs rights : List ℤ) (lower : List ℕ) (most : ℕ) → Work → Rules
sides_rules p q coefs rights lower most w =
    rule 1 (Outside 1 most_rows p)
    ▹ rule 2 (Outside 1 most_columns q)
    ▹ rule 2 (q ≡ most_columns)
    ▹ rule 3 (length coefs ≢ p * q)
    ▹ rule 3 (length rights ≢ p)
    ▹ rule 4 (Short p (suc q) most w)
    ▹ rule 5 (length lower ≢ q)
    ▹ placed 7 (p * q) (λ k. coef_limit < nat_abs (get_or coefs k (pos 0)))
    ▹ rule 8 (¬ ((j : ℕ) → j < q → bound_of lower j ≤ most_component))
    ▹ rule 15 ((k : ℕ) × (k < length rights) × (coef_limit < nat_abs (get_or rights k (pos 0))))
    ▹ placed 35 p (λ i. coefficient_limit < nat_abs (side_at q coefs rights lower i))
    ▹ end
