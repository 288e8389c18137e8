-- The working system of a run with right sides or a lower bound, as code writes it row by row. Assumes nothing.
use Rattle.std.specs.Prelude.{◌≡◌, refl, not, List, ℕ, zero, suc, ◌+◌, ◌*◌, ◌≤◌, ◌<◌, ℤ, pos, neg_ℤ, nat_abs, ◌-ℤ◌, get_or, length, set}
use Rattle.std.proofs.Common.{sym, ◌∙◌, ap, add-one, arith, ltb-false, to_z-of_z, SFits}
use Rattle.std.proofs.lemmas.Bool.{not-false}
use Rattle.std.proofs.Math.IntN.{+ℤ_idl}
use Rattle.std.specs.Int.{w32, w64}
use Rattle.linear.proofs.RightSides.{Extends}
use Rattle.linear.proofs.Integers.{nat_abs_negℤ, sfits_nat_abs}
use Rattle.definitions.specs.Answers.{go, refuse_if}
use Rattle.definitions.specs.Input.{bound_of}
use Rattle.definitions.specs.Refusals.{check15}
use Rattle.laws.proofs.AnswerLaws.{refuse_if_go, then_go}
use Rattle.laws.proofs.Extended.{extends}
use Rattle.engine_checks.specs.Operating.{read32}
use Rattle.engine_checks.specs.Sides.{Shaped, bound_row, bound_small, equation_small, range_checks, ranged, side_checks}
use Rattle.engine_spec.specs.Beside.{SmallEquation, SmallRow, coefficient_limit, equation_at}
use Rattle.engine_spec.specs.Calls.{check7}
use Rattle.engine_spec.specs.Engine.{fill_to, system_of}
use Rattle.engine_spec.proofs.Promise.{first_silent}
use Rattle.engine_spec.specs.Promises.{map_of}
use Rattle.engine_spec.specs.Reduction.{is_small}
use Rattle.engine_spec.specs.Sides.{less_to}
use Rattle.engine_spec.proofs.Sides.{less_entry}
use Rattle.engine_spec.specs.StartSides.{side_at, sides_system}

-- a first number, then the coefficients from place `from`
abbrev pub row_of : ℤ → List ℤ → ℕ → ℕ → ℤ
row_of first coefs from zero = first
row_of first coefs from (suc j) = equation_at coefs from j

-- what the checks have let go on
pub record Extending (p q : ℕ) (coefs rights : List ℤ) (lower : List ℕ) (equations : ℕ) : Type 0 where
  pub count : length coefs ≡ p * q
  pub sides : length rights ≡ p
  pub narrow : q ≤ 31
  pub few : p ≤ 32
  pub whole : p * suc q ≤ equations
  pub small : (i : ℕ) → i < p → SmallEquation q coefs (i * q)
  pub bound : SmallRow q lower 0
  pub within : (i : ℕ) → i < p → nat_abs (side_at q coefs rights lower i) ≤ coefficient_limit

pub extending : {p q : ℕ} {coefs rights : List ℤ} {lower : List ℕ} {equations : ℕ} → Shaped p q (length coefs) (length rights) (length lower)
    → p * suc q ≤ equations → range_checks p q coefs rights lower ≡ go → Extending p q coefs rights lower equations
unfolding range_checks side_checks
extending {p} {q} {coefs} {rights} {lower} s whole e =
    let (a, e₁) = then_go (check7 p q coefs) _ e in
    let (b, e₂) = then_go (refuse_if (not (is_small q (bound_of lower))) 8) _ e₁ in
    let (c, d) = then_go (check15 rights) _ e₂ in
    record {
      count = s.count;
      sides = s.sides;
      narrow = s.narrow;
      few = s.size.equations;
      whole = whole;
      small = equation_small (ranged s a);
      bound = bound_row q lower s.bound (bound_small q lower ∙ not-false _ (refuse_if_go _ 8 b));
      within = λ i l. ltb-false coefficient_limit (nat_abs (side_at q coefs rights lower i)) (first_silent 35 p _ d i l);
    }

-- ---- rows of numbers written one behind the other

pub fill_same : (n : ℕ) (table : List ℤ) (base : ℕ) (f g : ℕ → ℤ) → ((x : ℕ) → x < n → f x ≡ g x) → fill_to n table base f ≡ fill_to n table base g
unfolding fill_to
fill_same zero table base f g same = refl
fill_same (suc n) table base f g same = rw (fill_same n table base f g (λ x l. same x (omega arith)), same n (omega arith))

-- the first number, and the others behind it
pub fill_first : (q : ℕ) (table : List ℤ) (base : ℕ) (first : ℤ) (coefs : List ℤ) (from : ℕ)
    → fill_to q (set table base first) (base + 1) (equation_at coefs from) ≡ fill_to (suc q) table base (row_of first coefs from)
unfolding fill_to
fill_first zero table base first coefs from = let e : base + 0 ≡ base = omega arith in rw e
fill_first (suc q) table base first coefs from =
    let e : base + 1 + q ≡ base + suc q = omega arith in
    rw (fill_first q table base first coefs from, e)

-- n numbers, and m behind them
fill_behind : (m n : ℕ) (table : List ℤ) (f : ℕ → ℤ) → fill_to (n + m) table 0 f ≡ fill_to m (fill_to n table 0 f) n (λ x. f (n + x))
unfolding fill_to
fill_behind zero n table f = let e : n + 0 ≡ n = omega arith in rw e
fill_behind (suc m) n table f =
    let e : n + suc m ≡ suc (n + m) = omega arith in
    let z : 0 + (n + m) ≡ n + m = omega arith in
    rw (e, fill_behind m n table f, z)

-- one row more
pub row_more : (i q : ℕ) (table₀ : List ℤ) (f : ℕ → ℤ) {g : ℕ → ℤ} {table table' : List ℤ} → table ≡ fill_to (i * (q + 1)) table₀ 0 f
    → table' ≡ fill_to (q + 1) table (i * (q + 1)) g → ((x : ℕ) → x < q + 1 → g x ≡ f (i * (q + 1) + x)) → table' ≡ fill_to ((i + 1) * (q + 1)) table₀ 0 f
row_more i q table₀ f {g} {table} e h same =
    let place : (i + 1) * (q + 1) ≡ i * (q + 1) + (q + 1) = omega arith in
    h ∙ (ap (λ t. fill_to (q + 1) t (i * (q + 1)) g) e ∙ (fill_same (q + 1) _ (i * (q + 1)) g _ same
    ∙ rw place (sym (fill_behind (q + 1) (i * (q + 1)) table₀ f))))

-- ---- row i of the system

module _ {p q : ℕ} {coefs rights : List ℤ} {lower : List ℕ} {equations : ℕ} (x : Extending p q coefs rights lower equations) (i : ℕ) (l : i < p) where
  abbrev sides : List ℤ
  sides = less_to p q coefs rights (bound_of lower)

  y : Extends p q (system_of q coefs) (λ i. get_or sides i (pos 0)) (system_of (suc q) (sides_system p q coefs rights lower))
  unfolding sides_system
  y = extends (map_of p q coefs) sides x.count

  side_entry : get_or sides i (pos 0) ≡ side_at q coefs rights lower i
  unfolding side_at
  side_entry = less_entry p q coefs rights (bound_of lower) i l

  pub row_is : {first : ℤ} → first ≡ neg_ℤ (side_at q coefs rights lower i) → (j : ℕ) → j < q + 1
      → row_of first coefs (i * q) j ≡ get_or (sides_system p q coefs rights lower) (i * (q + 1) + j) (pos 0)
  row_is {first} e j jq = rw (add-one q) (by j (rw (add-one q) at jq))
    where
      by : (j : ℕ) → j < suc q → row_of first coefs (i * q) j ≡ get_or (sides_system p q coefs rights lower) (i * suc q + j) (pos 0)
      by zero k = e ∙ sym (y.first i l ∙ ap neg_ℤ side_entry)
      by (suc j) k = sym (y.others i j l (omega arith))

-- a number that is small, negated, fits 64 bits and 32
module _ (v : ℤ) (l : nat_abs v ≤ coefficient_limit) where
  pub opposite_fits : SFits w64 (pos 0 -ℤ v)
  opposite_fits = rw (+ℤ_idl (neg_ℤ v)) (sfits_nat_abs (omega (arith, nat_abs_negℤ v)))

  pub opposite_narrow : SFits w32 (pos 0 -ℤ v)
  opposite_narrow = rw (+ℤ_idl (neg_ℤ v)) (sfits_nat_abs (omega (arith, nat_abs_negℤ v)))

  pub opposite_is : pos 0 -ℤ v ≡ neg_ℤ v
  opposite_is = +ℤ_idl (neg_ℤ v)

  -- as it is read back
  pub opposite_read : {r : ℤ} → r ≡ neg_ℤ v → read32 r ≡ neg_ℤ v
  opposite_read {r} e =
      let g : SFits w32 r = rw (e, ← opposite_is) opposite_narrow in
      to_z-of_z g ∙ e
