-- What the start for right sides and lower bounds checks, check by check, and what holds where they find nothing. Assumes nothing.
use Rattle.std.specs.Prelude.{◌≡◌, refl, Bool, not, ◌||◌, ◌≢◌, List, eqb, ltb, ℤ, pos, neg_ℤ, nat_abs, ◌+ℤ◌, get_or, length}
use Rattle.std.proofs.Common.{◌∙◌, ap, arith, to_z-of_z, SFits}
use Rattle.std.proofs.Math.Bool.{true, false}
use Prim.Native.Nat.{ℕ, suc, ◌+◌, ◌*◌, ◌≤◌, ◌<◌}
use borrow.Author.Tests.{eqb-true, ltb-false, not-false}
use Rattle.std.specs.Int.{w32, w64}
use Rattle.std.specs.Prelude.{Result, Ok, Err}
use Rattle.std.specs.Result.{is_err}
use Rattle.linear.proofs.Integers.{nat_abs_+ℤ, nat_abs_negℤ, sfits_nat_abs}
use Rattle.linear.proofs.SystemLaws.{value_same}
use Rattle.linear.specs.Systems.{value}
use Rattle.definitions.specs.Answers.{Check, go, refuse_first, refuse_if, refuse_with, ◌then◌}
use Rattle.definitions.specs.Input.{bound_of}
use Rattle.definitions.specs.Refusals.{check15}
use Rattle.definitions.specs.System.{coef_limit}
use Rattle.laws.proofs.AnswerLaws.{refuse_if_go, then_assoc, then_go}
use Rattle.laws.proofs.TableLaws.{row_fits}
use Rattle.calls.specs.Paper.{check_of}
use Rattle.calls.specs.declared.Refusal.{Refusal}
use Rattle.checks.specs.Coefficients.{coefficient_checks, sides_checked}
use Rattle.engine_spec.specs.Beside.{SmallEquation, SmallRow, coefficient_limit, equation_at, row_at, value_limit}
use Rattle.engine_spec.specs.Calls.{check7}
use Rattle.engine_spec.specs.Engine.{Work}
use Rattle.engine_spec.proofs.Promise.{false_not, first_silent}
use Rattle.engine_spec.specs.Reduction.{is_small}
use Rattle.engine_spec.proofs.ReductionLaws.{small_from}
use Rattle.engine_spec.specs.StartSides.{side_at, sides_checks}
use Rattle.engine_beside.specs.Small.{value_small}
use Rattle.engine_checks.specs.Operating.{fit_small, read64}
use Rattle.engine_checks.specs.Room.{basis_rows}
use Rattle.engine_checks.specs.Sizes.{Sized, size_checks, sized}

-- ---- the checks in three parts

-- 1 to 5, from the numbers handed over; after 1 and 2 these
abbrev pub shape_rest : (p q coefs rights lower numbers basis sizes : ℕ) → Check
shape_rest p q coefs rights lower numbers basis sizes =
    refuse_if (eqb q 32) 2
    then refuse_if (not (eqb coefs (p * q))) 3
    then refuse_if (not (eqb rights p)) 3
    then refuse_if (ltb numbers (p * suc q) || ltb (basis_rows (suc q) basis sizes) (suc q)) 4
    then refuse_if (not (eqb lower q)) 5

unfoldable pub shape_checks : (p q coefs rights lower numbers basis sizes : ℕ) → Check
shape_checks p q coefs rights lower numbers basis sizes = size_checks p q then shape_rest p q coefs rights lower numbers basis sizes

-- 35, of the first n equations
unfoldable pub side_checks : (n p q : ℕ) (coefs rights : List ℤ) (lower : List ℕ) → Check
side_checks n p q coefs rights lower = refuse_first 35 n (λ i. ltb coefficient_limit (nat_abs (side_at q coefs rights lower i)))

-- 8 and 15 before it
abbrev pub number_checks : (p q : ℕ) (coefs rights : List ℤ) (lower : List ℕ) → Check
number_checks p q coefs rights lower =
    refuse_if (not (is_small q (bound_of lower))) 8 then check15 rights then side_checks p p q coefs rights lower

-- 7 before these
unfoldable pub range_checks : (p q : ℕ) (coefs rights : List ℤ) (lower : List ℕ) → Check
range_checks p q coefs rights lower = check7 p q coefs then number_checks p q coefs rights lower

unfoldable pub sides_checks_by : (p q : ℕ) (coefs rights : List ℤ) (lower : List ℕ) (numbers basis sizes : ℕ) → Check
sides_checks_by p q coefs rights lower numbers basis sizes =
    shape_checks p q (length coefs) (length rights) (length lower) numbers basis sizes then range_checks p q coefs rights lower

pub sides_checks_lem : (p q : ℕ) (coefs rights : List ℤ) (lower : List ℕ) (basis sizes : ℕ) (w : Work)
    → sides_checks_by p q coefs rights lower (length w.equations) basis sizes ≡ sides_checks p q coefs rights lower (basis_rows (suc q) basis sizes) w
unfolding sides_checks_by shape_checks size_checks range_checks side_checks sides_checks
sides_checks_lem p q coefs rights lower basis sizes w = simp then_assoc

-- ---- what holds where they find nothing

-- the numbers handed over are of the right number
pub record Shaped (p q coefs rights lower : ℕ) : Type 0 where
  pub size : Sized p q
  pub narrow : q ≤ 31
  pub count : coefs ≡ p * q
  pub sides : rights ≡ p
  pub bound : lower ≡ q

pub shaped : (p q coefs rights lower numbers basis sizes : ℕ) → shape_checks p q coefs rights lower numbers basis sizes ≡ go
    → Shaped p q coefs rights lower × (p * suc q ≤ numbers) × (suc q ≤ basis_rows (suc q) basis sizes)
unfolding shape_checks
shaped p q coefs rights lower numbers basis sizes e =
    let most = basis_rows (suc q) basis sizes in
    let (a, e₂) = then_go (size_checks p q) _ e in
    let (c, e₃) = then_go (refuse_if (eqb q 32) 2) _ e₂ in
    let (d, e₄) = then_go (refuse_if (not (eqb coefs (p * q))) 3) _ e₃ in
    let (f, e₅) = then_go (refuse_if (not (eqb rights p)) 3) _ e₄ in
    let (g, h) = then_go (refuse_if (ltb numbers (p * suc q) || ltb most (suc q)) 4) _ e₅ in
    let (s, m) = or_false (ltb numbers (p * suc q)) (ltb most (suc q)) (refuse_if_go _ 4 g) in
    let z = sized p q a in (
      record {
        size = z;
        narrow = below q z.unknowns (refuse_if_go _ 2 c);
        count = eqb-true coefs (p * q) (not-false _ (refuse_if_go _ 3 d));
        sides = eqb-true rights p (not-false _ (refuse_if_go _ 3 f));
        bound = eqb-true lower q (not-false _ (refuse_if_go _ 5 h));
      },
      ltb-false numbers (p * suc q) s,
      ltb-false most (suc q) m,
    )
  where
    or_false : (b c : Bool) → (b || c) ≡ false → (b ≡ false) × (c ≡ false)
    or_false true c e = (e, cc)
    or_false false c e = (refl, e)

    below : (q : ℕ) → q ≤ 32 → eqb q 32 ≡ false → q ≤ 31
    below q l h = by (ne h)
      where
        ne : eqb q 32 ≡ false → q ≢ 32
        ne h g = false_not (eqb q 32) h (rw g tt)

        by : q ≢ 32 → q ≤ 31
        by n = omega arith

-- and the coefficients are in their range
pub record Ranged (p q : ℕ) (coefs : List ℤ) (rights lower : ℕ) : Type 0 where
  pub shape : Shaped p q (length coefs) rights lower
  pub small : (k : ℕ) → k < p * q → nat_abs (get_or coefs k (pos 0)) ≤ coefficient_limit

pub ranged : {p q : ℕ} {coefs : List ℤ} {rights lower : ℕ} → Shaped p q (length coefs) rights lower → check7 p q coefs ≡ go → Ranged p q coefs rights lower
ranged {p} {q} {coefs} s e =
    record {
      shape = s;
      small = λ k l.
          let v = nat_abs (get_or coefs k (pos 0)) in
          omega (arith, ltb-false coef_limit v (first_silent 7 (p * q) _ e k l));
    }

module _ {p q : ℕ} {coefs : List ℤ} {rights lower : ℕ} (r : Ranged p q coefs rights lower) where
  pub equation_small : (i : ℕ) → i < p → SmallEquation q coefs (i * q)
  equation_small i l =
      record {
        unknowns = r.shape.size.unknowns;
        whole = omega (arith, r.shape.count, row_fits q i p l);
        small = λ j jq. r.small (i * q + j) (omega (arith, row_fits q i p l));
      }

-- ---- the bound as a row of its own table

-- the row from place 0 on is the bound
pub bound_at : (lower : List ℕ) (j : ℕ) → row_at lower 0 j ≡ bound_of lower j
bound_at lower j = let e : 0 + j ≡ j = omega arith in ap (λ k. get_or lower k 0) e

pub bound_small : (q : ℕ) (lower : List ℕ) → is_small q (row_at lower 0) ≡ is_small q (bound_of lower)
unfolding is_small
bound_small q lower = simp (bound_at lower)

pub bound_row : (q : ℕ) (lower : List ℕ) → length lower ≡ q → is_small q (row_at lower 0) ≡ true → SmallRow q lower 0
bound_row q lower long e = record { whole = omega arith; small = λ j l. small_from q (row_at lower 0) (rw e tt) j l }

-- 15, from what a check for 7 finds of the right sides
pub sides_tested : (rights : List ℤ) (r : Result (Unit {0}) Refusal) → check_of r ≡ coefficient_checks rights → check15 rights ≡ refuse_if (is_err r) 15
unfolding refuse_with
sides_tested rights (Ok x) e = rw (← sides_checked rights, ← e) refl
sides_tested rights (Err why) e = rw (← sides_checked rights, ← e) refl

-- ---- a right side, less what the bound makes of its equation

-- a number of 32 bits less a value fits 64
pub less_fits : (x v : ℤ) → SFits w32 x → nat_abs v ≤ value_limit → SFits w64 (x +ℤ neg_ℤ v)
less_fits x v f l = sfits_nat_abs (omega (arith, nat_abs_+ℤ x (neg_ℤ v), nat_abs_negℤ v, fit_small x f))

module _ {q : ℕ} {coefs : List ℤ} {lower : List ℕ} (i : ℕ) (s : SmallEquation q coefs (i * q)) (row : SmallRow q lower 0) (rights : List ℤ) where
  abbrev right : ℤ
  right = get_or rights i (pos 0)

  abbrev made_of : ℤ
  made_of = value (equation_at coefs (i * q)) q (row_at lower 0)

  side_is : {v : ℤ} → v ≡ right +ℤ neg_ℤ made_of → v ≡ side_at q coefs rights lower i
  unfolding side_at
  side_is e = e ∙ rw (value_same (equation_at coefs (i * q)) q (λ j l. bound_at lower j))

  -- as it is read back
  pub side_read : SFits w32 right → {v : ℤ} → v ≡ right +ℤ neg_ℤ made_of → read64 v ≡ side_at q coefs rights lower i
  side_read f {v} e =
      let g : SFits w64 v = rw e (less_fits right made_of f (value_small (row_at lower 0) s row.small)) in
      to_z-of_z g ∙ side_is e
