-- Theorems about what specs/Amounts.antt defines. Assumes nothing.
use Rattle.std.specs.Prelude.{◌≡◌, refl, Bool, true, false, List, ℕ, min, ◌+◌, ◌*◌, ◌-◌, ◌≤◌, ◌<◌, T, ℤ, pos, get_or, length}
use Rattle.std.proofs.Common.{sym, ◌∙◌, ap, inl, inr, mul-le-mul_right, div-mul-le_self, arith, to_z-of_z, SFits, of_z, to_z}
use Rattle.std.proofs.Math.Bool.{not}
use Rattle.std.proofs.Math.Option.{some}
use Rattle.std.proofs.Math.ListN.{get_or-eq_default}
use Rattle.std.specs.Int.{w32, w64}
use Rattle.linear.proofs.Cases.{split}
use Rattle.linear.proofs.Integers.{sfits_nat_abs}
use Rattle.linear.proofs.PlaceLaws.{First, first_is}
use Rattle.linear.specs.Systems.{value}
use Rattle.definitions.specs.Reasons.{first_off, off, reason_checks, reason_within, refused, unless_refused}
use Rattle.definitions.specs.Refusals.{Sizes, large_sizes, sizes}
use Rattle.definitions.specs.Input.{Input, input_of, map_of}
use Rattle.definitions.specs.System.{image_of, is_zero}
use Rattle.laws.proofs.CheckLaws.{check_cases}
use Rattle.laws.specs.ReasonLaws.{Askable}
use Rattle.laws.proofs.ReasonLaws.{reason_askable, reason_given, reason_renders}
use Rattle.laws.proofs.SystemLaws.{is_zero_lem}
use Rattle.laws.proofs.TableLaws.{row_fits}
use Rattle.checks.specs.Counts.{Modest}
use Rattle.table_rows.specs.Rows.{tuple}
use Rattle.products.specs.Turns.{SmallTerms, sum_fits, zero_bits}
use Rattle.reasons.specs.Amounts.{SmallEquation, SmallSystem, SmallTuple, image, m}

true_of : (b : Bool) → T b → not b ≡ false
true_of true y = refl
true_of false y = absurd y

false_of : (b : Bool) → ¬ (T b) → not b ≡ true
false_of true n = absurd (n tt)
false_of false n = refl

-- the terms of the left side of an equation at a tuple
module _ {q : ℕ} {coefs : List ℤ} {i : ℕ} (s : SmallEquation q coefs i) where
  pub equation_fits : (n : ℕ) → SFits w32 (get_or coefs n (pos 0))
  equation_fits n = sfits_nat_abs (omega (arith, s.small n))

  pub equation_terms : {t : List ℕ} → SmallTuple q t → SmallTerms q (λ j. get_or coefs (i * q + j) (pos 0)) (λ j. pos (get_or t j 0))
  equation_terms r =
      record { few = s.unknowns; left = λ j l. omega (arith, s.small (i * q + j)); right = λ j l. omega (arith, r.small j l) }

-- the largest sizes, and a question that is within smaller ones
pub large : Modest large_sizes
large = record { equations = omega arith; unknowns = omega arith }

-- sizes of which no more than these count
pub modest_min : (equations unknowns : ℕ) → Modest (sizes (min equations 32) (min unknowns 32))
modest_min equations unknowns = record { equations = omega arith; unknowns = omega arith }

pub modest_same : (equations unknowns : ℕ) → Modest (sizes equations unknowns) → sizes (min equations 32) (min unknowns 32) ≡ sizes equations unknowns
modest_same equations unknowns m =
    let e : min equations 32 ≡ equations = omega (arith, m.equations) in
    let u : min unknowns 32 ≡ unknowns = omega (arith, m.unknowns) in
    rw (e, u)

pub asked_largely : {s : Sizes} {i : Input} {list : List ℕ} {found : ℕ} {t : List ℕ} → Modest s → Askable s i list found t → Askable large_sizes i list found t
asked_largely m a =
    record {
      p_some = a.p_some;
      p_few = omega (arith, m.equations, a.p_few);
      q_some = a.q_some;
      q_few = omega (arith, m.unknowns, a.q_few);
      coefs = a.coefs;
      tuple = a.tuple;
      rows = a.rows;
      range = a.range;
      small = a.small;
    }

-- what passed the checks is small
module _ {s : Sizes} {p q : ℕ} {coefs : List ℤ} {list : List ℕ} {found : ℕ} {t : List ℕ} (m : Modest s) (a : Askable s (input_of p q coefs) list found t) where
  pub asked_system : SmallSystem p q coefs
  asked_system =
      record {
        unknowns = omega (arith, m.unknowns, a.q_few);
        whole = omega (arith, a.coefs);
        small = λ n. elim (split n (length coefs)) [ inl l ↦ a.range n l | inr l ↦ rw (get_or-eq_default coefs (pos 0) l) (omega arith) ];
      }

  pub asked_tuple : SmallTuple q t
  asked_tuple = record { whole = omega (arith, a.tuple); small = λ j l. a.small j (omega (arith, a.tuple)) }

  pub asked_rows : found * q ≤ length list
  asked_rows = omega (arith, mul-le-mul_right q a.rows, div-mul-le_self (length list) q)

-- ---- the amounts

module _ {p q : ℕ} {coefs : List ℤ} {t : List ℕ} (s : SmallSystem p q coefs) (r : SmallTuple q t) {i : ℕ} (l : i < p) where
  pub equation_of : SmallEquation q coefs i
  equation_of = record { unknowns = s.unknowns; whole = omega (arith, s.whole, row_fits q i p l); small = s.small }

  amount_fits : SFits w64 (image_of (m s r l) (tuple t) i)
  unfolding value
  amount_fits = sum_fits (equation_terms equation_of r) q (omega arith)

  -- z is the amount of equation i, which code holds as bits
  module _ {z : ℤ} (e : z ≡ image_of (m s r l) (tuple t) i) where
    pub amount_kept : to_z w64 (of_z w64 z) ≡ image_of (m s r l) (tuple t) (i + 1 - 1)
    amount_kept = let h : i + 1 - 1 ≡ i = omega arith in rw (e, h) (to_z-of_z amount_fits)

    pub amount_off : (of_z w64 z ≡ 0 → ⊥) → not (is_zero (image_of (m s r l) (tuple t) i)) ≡ true
    amount_off n = false_of (is_zero (image_of (m s r l) (tuple t) i)) (λ h. n (ap (of_z w64) (e ∙ is_zero_lem (image_of (m s r l) (tuple t) i) h)))

    pub amount_even : of_z w64 z ≡ 0 → not (is_zero (image_of (m s r l) (tuple t) i)) ≡ false
    amount_even h = true_of (is_zero (image_of (m s r l) (tuple t) i)) (zero_bits (image_of (m s r l) (tuple t) i) amount_fits (rw e at h))

-- the amount that is told of equation k, read from its bits
module _ {p q : ℕ} {coefs : List ℤ} {t : List ℕ} (s : SmallSystem p q coefs) (r : SmallTuple q t) where
  pub amount_read : {k : ℕ} {amount : ℤ} → first_off (map_of (input_of p q coefs)) (tuple t) ≡ some k → amount ≡ (image s r) (k - 1)
      → to_z w64 (of_z w64 amount) ≡ (image s r) (k - 1)
  unfolding first_off
  amount_read {k} e f =
      let first : First p (λ i. not (is_zero ((image s r) i))) k = rw e at (first_is p (λ i. not (is_zero ((image s r) i)))) in
      rw f (to_z-of_z (amount_fits s r (omega (arith, first.some, first.few))))

-- an amount that is told fits 64 bits
told_otherwise : {k n : ℕ} {amount : ℤ} {values : List ℕ} → off k amount ≡ refused n values → ⊥
told_otherwise e = let z : ◌≡◌ {A = ℕ} 0 1 = cc in omega arith

pub told_fits : {s : Sizes} → Modest s → (p q : ℕ) (coefs : List ℤ) (list : List ℕ) (found : ℕ) (t : List ℕ) (k : ℕ) (amount : ℤ)
    → off k amount ≡ reason_within s (input_of p q coefs) list found t → SFits w64 amount
unfolding reason_within unless_refused
told_fits {s} m p q coefs list found t k amount e =
    elim (check_cases (reason_checks s (input_of p q coefs) list found t)) [
      | inl g ↦ let i = input_of p q coefs in
          let a = reason_askable s i list found t g in
          let claim = (reason_given s i list found t ((reason_renders s i list found t).goes g) (off k amount) (sym e)).0 in
          rw (← claim.by) (amount_fits (asked_system m a) (asked_tuple m a) {i = k - 1} (omega (arith, claim.some, claim.few)))
      | inr (n, values, g) ↦ absurd (told_otherwise (rw g at e))
    ]
