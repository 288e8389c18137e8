-- Theorems about what specs/StepLaws.antt defines. Assumes nothing.
use Rattle.std.specs.Prelude.{◌≡◌, ◌≢◌, ◌⊎◌, Bool, not, ◌&&◌, ◌||◌, T, leb, pos, get_or, length, ◌<ℤ◌}
use Rattle.std.proofs.Math.Path.{refl}
use Rattle.std.proofs.Common.{◌∙◌, ap}
use Rattle.std.proofs.Math.Logic.{inl, inr}
use Rattle.std.proofs.Math.Bool.{true, false}
use Prim.Native.Nat.{ℕ, zero, suc, ◌+◌, ◌*◌, ◌-◌, ◌≤◌, ◌<◌}
use native.Mathlib.Omega.{arith}
use Rattle.std.proofs.Math.Dec.{T_not, not_T}
use Rattle.std.specs.Int.Signed.{lt_z, lt_z_yes}
use Rattle.linear.specs.Cases.{below_suc}
use Rattle.linear.proofs.TestLaws.{T-dec, and_both, and_parts, any_at, any_from, count_step}
use Rattle.linear.specs.Tests.{count_to, number}
use Rattle.linear.specs.TupleLaws.{unit_other, unit_same}
use Rattle.linear.specs.Tuples.{AtOrBelow, raise, rest}
use Rattle.definitions.specs.Step.{children_to, write_children, level, makes, marks_to, stopped_by, top, top_marks, within}
use Rattle.definitions.specs.System.{Kind, System, above, capped, covered, is_at_or_below, plain, towards}
use Rattle.definitions.specs.Tables.{State, at, frozen, list_row, write_row_if}
use Rattle.laws.proofs.SystemLaws.{below_from, below_to}
use Rattle.laws.specs.TableLaws.{RowIs}
use Rattle.laws.proofs.TableLaws.{if_written, row_outside, row_stays, stays_length}
use Rattle.laws.specs.StepLaws.{admits, against, first_open, raised, second, second_open, stops}

-- ---- `covered` says what it means

module _ (q n : ℕ) (row : ℕ → ℕ → ℕ) (x : ℕ → ℕ) where
  pub covered_at : T (covered q n row x) → (i : ℕ) × (i < n) × AtOrBelow q (row i) x
  unfolding covered
  covered_at h = let (i, l, b) = any_at n (λ i. is_at_or_below q (row i) x) h in (i, l, below_from q (row i) x b)

  pub covered_from : (i : ℕ) → i < n → AtOrBelow q (row i) x → T (covered q n row x)
  unfolding covered
  covered_from i l b = any_from n (λ i. is_at_or_below q (row i) x) i l (below_to q (row i) x b)

-- ---- `makes` says what it means: four tests

module _ (m : System) (s : State) (j : ℕ) where
  pub makes_free : T (makes m s j) → ¬ (T (frozen (top_marks m s) j))
  unfolding makes
  makes_free h = T_not (frozen (top_marks m s) j) (and_parts (not (frozen (top_marks m s) j)) _ h).0

  makes_rest : T (makes m s j) → T ((against m s j) && (admits m s j))
  unfolding makes
  makes_rest h = (and_parts (not (frozen (top_marks m s) j)) _ h).1

  pub makes_against : T (makes m s j) → towards m (top m s) j <ℤ pos 0
  makes_against h = lt_z_yes (and_parts (against m s j) _ (makes_rest h)).0

  pub makes_within : T (makes m s j) → T (within m.kind (raised m s j))
  makes_within h = (and_parts (within m.kind (raised m s j)) _ (and_parts (against m s j) _ (makes_rest h)).1).0

  pub makes_clear : T (makes m s j) → ¬ (T (stops m s j))
  makes_clear h = T_not (stops m s j) (and_parts (within m.kind (raised m s j)) _ (and_parts (against m s j) _ (makes_rest h)).1).1

  pub makes_tried : ¬ (T (frozen (top_marks m s) j)) → towards m (top m s) j <ℤ pos 0 → T (within m.kind (raised m s j)) → T (makes m s j) ⊎ T (stops m s j)
  unfolding makes
  makes_tried f a w =
      elim (T-dec (stops m s j)) [
        | inl y ↦ inr y
        | inr y ↦ inl (and_both (not (frozen (top_marks m s) j)) _ (not_T (frozen (top_marks m s) j) f)
            (and_both (against m s j) _ a.lt (and_both (within m.kind (raised m s j)) _ w (not_T (stops m s j) y))))
      ]

-- of a capped walk, by what the extra unknown is and whether it is raised: so code asks the second list only where the raised tuple has 1 there
module _ (q : ℕ) (s : State) (t : ℕ → ℕ) where
  pub open_zero : t 0 ≡ 0 → (j : ℕ) → j ≢ 0 → second_open capped q s (raise t j) ≡ true
  open_zero z j ne = let e : raise t j 0 ≡ 0 = omega (arith, unit_other j 0 (omega arith)) in rw e

  pub open_first : t 0 ≡ 0 → second_open capped q s (raise t 0) ≡ not ((second q s t) 0)
  open_first z = let e : raise t 0 0 ≡ 1 = omega (arith, unit_same 0) in rw e

  pub open_capped : t 0 ≡ 1 → second_open capped q s (raise t 0) ≡ false
  open_capped z = let e : raise t 0 0 ≡ 2 = omega (arith, unit_same 0) in rw e

  pub open_one : t 0 ≡ 1 → (j : ℕ) → j ≢ 0 → second_open capped q s (raise t j) ≡ not ((second q s t) j)
  open_one z j ne = let e : raise t j 0 ≡ 1 = omega (arith, unit_other j 0 (omega arith)) in rw e

two_tests : (w a b : Bool) → (w && not (a || b)) ≡ ((w && not b) && not a)
two_tests true true true = refl
two_tests true true false = refl
two_tests true false true = refl
two_tests true false false = refl
two_tests false a b = refl

pub open_parts : (k : Kind) (q : ℕ) (s : State) (x : ℕ → ℕ) → (within k x && not (stopped_by k q s x)) ≡ (second_open k q s x && first_open k q s x)
open_parts plain q s x = refl
open_parts capped q s x = two_tests (leb (x 0) 1) (covered (q - 1) s.run.found (list_row (q - 1) s) (rest x)) _
open_parts (above f) q s x = two_tests true (covered q s.run.found (list_row q s) x) _

swap_tests : (f a b c : Bool) → (f && (a && (b && c))) ≡ (((a && f) && b) && c)
swap_tests true true b c = refl
swap_tests true false b c = refl
swap_tests false true b c = refl
swap_tests false false b c = refl

-- an unknown makes a child where it is a candidate, the second list leaves it, and the first list does
pub makes_parts : (m : System) (s : State) (j : ℕ)
    → makes m s j ≡ (((lt_z (towards m (top m s) j) (pos 0) && not (frozen (top_marks m s) j)) && second_open m.kind m.q s (raise (top m s) j))
    && first_open m.kind m.q s (raise (top m s) j))
unfolding makes
makes_parts m s j =
    ap (λ b. not (frozen (top_marks m s) j) && (lt_z (towards m (top m s) j) (pos 0) && b)) (open_parts m.kind m.q s (raise (top m s) j))
    ∙ swap_tests (not (frozen (top_marks m s) j)) (lt_z (towards m (top m s) j) (pos 0)) _ _

-- ---- the rows of the children

module _ (m : System) (s : State) where
  pub children_length : (n : ℕ) → length (children_to n m s) ≡ length s.stack
  unfolding write_children
  children_length zero = refl
  children_length (suc n) = stays_length (makes m s n) m.q _ _ _ _ ∙ children_length n

  pub children_keep : (n l j : ℕ) → l < level s → j ≤ m.q → at (children_to n m s) (m.q + 1) l j ≡ at s.stack (m.q + 1) l j
  unfolding write_children
  children_keep zero l j h jq = refl
  children_keep (suc n) l j h jq = row_stays (makes m s n) m.q _ _ _ _ l j (omega arith) jq ∙ children_keep n l j h jq

  -- entries from the row after the last child on keep what they hold
  pub children_outside : (n e : ℕ) → (level s + count_to n (makes m s)) * (m.q + 1) ≤ e → get_or (children_to n m s) e 0 ≡ get_or s.stack e 0
  unfolding write_children count_to
  children_outside zero e l = refl
  children_outside (suc n) e l = one (makes m s n) l ∙ children_outside n e (omega (arith, fewer (makes m s n) l))
    where
      fewer : (b : Bool) → (level s + (count_to n (makes m s) + number b)) * (m.q + 1) ≤ e → (level s + count_to n (makes m s)) * (m.q + 1) ≤ e
      fewer true h = omega arith
      fewer false h = omega arith

      one : (b : Bool) → (level s + (count_to n (makes m s) + number b)) * (m.q + 1) ≤ e
          → get_or (write_row_if b m.q (children_to n m s) (level s + count_to n (makes m s)) (raise (top m s) n) (top_marks m s + marks_to n (makes m s))) e 0
          ≡ get_or (children_to n m s) e 0
      one true h = row_outside true m.q _ (level s + count_to n (makes m s)) _ _ e (omega arith)
      one false h = refl

  module _ (long : m.q * (m.q + 1) ≤ length s.stack) (low : level s + count_to m.q (makes m s) ≤ m.q) where
    pub children_row : (n : ℕ) → n ≤ m.q → (i : ℕ) → i < n → T (makes m s i)
        → RowIs m.q (children_to n m s) (level s + count_to i (makes m s)) (raise (top m s) i) (top_marks m s + marks_to i (makes m s))
    unfolding write_children
    children_row zero l i h mi = absurd (omega arith)
    children_row (suc n) l i h mi =
        elim (below_suc h) [
          | inl k ↦
              let r = children_row n (omega arith) i k mi in
              let ne : level s + count_to i (makes m s) ≢ level s + count_to n (makes m s) = omega (arith, count_step (makes m s) i n k mi) in
              record {
                tuple = λ j jq. row_stays (makes m s n) m.q _ _ _ _ _ j ne (omega arith) ∙ r.tuple j jq;
                marks_are = row_stays (makes m s n) m.q _ _ _ _ _ m.q ne (omega arith) ∙ r.marks_are;
              }
          | inr e ↦ rw e
              (if_written (makes m s n) m.q _ _ _ _ (rw e at mi) (omega (arith, count_step (makes m s) n m.q l (rw e at mi)))
              (rw (children_length n) long))
        ]
