-- The end of a stage by the values that stand beside its rows. Assumes nothing.
use Rattle.std.specs.Prelude.{◌≡◌, refl, Bool, true, false, cond, not, ◌&&◌, List, [], ℕ, zero, suc, ◌+◌, ◌^◌, ◌-◌, ◌<◌, eqb, ltb, ℤ, pos}
use Rattle.std.proofs.Common.{sym, arith}
use Rattle.std.proofs.Math.Path.{ap}
use Rattle.std.specs.Int.Signed.{le_z, lt_z}
use Rattle.linear.specs.Differences.{up}
use Rattle.linear.proofs.TestLaws.{all_same, count_same}
use Rattle.linear.specs.Tests.{all_to, count_to}
use Rattle.definitions.specs.Answers.{complete, paused, refused}
use Rattle.definitions.specs.System.{is_zero}
use Rattle.laws.specs.Pack.{pack_to}
use Rattle.engine_spec.specs.Beside.{Valued}
use Rattle.engine_spec.specs.Engine.{Work, all_done, equation_of, finish, finished, left, rested, resting, result, stays, values_small}
use Rattle.engine_spec.specs.Fresh.{put_at}
use Rattle.engine_spec.specs.Stage.{row}
use Rattle.engine_rows.specs.Keeping.{filled_row, not_below_value, small_value, zero_value}

pub pack_same : (n w : ℕ) (table : List ℕ) (level : ℕ) (f g : ℕ → Bool) (x y : ℕ → ℕ → ℕ) → ((i : ℕ) → i < n → f i ≡ g i) → ((i : ℕ) → i < n → x i ≡ y i)
    → pack_to n w table level f x ≡ pack_to n w table level g y
unfolding pack_to
pack_same zero w table level f g x y e h = refl
pack_same (suc n) w table level f g x y e h =
    rw (
      e n (omega arith),
      h n (omega arith),
      count_same f g n (λ i l. e i (omega arith)),
      pack_same n w table level f g x y (λ i l. e i (omega arith)) (λ i l. h i (omega arith)),
    )

module _ (q : ℕ) (w : Work) (values : List ℤ) (v : Valued (equation_of q w) q w.stage.rows w.stage.table values) where
  abbrev n : ℕ
  n = w.stage.rows

  -- ---- without a fresh unknown

  module _ (none : ltb w.fresh q ≡ false) where
    stays_plain : (i : ℕ) → i < n → stays q w i ≡ zero_value values i
    stays_plain i l = rw none (ap is_zero (sym (v.each i l)))

    pub count_plain : count_to n (stays q w) ≡ count_to n (zero_value values)
    count_plain = count_same (stays q w) (zero_value values) n stays_plain

    pub pack_plain : pack_to n q w.basis 0 (stays q w) (left q w) ≡ pack_to n q w.basis 0 (zero_value values) (row q w.stage)
    pack_plain = pack_same n q w.basis 0 (stays q w) (zero_value values) (left q w) (row q w.stage) stays_plain (λ i l. rw none)

  -- ---- with one

  module _ (some : ltb w.fresh q ≡ true) where
    stays_fresh : (i : ℕ) → i < n → stays q w i ≡ not_below_value values i
    stays_fresh i l = rw some (ap (λ x. not (lt_z x (pos 0))) (sym (v.each i l)))

    pub count_fresh : count_to n (stays q w) ≡ count_to n (not_below_value values)
    count_fresh = count_same (stays q w) (not_below_value values) n stays_fresh

    pub pack_fresh : pack_to n q w.basis 0 (stays q w) (left q w)
        ≡ pack_to n q w.basis 0 (not_below_value values) (filled_row w.fresh values (row q w.stage))
    pack_fresh =
        pack_same n q w.basis 0 (stays q w) (not_below_value values) (left q w) (filled_row w.fresh values (row q w.stage)) stays_fresh
        (λ i l. rw some (ap (λ x. put_at w.fresh (up x) (row q w.stage i)) (sym (v.each i l))))

  pub values_small_lem : values_small q w ≡ all_to n (small_value values)
  unfolding values_small
  values_small_lem = all_same n _ (small_value values) (λ i l. ap (λ x. le_z x (pos 1000000)) (sym (v.each i l)))

-- ---- the three ways

module _ (p q most : ℕ) (w : Work) where
  pub too_large : ltb w.fresh q ≡ true → values_small q w ≡ false → result (refused 12 []) w ≡ finish p q most w
  unfolding finish
  too_large e g = rw (e, g)

  -- the values become components, or there is no unknown to fill
  abbrev Fillable : Type 0
  Fillable = (ltb w.fresh q && not (values_small q w)) ≡ false

  pub fillable_plain : ltb w.fresh q ≡ false → Fillable
  fillable_plain e = rw e

  pub fillable_fresh : ltb w.fresh q ≡ true → values_small q w ≡ true → Fillable
  fillable_fresh e g = rw (e, g)

  pub too_many : Fillable → {count : ℕ} → count ≡ count_to w.stage.rows (stays q w) → ltb most count ≡ true → result (refused 31 []) w ≡ finish p q most w
  unfolding finish
  too_many e c g = rw (e, ← c, g)

  -- what is written as the stage ends
  abbrev pub resting_with : (basis : List ℕ) (count : ℕ) → Work
  resting_with basis count = resting p q w.equations basis count (w.done + 2 ^ w.equation) w.stage.cap w.stage.table (w.stage.steps + 1)

  pub written : Fillable → {basis : List ℕ} {count : ℕ} → basis ≡ pack_to w.stage.rows q w.basis 0 (stays q w) (left q w)
      → count ≡ count_to w.stage.rows (stays q w) → ltb most count ≡ false → rested p (resting_with basis count) ≡ finish p q most w
  unfolding finish finished
  written e b c g = rw (b, e, ← c, g)

-- "complete" once every equation is done
pub rested_is : (p : ℕ) (w : Work) {b : Bool} → b ≡ eqb w.done (2 ^ p - 1) → result (cond b complete paused) w ≡ rested p w
unfolding rested all_done
rested_is p w e = rw e
