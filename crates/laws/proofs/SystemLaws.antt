-- What the tests of a system say, that they read a tuple below q only, and that column j is the image of unit tuple j. Assumes nothing.
use Rattle.std.specs.Prelude.{◌≡◌, refl, ℕ, ◌<◌, T, leb, ℤ, pos, negsuc}
use Rattle.std.proofs.Math.Path.{ap}
use Rattle.std.proofs.Math.Dec.{leb→le, le→leb}
use Rattle.std.proofs.Common.{eqb→eq}
use Rattle.linear.proofs.SystemLaws.{inner_cong, value_same, value_unit}
use Rattle.linear.specs.Systems.{Fails, Solution}
use Rattle.linear.proofs.TestLaws.{all_at, all_from, all_not, all_same, any_same}
use Rattle.linear.specs.Tuples.{AtOrBelow, Same, unit}
use Rattle.definitions.specs.System.{System, coef, column, covered, image_of, is_at_or_below, is_zero, solves, towards}

-- "The image of the tuple with a single 1 at place j is column j."
pub image_unit : (m : System) (i j : ℕ) → j < m.q → image_of m (unit j) i ≡ column m j i
image_unit m i j l = value_unit (coef m i) j m.q l

-- ---- what the tests say

pub is_zero_lem : (z : ℤ) → T (is_zero z) → z ≡ pos 0
is_zero_lem (pos n) h = ap pos (eqb→eq n 0 h)
is_zero_lem (negsuc n) h = absurd h

pub zero_is : (z : ℤ) → z ≡ pos 0 → T (is_zero z)
zero_is z e = rw e tt

module _ (m : System) (x : ℕ → ℕ) where
  pub solves_solution : T (solves m x) → Solution m.p m.q (coef m) x
  unfolding solves
  solves_solution h i l = is_zero_lem (image_of m x i) (all_at m.p _ h i l)

  pub solution_solves : Solution m.p m.q (coef m) x → T (solves m x)
  unfolding solves
  solution_solves h = all_from m.p _ (λ i l. zero_is (image_of m x i) (h i l))

  pub fails_fails : ¬ (T (solves m x)) → Fails m.p m.q (coef m) x
  unfolding solves
  fails_fails h = let (i, l, z) = all_not m.p (λ i. is_zero (image_of m x i)) h in (i, l, λ e. z (zero_is (image_of m x i) e))

module _ (q : ℕ) (s x : ℕ → ℕ) where
  pub below_from : T (is_at_or_below q s x) → AtOrBelow q s x
  unfolding is_at_or_below
  below_from h j l = leb→le (s j) (x j) (all_at q _ h j l)

  pub below_to : AtOrBelow q s x → T (is_at_or_below q s x)
  unfolding is_at_or_below
  below_to b = all_from q _ (λ j l. le→leb (s j) (x j) (b j l))

-- ---- tuples that agree below q

module _ (m : System) {x y : ℕ → ℕ} (e : Same m.q x y) where
  pub solves_same : solves m x ≡ solves m y
  unfolding solves
  solves_same = all_same m.p _ _ (λ i l. ap is_zero (value_same (coef m i) m.q e))

  pub towards_same : (j : ℕ) → towards m x j ≡ towards m y j
  towards_same j = inner_cong m.p (λ i l. value_same (coef m i) m.q e) (λ i l. refl)

pub covered_same : (q n : ℕ) (row : ℕ → ℕ → ℕ) {x y : ℕ → ℕ} → Same q x y → covered q n row x ≡ covered q n row y
unfolding covered is_at_or_below
covered_same q n row e = any_same n _ _ (λ i l. all_same q _ _ (λ j k. ap (leb (row i j)) (e j k)))
