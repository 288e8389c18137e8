-- A question that is not refused is small; and the amounts of the equations at a tuple, as code computes and tests them. Assumes nothing.
use Rattle.std.specs.Prelude.{List, ℕ, ◌+◌, ◌*◌, ◌≤◌, ◌<◌, ℤ, nat_abs, pos, get_or, length}
use Rattle.definitions.specs.Input.{input_of, map_of}
use Rattle.definitions.specs.System.{System, coef_limit, image_of, most_component}
use Rattle.table_rows.specs.Rows.{tuple}
use Rattle.products.specs.Turns.{most_terms}

-- ---- sizes

-- the equations of a map that is not too large for sums of 64 bits
pub record SmallSystem (p q : ℕ) (coefs : List ℤ) : Type 0 where
  pub unknowns : q ≤ most_terms
  pub whole : p * q ≤ length coefs
  pub small : (n : ℕ) → nat_abs (get_or coefs n (pos 0)) ≤ coef_limit

-- one equation, i from 0
pub record SmallEquation (q : ℕ) (coefs : List ℤ) (i : ℕ) : Type 0 where
  pub unknowns : q ≤ most_terms
  pub whole : i * q + q ≤ length coefs
  pub small : (n : ℕ) → nat_abs (get_or coefs n (pos 0)) ≤ coef_limit

-- a tuple of q components in a slice
pub record SmallTuple (q : ℕ) (t : List ℕ) : Type 0 where
  pub whole : q ≤ length t
  pub small : (j : ℕ) → j < q → get_or t j 0 ≤ most_component

-- ---- the amounts

module _ {p q : ℕ} {coefs : List ℤ} {t : List ℕ} (s : SmallSystem p q coefs) (r : SmallTuple q t) {i : ℕ} (l : i < p) where
  abbrev pub m : System
  m = map_of (input_of p q coefs)

-- the amount that is told of equation k, read from its bits
module _ {p q : ℕ} {coefs : List ℤ} {t : List ℕ} (s : SmallSystem p q coefs) (r : SmallTuple q t) where
  abbrev pub image : ℕ → ℤ
  image = image_of (map_of (input_of p q coefs)) (tuple t)
