-- What the contracts on the rows kept cite, and one turn of their loops. Assumes nothing.
use Rattle.std.specs.Prelude.{◌≡◌, List, Bool, true, false, ℕ, zero, suc, ◌+◌, ◌*◌, ◌≤◌, ◌<◌, length}
use Rattle.std.proofs.Math.Path.{refl}
use Rattle.std.proofs.Common.{◌∙◌, ap, add-one}
use native.Mathlib.Omega.{arith}
use Rattle.linear.proofs.TestLaws.{count_le, count_step}
use Rattle.linear.specs.Tests.{count_to}
use Rattle.definitions.specs.Tables.{write_to}
use Rattle.laws.proofs.TableLaws.{row_fits}
use Rattle.laws.specs.Pack.{pack_to}
use Rattle.laws.proofs.Pack.{pack_length}

-- every row
abbrev pub always : ℕ → Bool
always i = true

-- of the first n rows, those that `stay` picks stand one behind the other in a table, and there are `count` of them
pub record Packed (q n : ℕ) (stay : ℕ → Bool) (row : ℕ → ℕ → ℕ) (table₀ table : List ℕ) (count : ℕ) : Type 0 where
  pub rows : table ≡ pack_to n q table₀ 0 stay row
  pub counted : count ≡ count_to n stay

module _ (q : ℕ) (stay : ℕ → Bool) (row : ℕ → ℕ → ℕ) (table₀ : List ℕ) where
  pub packed_none : Packed q 0 stay row table₀ table₀ 0
  unfolding pack_to count_to
  packed_none = record { rows = refl; counted = refl }

  module _ {i : ℕ} {table : List ℕ} {count : ℕ} (k : Packed q i stay row table₀ table count) where
    pub packed_length : length table ≡ length table₀
    packed_length = ap length k.rows ∙ pack_length q table₀ 0 stay row i

    pub packed_few : count ≤ i
    packed_few = omega (arith, k.counted, count_le stay i)

    pub packed_skip : stay i ≡ false → Packed q (i + 1) stay row table₀ table count
    unfolding pack_to count_to
    packed_skip e = record { rows = rw (add-one i, e) k.rows; counted = rw (add-one i, e) (omega (arith, k.counted)) }

    pub packed_more : stay i ≡ true → {after : List ℕ} → after ≡ write_to q table (count * q) (row i) → Packed q (i + 1) stay row table₀ after (count + 1)
    unfolding pack_to count_to
    packed_more e h =
        record {
          rows = let place : 0 + count_to i stay ≡ count_to i stay = omega arith in rw (add-one i, e, place, ← k.counted, ← k.rows) h;
          counted = rw (add-one i, e) (omega (arith, k.counted));
        }

    -- where row i of n rows goes, if it stays, in a table with room for all that stay
    pub packed_fits : (n : ℕ) → i < n → stay i ≡ true → count_to n stay * q ≤ length table₀ → count * q + q ≤ length table
    packed_fits n l e room =
        omega (arith, packed_length, row_fits q count (count_to n stay) (omega (arith, k.counted, count_step stay i n l (rw e tt))))

-- ---- every row written

all_counted : (i : ℕ) → count_to i always ≡ i
unfolding count_to
all_counted zero = refl
all_counted (suc i) = omega (arith, all_counted i)

pub all_more : (q i : ℕ) (table₀ : List ℕ) (row : ℕ → ℕ → ℕ) {table after : List ℕ} → table ≡ pack_to i q table₀ 0 always row
    → after ≡ write_to q table (i * q) (row i) → after ≡ pack_to (i + 1) q table₀ 0 always row
unfolding pack_to
all_more q i table₀ row e h = let place : 0 + count_to i always ≡ i = omega (arith, all_counted i) in rw (add-one i, place, ← e) h
