-- Theorems about what specs/Keeping.antt defines. Assumes nothing.
use Rattle.std.specs.Prelude.{◌≡◌, List, [], ◌∷◌, ◌++◌, Bool, true, false, ◌&&◌, ℕ, zero, suc, ◌+◌, ◌*◌, ◌≤◌, ◌<◌, ltb, length, set}
use Rattle.std.proofs.Math.Path.{refl}
use Rattle.std.proofs.Common.{sym, ◌∙◌, ap, ap₂, inr, add-one, le-ltb, lt-ltb}
use Rattle.std.proofs.lemmas.List.Folds.{list_any-append}
use Rattle.std.specs.List.{list_any, range_with_len}
use native.Mathlib.Omega.{arith}
use Rattle.linear.proofs.TestLaws.{count_le}
use Rattle.linear.specs.Tests.{any_to, count_to}
use Rattle.definitions.specs.Tables.{at, write_to}
use Rattle.laws.proofs.TableLaws.{write_next, write_outside, write_same}
use Rattle.laws.specs.Pack.{pack_to}
use Rattle.laws.proofs.Pack.{pack_length}
use Rattle.laws.specs.Sweep.{keeps}
use Rattle.laws.specs.SweepTable.{stays_here}
use Rattle.laws.proofs.SweepTable.{swept_ahead, sweep_test}
use Rattle.table_rows.specs.Small.{row_at}
use Rattle.table_rows.specs.Keeping.{Kept}

module _ (q : ℕ) (stay : ℕ → Bool) (table₀ : List ℕ) where
  pub kept_none : Kept q 0 stay table₀ table₀ 0
  unfolding pack_to count_to
  kept_none = record { rows = refl; counted = refl }

  module _ {i : ℕ} {table : List ℕ} {count : ℕ} (k : Kept q i stay table₀ table count) where
    pub kept_length : length table ≡ length table₀
    kept_length = ap length k.rows ∙ pack_length q table₀ 0 stay (at table₀ q) i

    pub kept_few : count ≤ i
    kept_few = omega (arith, k.counted, count_le stay i)

    pub kept_skip : stay i ≡ false → Kept q (i + 1) stay table₀ table count
    unfolding pack_to count_to
    kept_skip e = record { rows = rw (add-one i, e) k.rows; counted = rw (add-one i, e) (omega (arith, k.counted)) }

    pub kept_more : stay i ≡ true → Kept q (i + 1) stay table₀ (write_to q table (count * q) (row_at table (i * q))) (count + 1)
    unfolding pack_to count_to
    kept_more e =
        record {
          rows =
              let place : 0 + count_to i stay ≡ count_to i stay = omega arith in
              rw (add-one i, e, place, ← k.counted, ← k.rows)
              (write_same q table (count * q) (λ j jq. rw k.rows (swept_ahead q table₀ stay i i j (count_le stay i) jq)));
          counted = rw (add-one i, e) (omega (arith, k.counted));
        }

pub kept_copied : (q : ℕ) (stay : ℕ → Bool) (table₀ : List ℕ) {i : ℕ} {table : List ℕ} {count : ℕ} → Kept q i stay table₀ table count
    → stay i ≡ true → {after : List ℕ}
    → after ≡ write_to q table (count * q) (row_at table (i * q)) → Kept q (i + 1) stay table₀ after (count + 1)
kept_copied q stay table₀ k e h = rw h (kept_more q stay table₀ k e)

-- one number more of the row from place `from`, copied to an earlier place: what is ahead of the places written is as it was
pub copied_more : (table₀ : List ℕ) (from to j : ℕ) {table : List ℕ} {v : ℕ} → to ≤ from → table ≡ write_to j table₀ to (row_at table₀ from)
    → v ≡ row_at table from j → set table (to + j) v ≡ write_to (j + 1) table₀ to (row_at table₀ from)
copied_more table₀ from to j {table} {v} l e f =
    let ahead = write_outside (row_at table₀ from) table₀ to j (from + j) (inr (omega arith)) in
    ap₂ (λ t x. set t (to + j) x) e (f ∙ ap (λ t. row_at t from j) e ∙ ahead) ∙ sym (write_next j table₀ to (row_at table₀ from))

any_low : (f : ℕ → Bool) (n : ℕ) → ((i : ℕ) → i < n → f i ≡ false) → any_to n f ≡ false
unfolding any_to
any_low f zero h = refl
any_low f (suc n) h = rw (any_low f n (λ i l. h i (omega arith)), h n (omega arith))

range_last : (a n : ℕ) → range_with_len a (suc n) ≡ range_with_len a n ++ (a + n) ∷ []
range_last a zero = ap (λ x. x ∷ []) (omega arith)
range_last a (suc n) = ap (λ xs. a ∷ xs) (range_last (a + 1) n ∙ ap (λ x. range_with_len (a + 1) n ++ x ∷ []) (omega arith))

any_one : (f : ℕ → Bool) (x : ℕ) → list_any f (x ∷ []) ≡ f x
any_one f x = grind arith

-- f holds at one of the d places after i
pub any_after : (f : ℕ → Bool) (i d : ℕ) → list_any f (range_with_len (i + 1) d) ≡ any_to (i + 1 + d) (λ k. ltb i k && f k)
unfolding any_to
any_after f i zero = sym (any_low (λ k. ltb i k && f k) (i + 1 + 0) (λ k l. rw (le-ltb i k (omega arith))))
any_after f i (suc d) =
    let e : i + 1 + suc d ≡ suc (i + 1 + d) = omega arith in
    ap (list_any f) (range_last (i + 1) d)
    ∙ list_any-append f (range_with_len (i + 1) d) ((i + 1 + d) ∷ [])
    ∙ rw (e, any_after f i d, any_one f (i + 1 + d), lt-ltb i (i + 1 + d) (omega arith)) refl

-- the test made on the table as it is written over
pub kept_test : (q n : ℕ) (table₀ : List ℕ) {i : ℕ} {table : List ℕ} {count : ℕ} → n * q ≤ length table₀ → i < n
    → Kept q i (keeps q n (at table₀ q)) table₀ table count
    → stays_here q n (at table q) count i ≡ keeps q n (at table₀ q) i
kept_test q n table₀ {i} {table} {count} long l k = rw (k.rows, k.counted) (sweep_test q n table₀ long i l)
