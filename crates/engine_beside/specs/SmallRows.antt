-- Rows within the component limit, as a test that computes. Assumes nothing.
use Rattle.std.specs.Prelude.{◌≡◌, refl, Bool, ◌&&◌, List, ℕ, zero, suc, ◌+◌, ◌*◌, ◌≤◌, T, leb, get_or, length}
use Rattle.std.proofs.Common.{sym, ◌∙◌, add-one, arith}
use Rattle.std.proofs.Math.Bool.{and_assoc, and-true}
use Rattle.engine_spec.proofs.Rules.{small_to}
use Rattle.linear.proofs.TestLaws.{all_at, all_from, all_same}
use Rattle.linear.specs.Tests.{all_to}
use Rattle.definitions.specs.System.{most_component}
use Rattle.definitions.specs.Tables.{at}
use Rattle.engine_spec.specs.Beside.{SmallTable, most_columns, row_at}
use Rattle.engine_spec.specs.Reduction.{is_small}
use Rattle.engine_spec.proofs.ReductionLaws.{small_from}

unfoldable pub are_small : (q n : ℕ) → (ℕ → ℕ → ℕ) → Bool
are_small q n row = all_to n (λ i. is_small q (row i))

module _ (q n : ℕ) (table : List ℕ) where
  pub small_table : q ≤ most_columns → n * q ≤ length table → T (are_small q n (at table q)) → SmallTable q n table
  unfolding are_small
  small_table few whole h = record { few = few; whole = whole; small = λ i j il jq. small_from q (at table q i) (all_at n _ h i il) j jq }

  pub table_small : SmallTable q n table → T (are_small q n (at table q))
  unfolding are_small
  table_small s = all_from n _ (λ i il. small_to q (at table q i) (λ j jq. s.small i j il jq))

-- ---- rows one behind the other

-- the first n places, and the m behind them
all_parted : (n m : ℕ) (f : ℕ → Bool) → all_to (n + m) f ≡ all_to n f && all_to m (λ j. f (n + j))
unfolding all_to
all_parted n zero f = let e : n + 0 ≡ n = omega arith in rw e (sym (and-true (all_to n f)))
all_parted n (suc m) f = let e : n + suc m ≡ suc (n + m) = omega arith in rw (e, all_parted n m f) (and_assoc (all_to n f) _ (f (n + m)))

all_in_rows : (q n : ℕ) (f : ℕ → Bool) → all_to (n * q) f ≡ all_to n (λ i. all_to q (λ j. f (i * q + j)))
unfolding all_to
all_in_rows q zero f = let e : 0 * q ≡ 0 = omega arith in rw e refl
all_in_rows q (suc n) f = let e : suc n * q ≡ n * q + q = omega arith in rw e (all_parted (n * q) q f ∙ rw (all_in_rows q n f) refl)

-- they are small just where they are so as one row
pub small_as_one : (q n : ℕ) (table : List ℕ) → is_small (n * q) (row_at table 0) ≡ are_small q n (at table q)
unfolding are_small is_small
small_as_one q n table =
    all_same (n * q) _ (λ k. leb (get_or table k 0) most_component) (λ k l. let e : 0 + k ≡ k = omega arith in rw e refl)
    ∙ all_in_rows q n (λ k. leb (get_or table k 0) most_component)

-- one component more is asked
pub all_more : (n : ℕ) (f : ℕ → Bool) {b : Bool} → b ≡ all_to n f → (b && f n) ≡ all_to (n + 1) f
unfolding all_to
all_more n f e = rw (e, add-one n) refl
