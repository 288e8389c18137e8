-- Theorems about what specs/SweepLaws.antt defines. Assumes nothing.
use Rattle.std.specs.Prelude.{◌⊎◌, not, T}
use Rattle.std.proofs.Math.Logic.{inl, inr}
use Prim.Native.Nat.{ℕ, zero, suc, ◌+◌, ◌*◌, ◌<◌}
use Rattle.std.proofs.Common.{mul-le-mul_right, arith, ltb→lt, lt→ltb}
use Rattle.std.proofs.Math.Dec.{T_not, not_T}
use Rattle.linear.proofs.TestLaws.{T-dec, and_both, and_parts, any_at, any_from, count_at, count_step, or_cases, or_left, or_right}
use Rattle.linear.specs.Tests.{any_to, count_to}
use Rattle.linear.proofs.TupleLaws.{differ, total_less, total_same}
use Rattle.linear.specs.Tuples.{AtOrBelow, Below, total}
use Rattle.definitions.specs.System.{is_at_or_below}
use Rattle.laws.proofs.SystemLaws.{below_from, below_to}
use Rattle.laws.specs.Sweep.{keeps, spoils}
use Rattle.laws.specs.SweepLaws.{From, Stays, Swept}

-- ---- what the tests say

module _ (q : ℕ) (row : ℕ → ℕ → ℕ) (i k : ℕ) where
  spoils_says : T (spoils q row i k) → AtOrBelow q (row k) (row i) × (Below q (row k) (row i) ⊎ (k < i))
  unfolding spoils
  spoils_says h =
      let (u, o) = and_parts (is_at_or_below q (row k) (row i)) _ h in
      let b = below_from q (row k) (row i) u in (
        b,
        elim (or_cases (not (is_at_or_below q (row i) (row k))) _ o) [
          | inl x ↦ inl (record {
            at_most = b;
            other = λ e. T_not (is_at_or_below q (row i) (row k)) x (below_to q (row i) (row k) (λ j jq. omega (arith, e j jq)));
          })
          | inr x ↦ inr (ltb→lt k i x)
        ],
      )

  below_spoils : Below q (row k) (row i) → T (spoils q row i k)
  unfolding spoils
  below_spoils b =
      and_both (is_at_or_below q (row k) (row i)) _ (below_to q (row k) (row i) b.at_most)
      (or_left (not (is_at_or_below q (row i) (row k))) _
      (not_T (is_at_or_below q (row i) (row k)) (λ h. b.other (λ j jq. omega (arith, b.at_most j jq, below_from q (row i) (row k) h j jq)))))

  repeat_spoils : k < i → AtOrBelow q (row k) (row i) → T (spoils q row i k)
  unfolding spoils
  repeat_spoils l b =
      and_both (is_at_or_below q (row k) (row i)) _ (below_to q (row k) (row i) b) (or_right (not (is_at_or_below q (row i) (row k))) _ (lt→ltb k i l))

module _ (q n : ℕ) (row : ℕ → ℕ → ℕ) where
  -- a row that stays, and an earlier row at or below it: there is none
  pub none_earlier : (i : ℕ) → i < n → T (keeps q n row i) → (k : ℕ) → k < i → ¬ (AtOrBelow q (row k) (row i))
  unfolding keeps
  none_earlier i l h k ki b = T_not (any_to n (spoils q row i)) h (any_from n (spoils q row i) k (omega arith) (repeat_spoils q row i k ki b))

  pub keeps_stays : (i : ℕ) → i < n → T (keeps q n row i) → Stays q n row i
  unfolding keeps
  keeps_stays i l h =
      record {
        least = λ k kn b. T_not (any_to n (spoils q row i)) h (any_from n (spoils q row i) k kn (below_spoils q row i k b));
        first = λ k ki e. none_earlier i l h k ki (λ j jq. omega (arith, e j jq));
      }

  pub stays_keeps : (i : ℕ) → Stays q n row i → T (keeps q n row i)
  unfolding keeps
  stays_keeps i s =
      not_T (any_to n (spoils q row i)) (λ h.
      let (k, kn, sp) = any_at n (spoils q row i) h in
      let (b, o) = spoils_says q row i k sp in
      elim o [
        | inl x ↦ s.least k kn x
        | inr x ↦ elim (differ q (row k) (row i))
            [ inl e ↦ s.first k x e | inr (j, jq, ne) ↦ s.least k kn (record { at_most = b; other = λ e. ne (e j jq) }) ]
      ])

  -- ---- a row that goes is at or above one that stays

  -- what spoils a row has a smaller sum, or the same sum and an earlier place
  spoils_smaller : (i k : ℕ) → i < n → k < n → T (spoils q row i k) → total (row k) q * n + k < total (row i) q * n + i
  spoils_smaller i k il kl h =
      let (b, o) = spoils_says q row i k h in
      elim (differ q (row k) (row i)) [
        | inl e ↦ elim o [ inl x ↦ absurd (x.other e) | inr x ↦ rw (total_same (row k) (row i) q e) (omega arith) ]
        | inr (j, jq, ne) ↦ omega (arith, mul-le-mul_right n (total_less q b j jq ne))
      ]

  descend : (d i : ℕ) → i < n → total (row i) q * n + i < d → (k : ℕ) × (k < n) × T (keeps q n row k) × AtOrBelow q (row k) (row i)
  unfolding keeps
  descend zero i l h = absurd (omega arith)
  descend (suc d) i l h =
      elim (T-dec (any_to n (spoils q row i))) [
        | inl y ↦
            let (k, kn, sp) = any_at n (spoils q row i) y in
            let (m, mn, stays, b) = descend d k kn (omega (arith, spoils_smaller i k l kn sp)) in
            (m, mn, stays, λ j jq. omega (arith, b j jq, (spoils_says q row i k sp).0 j jq))
        | inr y ↦ (i, l, not_T (any_to n (spoils q row i)) y, λ j jq. omega arith)
      ]

  pub kept_below : (i : ℕ) → i < n → (k : ℕ) × (k < n) × T (keeps q n row k) × AtOrBelow q (row k) (row i)
  kept_below i l = descend (suc (total (row i) q * n + i)) i l (omega arith)

module _ {q n : ℕ} {row : ℕ → ℕ → ℕ} {n' : ℕ} {row' : ℕ → ℕ → ℕ} (s : Swept q n row n' row') where
  pub comes_from : (m : ℕ) → m < n' → (From s) m
  comes_from m l =
      let (i, il, st, e) = count_at (keeps q n row) n m (omega (arith, s.count)) in
      record { i = i; low = il; stays = st; place = e; same = rw e at (s.rows i il st) }

  -- a row of the list before is at or above a row left
  pub left_below : (i : ℕ) → i < n → (m : ℕ) × (m < n') × AtOrBelow q (row' m) (row i)
  left_below i l =
      let (k, kn, st, b) = kept_below q n row i l in
      (count_to k (keeps q n row), omega (arith, s.count, count_step (keeps q n row) k n kn st), λ j jq. omega (arith, s.rows k kn st j jq, b j jq))
