-- Theorems about what specs/Marks.antt defines. Assumes nothing.
use Rattle.std.specs.Prelude.{◌≡◌, refl, ℕ, ◌+◌, ◌≤◌, ◌<◌, T, ℤ, ◌+ℤ◌}
use Rattle.std.proofs.Common.{inl, inr, arith}
use Rattle.linear.specs.Differences.{down, same_up, up}
use Rattle.linear.proofs.Differences.{one_side, sum_is}
use Rattle.linear.proofs.SystemLaws.{value_same, value_sum}
use Rattle.linear.specs.Systems.{value}
use Rattle.linear.specs.Tuples.{Same}
use Rattle.engine_spec.specs.Reduction.{reducible}
use Rattle.engine_spec.specs.ReductionLaws.{Against}
use Rattle.engine_spec.proofs.ReductionLaws.{reduced_more}
use Rattle.engine_spec.specs.Signs.{Reduced, Within, plus}
use Rattle.engine_spec.proofs.Reducing.{reducible_to}
use Rattle.engine_spec.specs.Marks.{Marked, Opposed, size, v, x, y}

-- ---- signs

-- x above 0, y below, and w below 0 by the sizes of both: y lies between 0 and x + w
over_within : (x y w : ℤ) → Against x y → Against x w → size x + size y ≤ size w → Within y (x +ℤ w)
over_within x y w a b l =
    let s = sum_is x w in
    record {
      ups = omega (arith, a.below, one_side y);
      downs = omega (arith, s, a.above, a.below, b.below, one_side x, one_side y, one_side w, one_side (x +ℤ w));
    }

under_within : (x y w : ℤ) → Against y x → Against w x → size x + size y ≤ size w → Within y (x +ℤ w)
under_within x y w a b l =
    let s = sum_is x w in
    record {
      ups = omega (arith, s, a.above, a.below, b.above, one_side x, one_side y, one_side w, one_side (x +ℤ w));
      downs = omega (arith, a.above, one_side y);
    }

both_ways : (x y z : ℤ) → Against x y → Against z x → ⊥
both_ways x y z a b = omega (arith, a.above, b.below, one_side x)

marked_within : (x y w : ℤ) → Opposed x y → Opposed x w → size x + size y ≤ size w → Within y (x +ℤ w)
marked_within x y w (inl a) (inl b) l = over_within x y w a b l
marked_within x y w (inl a) (inr b) l = absurd (both_ways x y w a b)
marked_within x y w (inr a) (inl b) l = absurd (both_ways x w y b a)
marked_within x y w (inr a) (inr b) l = under_within x y w a b l

-- ---- what a mark says

-- with any w of the other sign than z whose size is at least the mark, z + w is reduced
pub mark_reduces : (q : ℕ) (c : ℕ → ℤ) (n : ℕ) (row : ℕ → ℕ → ℕ) (z : ℕ → ℕ) (mark : ℕ) → Marked q c n row z mark → (w : ℕ → ℕ)
    → Opposed (value c q z) (value c q w) → mark ≤ size (value c q w) → Reduced q c n row (plus z w)
mark_reduces q c n row z mark m w o l =
    record {
      by = m.by;
      low = m.low;
      under = λ j jq. omega (arith, m.under j jq);
      within =
          rw (value_sum c q z w (plus z w) (λ j jq. refl))
          (marked_within (value c q z) (value c q (row m.by)) (value c q w) m.signs o (omega (arith, m.sizes)));
    }

-- ---- where a mark comes from

module _ (q : ℕ) (c : ℕ → ℤ) (n : ℕ) (row : ℕ → ℕ → ℕ) (h k : ℕ) (hn : h < n) (kn : k < n) (pair : Against (value c q (row h)) (value c q (row k)))
    (z : ℕ → ℕ) (is : (j : ℕ) → j < q → z j ≡ row h j + row k j) where
  sum_value : up (v q c n row h k hn kn pair z is) + down ((x q c n row h k hn kn pair z is) +ℤ (y q c n row h k hn kn pair z is))
      ≡ up ((x q c n row h k hn kn pair z is) +ℤ (y q c n row h k hn kn pair z is)) + down (v q c n row h k hn kn pair z is)
  sum_value = same_up (value_sum c q (row h) (row k) z is)

  -- a sum above 0: the row below 0 lies below it, and the mark is the size of the row above 0
  pub marked_above : 0 < up (v q c n row h k hn kn pair z is) → Marked q c n row z (size (x q c n row h k hn kn pair z is))
  marked_above u =
      record {
        by = k;
        low = kn;
        under = λ j jq. omega (arith, is j jq);
        signs = inl (record { above = u; below = pair.below });
        sizes = omega (
          arith,
          sum_value,
          sum_is (x q c n row h k hn kn pair z is) (y q c n row h k hn kn pair z is),
          pair.above,
          pair.below,
          one_side
              (x q c n row h k hn kn pair z is),
          one_side (y q c n row h k hn kn pair z is),
          one_side (v q c n row h k hn kn pair z is),
          one_side
              ((x q c n row h k hn kn pair z is) +ℤ (y q c n row h k hn kn pair z is)),
        );
      }

  -- a sum below 0
  pub marked_below : 0 < down (v q c n row h k hn kn pair z is) → Marked q c n row z (size (y q c n row h k hn kn pair z is))
  marked_below d =
      record {
        by = h;
        low = hn;
        under = λ j jq. omega (arith, is j jq);
        signs = inr (record { above = pair.above; below = d });
        sizes = omega (
          arith,
          sum_value,
          sum_is (x q c n row h k hn kn pair z is) (y q c n row h k hn kn pair z is),
          pair.above,
          pair.below,
          one_side
              (x q c n row h k hn kn pair z is),
          one_side (y q c n row h k hn kn pair z is),
          one_side (v q c n row h k hn kn pair z is),
          one_side
              ((x q c n row h k hn kn pair z is) +ℤ (y q c n row h k hn kn pair z is)),
        );
      }

-- a mark stays good when rows are appended, for a tuple that agrees with z, and when it rises
pub marked_more : (q : ℕ) (c : ℕ → ℤ) (n n' : ℕ) (row row' : ℕ → ℕ → ℕ) (z z' : ℕ → ℕ) (mark mark' : ℕ) → n ≤ n'
    → ((i : ℕ) → i < n → Same q (row' i) (row i)) → Same q z' z → mark ≤ mark' → Marked q c n row z mark → Marked q c n' row' z' mark'
marked_more q c n n' row row' z z' mark mark' more rows same rise m =
    let e = rows m.by m.low in
    record {
      by = m.by;
      low = omega (arith, m.low);
      under = λ j jq. omega (arith, e j jq, same j jq, m.under j jq);
      signs = rw (value_same c q e, value_same c q same) m.signs;
      sizes = rw (value_same c q e, value_same c q same) (omega (arith, m.sizes));
    }

-- ---- the answer of a mark

-- the mark of one row of a pair answers the test of their sum
module _ (q : ℕ) (c : ℕ → ℤ) (n : ℕ) (row : ℕ → ℕ → ℕ) (h k mark : ℕ) (pair : Against (value c q (row h)) (value c q (row k))) where
  pub upper_mark : Marked q c n row (row h) mark → mark ≤ size (value c q (row k))
      → T (reducible q c n row (plus (row h) (row k)) (value c q (plus (row h) (row k))))
  upper_mark m l = reducible_to q c n row (plus (row h) (row k)) (mark_reduces q c n row (row h) mark m (row k) (inl pair) l)

  pub lower_mark : Marked q c n row (row k) mark → mark ≤ size (value c q (row h))
      → T (reducible q c n row (plus (row h) (row k)) (value c q (plus (row h) (row k))))
  lower_mark m l =
      reducible_to q c n row (plus (row h) (row k))
      (reduced_more q c n n row row (plus (row k) (row h)) (plus (row h) (row k)) (omega arith) (λ i il j jq. refl) (λ j jq. omega arith)
      (mark_reduces q c n row (row k) mark m (row h) (inr pair) l))
