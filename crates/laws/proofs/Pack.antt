-- Theorems about what specs/Pack.antt defines. Assumes nothing.
use Rattle.std.specs.Prelude.{◌≡◌, ◌⊎◌, Bool, true, false, List, T, length, get_or}
use Rattle.std.proofs.Math.Path.{refl}
use Rattle.std.proofs.Common.{◌∙◌, arith}
use Rattle.std.proofs.Math.Logic.{inl, inr}
use Prim.Native.Nat.{ℕ, zero, suc, ◌+◌, ◌*◌, ◌≤◌, ◌<◌}
use Rattle.std.proofs.Math.Nat.{mul-le-mul_right}
use Rattle.linear.specs.Cases.{below_suc}
use Rattle.linear.proofs.TestLaws.{count_mono, count_step}
use Rattle.linear.specs.Tests.{count_to}
use Rattle.definitions.specs.Tables.{at}
use Rattle.laws.proofs.TableLaws.{row_before, row_fits, write_inside, write_length, write_outside}
use Rattle.laws.specs.Pack.{pack_to, write_if}

pub if_length : (b : Bool) (w : ℕ) (table : List ℕ) (base : ℕ) (x : ℕ → ℕ) → length (write_if b w table base x) ≡ length table
if_length true w table base x = write_length x table base w
if_length false w table base x = refl

pub if_outside : (b : Bool) (w : ℕ) (table : List ℕ) (base : ℕ) (x : ℕ → ℕ) (i : ℕ) → (T b → (i < base) ⊎ (base + w ≤ i))
    → get_or (write_if b w table base x) i 0 ≡ get_or table i 0
if_outside true w table base x i o = write_outside x table base w i (o tt)
if_outside false w table base x i o = refl

if_inside : (b : Bool) (w : ℕ) (table : List ℕ) (base : ℕ) (x : ℕ → ℕ) (j : ℕ) → T b → base + w ≤ length table → j < w
    → get_or (write_if b w table base x) (base + j) 0 ≡ x j
if_inside true w table base x j h l jw = write_inside x table base w j l jw
if_inside false w table base x j h l jw = absurd h

module _ (w : ℕ) (table : List ℕ) (level : ℕ) (f : ℕ → Bool) (row : ℕ → ℕ → ℕ) where
  pub pack_length : (n : ℕ) → length (pack_to n w table level f row) ≡ length table
  unfolding pack_to
  pack_length zero = refl
  pack_length (suc n) = if_length (f n) w (pack_to n w table level f row) ((level + count_to n f) * w) (row n) ∙ pack_length n

  -- the rows before `level`, and those past the rows written so far, are as they were
  pub pack_outside : (n m j : ℕ) → (m < level) ⊎ (level + count_to n f ≤ m) → j < w → at (pack_to n w table level f row) w m j ≡ at table w m j
  unfolding pack_to
  pack_outside zero m j o jw = refl
  pack_outside (suc n) m j o jw =
      elim o [
        | inl l ↦
            if_outside (f n) w (pack_to n w table level f row) ((level + count_to n f) * w) (row n) (m * w + j)
            (λ h. inl (omega (arith, row_before w (level + count_to n f) m 0 j (omega arith) jw)))
            ∙ pack_outside n m j (inl l) jw
        | inr l ↦
            if_outside (f n) w (pack_to n w table level f row) ((level + count_to n f) * w) (row n) (m * w + j)
            (λ h. inr (omega (arith, row_fits w (level + count_to n f) m (omega (arith, count_step f n (suc n) (omega arith) h)))))
            ∙ pack_outside n m j (inr (omega (arith, count_mono f n (suc n) (omega arith)))) jw
      ]

  -- each row that is picked stands behind those picked before it, where the table has room for the rows up to `high`
  pub pack_row : (high : ℕ) → high * w ≤ length table → (n : ℕ) → level + count_to n f ≤ high → (k : ℕ) → k < n → T (f k) → (j : ℕ) → j < w
      → at (pack_to n w table level f row) w (level + count_to k f) j ≡ row k j
  unfolding pack_to
  pack_row high long zero l k h st j jw = absurd (omega arith)
  pack_row high long (suc n) l k h st j jw =
      elim (below_suc h) [
        | inl kn ↦
            if_outside (f n) w (pack_to n w table level f row) ((level + count_to n f) * w) (row n) ((level + count_to k f) * w + j)
            (λ y. inl (omega (arith, row_before w (level + count_to n f) (level + count_to k f) 0 j (omega (arith, count_step f k n kn st)) jw)))
            ∙ pack_row high long n (omega (arith, count_mono f n (suc n) (omega arith))) k kn st j jw
        | inr e ↦
            rw e
            (if_inside (f n) w (pack_to n w table level f row) ((level + count_to n f) * w) (row n) j (rw e at st)
            (omega (arith, pack_length n, row_fits w (level + count_to n f) high (omega (arith, count_step f n (suc n) (omega arith) (rw e at st)))))
            jw)
      ]

  -- every entry of the table past the rows written so far, of a whole row or not, is as it was
  pub pack_beyond : (n e : ℕ) → (level + count_to n f) * w ≤ e → get_or (pack_to n w table level f row) e 0 ≡ get_or table e 0
  unfolding pack_to
  pack_beyond zero e l = refl
  pack_beyond (suc n) e l =
      if_outside (f n) w (pack_to n w table level f row) ((level + count_to n f) * w) (row n) e
      (λ h. inr (omega (arith, row_fits w (level + count_to n f) (level + count_to (suc n) f) (omega (arith, count_step f n (suc n) (omega arith) h)))))
      ∙ pack_beyond n e (omega (arith, mul-le-mul_right w (count_mono f n (suc n) (omega arith))))
