-- The tests by which rows are kept, and one turn of the loops that keep and count them. Assumes nothing.
use Rattle.std.specs.Prelude.{◌≡◌, refl, List, Bool, true, false, not, ℕ, ◌+◌, ◌*◌, ◌<◌, T, eqb, ℤ, pos, negsuc, nat_abs, get_or}
use Rattle.std.proofs.Common.{sym, ◌∙◌, ap, true≢false, add-one, arith, leb-true, eqb→eq, to_z-of_z, Fits, SFits, of_z, to_z}
use Rattle.std.specs.Int.Signed.{clash_ℤ, le_z, le_z_yes, lt_z, lt_z_no, lt_z_yes, non_neg}
use Rattle.std.specs.Int.{w32, w64}
use Rattle.linear.specs.Differences.{up}
use Rattle.linear.proofs.TestLaws.{T-same, all_at, count_le}
use Rattle.linear.specs.Tests.{all_to, count_to}
use Rattle.definitions.specs.System.{is_zero, most_component}
use Rattle.definitions.specs.Tables.{at, write_to}
use Rattle.laws.proofs.TableLaws.{write_same}
use Rattle.laws.proofs.SweepTable.{swept_ahead}
use Rattle.engine_spec.specs.Beside.{row_at}
use Rattle.engine_spec.specs.Fresh.{put_at}
use Rattle.engine_rows.specs.Packing.{Packed, packed_more}

-- value i is 0; it is not below 0; it is at most 1,000,000
abbrev pub zero_value : List ℤ → ℕ → Bool
zero_value values i = is_zero (get_or values i (pos 0))

abbrev pub not_below_value : List ℤ → ℕ → Bool
not_below_value values i = not (lt_z (get_or values i (pos 0)) (pos 0))

abbrev pub small_value : List ℤ → ℕ → Bool
small_value values i = le_z (get_or values i (pos 0)) (pos most_component)

-- row i with its value at place f
abbrev pub filled_row : ℕ → List ℤ → (ℕ → ℕ → ℕ) → ℕ → ℕ → ℕ
filled_row f values row i = put_at f (up (get_or values i (pos 0))) (row i)

-- row i has 0 at place f
abbrev pub lacks : ℕ → (ℕ → ℕ → ℕ) → ℕ → Bool
lacks f row i = eqb (row i f) 0

-- ---- tests of one value

pub zero_test : (x : ℤ) → SFits w64 x → eqb (of_z w64 x) 0 ≡ is_zero x
zero_test x f = T-same (eqb (of_z w64 x) 0) (is_zero x) (λ h. back (eqb→eq (of_z w64 x) 0 h)) (λ h. rw (is_zero_lem x h) tt)
  where
    back : of_z w64 x ≡ 0 → T (is_zero x)
    back e = let h = sym (to_z-of_z f) ∙ ap (to_z w64) e in rw h tt

    is_zero_lem : (z : ℤ) → T (is_zero z) → z ≡ pos 0
    is_zero_lem (pos n) h = ap pos (eqb→eq n 0 h)
    is_zero_lem (negsuc n) h = absurd h

pub large_small : (x : ℤ) → lt_z (pos most_component) x ≡ true → le_z x (pos most_component) ≡ false
large_small x h = T-same (le_z x (pos most_component)) false (λ y. clash_ℤ (lt_z_yes {a = pos most_component} {b = x} (rw h tt)) (le_z_yes y)) (λ y. absurd y)

pub small_large : (x : ℤ) → lt_z (pos most_component) x ≡ false → le_z x (pos most_component) ≡ true
small_large x h = T-same (le_z x (pos most_component)) true (λ y. tt) (λ y. (lt_z_no {a = pos most_component} {b = x} (rw h tt)).le)

pub not_large : (x : ℤ) → not (lt_z (pos most_component) x) ≡ le_z x (pos most_component)
not_large x = go (lt_z (pos most_component) x) refl
  where
    go : (b : Bool) → lt_z (pos most_component) x ≡ b → not b ≡ le_z x (pos most_component)
    go true e = sym (large_small x e)
    go false e = sym (small_large x e)

-- a value that is not below 0 nor above 1,000,000
pub natural_fits : (x : ℤ) → lt_z x (pos 0) ≡ false → le_z x (pos most_component) ≡ true → T (non_neg x) × Fits w32 (nat_abs x)
natural_fits (pos n) e g = (tt, record { fits = omega (arith, leb-true n most_component g) })
natural_fits (negsuc n) e g = absurd (true≢false e)

pub natural_is : (x : ℤ) → lt_z x (pos 0) ≡ false → nat_abs x ≡ up x
natural_is (pos n) e = refl
natural_is (negsuc n) e = cc

pub all_true : (n : ℕ) (f : ℕ → Bool) → all_to n f ≡ true → (i : ℕ) → i < n → f i ≡ true
all_true n f h i l = T-same (f i) true (λ y. tt) (λ y. all_at n f (rw h tt) i l)

-- ---- counts

pub counted_more : (f : ℕ → Bool) (i : ℕ) {count : ℕ} → count ≡ count_to i f → f i ≡ true → count + 1 ≡ count_to (i + 1) f
unfolding count_to
counted_more f i e g = rw (add-one i, g) (omega arith)

pub counted_same : (f : ℕ → Bool) (i : ℕ) {count : ℕ} → count ≡ count_to i f → f i ≡ false → count ≡ count_to (i + 1) f
unfolding count_to
counted_same f i e g = rw (add-one i, g) (omega arith)

-- ---- in place

module _ (q : ℕ) (stay : ℕ → Bool) (table₀ : List ℕ) {i : ℕ} {table : List ℕ} {count : ℕ} (k : Packed q i stay (at table₀ q) table₀ table count) where
  -- the row under way is as it was
  pub packed_ahead : (j : ℕ) → j < q → at table q i j ≡ at table₀ q i j
  packed_ahead j jq = rw k.rows (swept_ahead q table₀ stay i i j (count_le stay i) jq)

  pub packed_copied : stay i ≡ true → {after : List ℕ} → after ≡ write_to q table (count * q) (row_at table (i * q))
      → Packed q (i + 1) stay (at table₀ q) table₀ after (count + 1)
  packed_copied e h = packed_more q stay (at table₀ q) table₀ k e (h ∙ write_same q table (count * q) packed_ahead)
