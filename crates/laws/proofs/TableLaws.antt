-- Theorems about what specs/TableLaws.antt defines. Assumes nothing.
use Rattle.std.specs.Prelude.{◌≡◌, ◌≢◌, ◌⊎◌, Bool, false, List, T, length, get_or, set}
use Rattle.std.proofs.Math.Path.{refl}
use Rattle.std.proofs.Common.{sym, ◌∙◌, ap, mul-le-mul_right, add-one, arith}
use Rattle.std.proofs.Math.Logic.{inl, inr}
use Rattle.std.proofs.Math.Bool.{true}
use Prim.Native.Nat.{ℕ, zero, suc, ◌+◌, ◌*◌, ◌-◌, ◌^◌, ◌≤◌, ◌<◌}
use Rattle.std.proofs.Math.ListN.{length-set}
use Rattle.std.proofs.Math.Seq.{get_or-set_same, get_or-set_other}
use Rattle.std.proofs.lemmas.List.{set_comm, set-get_or}
use Rattle.linear.specs.Cases.{below_suc}
use Rattle.linear.proofs.Cases.{order}
use Rattle.linear.specs.Tuples.{Same, unit}
use Rattle.definitions.specs.Tables.{at, units_to, write_row, write_row_if, write_to}
use Rattle.laws.specs.TableLaws.{RowIs}

module _ (x : ℕ → ℕ) (table : List ℕ) (base : ℕ) where
  pub write_length : (n : ℕ) → length (write_to n table base x) ≡ length table
  unfolding write_to
  write_length zero = refl
  write_length (suc n) = length-set (write_to n table base x) (base + n) (x n) ∙ write_length n

  pub write_outside : (n i : ℕ) → (i < base) ⊎ (base + n ≤ i) → get_or (write_to n table base x) i 0 ≡ get_or table i 0
  unfolding write_to
  write_outside zero i o = refl
  write_outside (suc n) i o =
      elim o [
        | inl l ↦ get_or-set_other (write_to n table base x) (base + n) i (x n) 0 (omega arith) ∙ write_outside n i (inl l)
        | inr l ↦ get_or-set_other (write_to n table base x) (base + n) i (x n) 0 (omega arith) ∙ write_outside n i (inr (omega arith))
      ]

  pub write_inside : (n j : ℕ) → base + n ≤ length table → j < n → get_or (write_to n table base x) (base + j) 0 ≡ x j
  unfolding write_to
  write_inside zero j r h = absurd (omega arith)
  write_inside (suc n) j r h =
      elim (below_suc h) [
        | inl l ↦ get_or-set_other (write_to n table base x) (base + n) (base + j) (x n) 0 (omega arith) ∙ write_inside n j (omega arith) l
        | inr e ↦ rw e (get_or-set_same (write_to n table base x) (base + n) (x n) 0 (omega (arith, write_length n)))
      ]

-- rows of w numbers do not overlap
pub row_before : (w k l i j : ℕ) → l < k → j < w → l * w + j < k * w + i
row_before w k l i j h jw = omega (arith, mul-le-mul_right w h)

pub row_fits : (w k n : ℕ) → k < n → k * w + w ≤ n * w
row_fits w k n h = omega (arith, mul-le-mul_right w h)

-- where row i of the first n rows goes, if it stays as rows are packed
pub place_fits : (q i n count : ℕ) (table : List ℕ) → i < n → n * q ≤ length table → count ≤ i → (count * q ≤ i * q) × (i * q + q ≤ length table)
place_fits q i n count table l long few = (mul-le-mul_right q few, omega (arith, row_fits q i n l))

module _ (q : ℕ) (table : List ℕ) (k : ℕ) (x : ℕ → ℕ) (marks : ℕ) where
  pub row_length : length (write_row q table k x marks) ≡ length table
  unfolding write_row
  row_length = length-set (write_to q table (k * (q + 1)) x) (k * (q + 1) + q) marks ∙ write_length x table (k * (q + 1)) q

  pub row_other : (l j : ℕ) → l ≢ k → j ≤ q → at (write_row q table k x marks) (q + 1) l j ≡ at table (q + 1) l j
  unfolding write_row
  row_other l j ne jq =
      elim (order l k) [
        | inl lk ↦
            let before = row_before (q + 1) k l 0 j lk (omega arith) in
            get_or-set_other (write_to q table (k * (q + 1)) x) (k * (q + 1) + q) (l * (q + 1) + j) marks 0 (omega arith)
            ∙ write_outside x table (k * (q + 1)) q (l * (q + 1) + j) (inl (omega arith))
        | inr o ↦ elim o [
          | inl e ↦ absurd (ne e)
          | inr kl ↦
              let after = row_before (q + 1) l k j q kl (omega arith) in
              get_or-set_other (write_to q table (k * (q + 1)) x) (k * (q + 1) + q) (l * (q + 1) + j) marks 0 (omega arith)
              ∙ write_outside x table (k * (q + 1)) q (l * (q + 1) + j) (inr (omega arith))
        ]
      ]

  module _ (fits : k * (q + 1) + (q + 1) ≤ length table) where
    pub row_tuple : (j : ℕ) → j < q → at (write_row q table k x marks) (q + 1) k j ≡ x j
    unfolding write_row
    row_tuple j jq =
        get_or-set_other (write_to q table (k * (q + 1)) x) (k * (q + 1) + q) (k * (q + 1) + j) marks 0 (omega arith)
        ∙ write_inside x table (k * (q + 1)) q j (omega arith) jq

    pub row_marks : at (write_row q table k x marks) (q + 1) k q ≡ marks
    unfolding write_row
    row_marks = get_or-set_same (write_to q table (k * (q + 1)) x) (k * (q + 1) + q) marks 0 (omega (arith, write_length x table (k * (q + 1)) q))

pub row_written : (q : ℕ) (table : List ℕ) (k : ℕ) (x : ℕ → ℕ) (marks : ℕ) → k < q → q * (q + 1) ≤ length table
    → RowIs q (write_row q table k x marks) k x marks
row_written q table k x marks l fits =
    let room = row_fits (q + 1) k q l in
    record { tuple = row_tuple q table k x marks (omega arith); marks_are = row_marks q table k x marks (omega arith) }

-- a row keeps what it holds while another is written
pub row_stays : (b : Bool) (q : ℕ) (table : List ℕ) (k : ℕ) (x : ℕ → ℕ) (marks l j : ℕ) → l ≢ k → j ≤ q
    → at (write_row_if b q table k x marks) (q + 1) l j ≡ at table (q + 1) l j
row_stays true q table k x marks l j ne h = row_other q table k x marks l j ne h
row_stays false q table k x marks l j ne h = refl

pub stays_length : (b : Bool) (q : ℕ) (table : List ℕ) (k : ℕ) (x : ℕ → ℕ) (marks : ℕ) → length (write_row_if b q table k x marks) ≡ length table
stays_length true q table k x marks = row_length q table k x marks
stays_length false q table k x marks = refl

pub if_written : (b : Bool) (q : ℕ) (table : List ℕ) (k : ℕ) (x : ℕ → ℕ) (marks : ℕ) → T b → k < q → q * (q + 1) ≤ length table
    → RowIs q (write_row_if b q table k x marks) k x marks
if_written true q table k x marks h l fits = row_written q table k x marks l fits
if_written false q table k x marks h l fits = absurd h

-- entries outside a row keep what they hold
pub row_outside : (b : Bool) (q : ℕ) (table : List ℕ) (k : ℕ) (x : ℕ → ℕ) (marks e : ℕ) → k * (q + 1) + (q + 1) ≤ e
    → get_or (write_row_if b q table k x marks) e 0 ≡ get_or table e 0
unfolding write_row
row_outside true q table k x marks e l =
    get_or-set_other (write_to q table (k * (q + 1)) x) (k * (q + 1) + q) e marks 0 (omega arith) ∙ write_outside x table (k * (q + 1)) q e (inr (omega arith))
row_outside false q table k x marks e l = refl

-- ---- the rows of the plain start

module _ (q : ℕ) (table : List ℕ) where
  pub units_length : (k : ℕ) → length (units_to k q table) ≡ length table
  unfolding units_to
  units_length zero = refl
  units_length (suc k) = row_length q (units_to k q table) k (unit k) (2 ^ k - 1) ∙ units_length k

  pub units_row : (k : ℕ) → k ≤ q → q * (q + 1) ≤ length table → (l : ℕ) → l < k → RowIs q (units_to k q table) l (unit l) (2 ^ l - 1)
  unfolding units_to
  units_row zero kq long l h = absurd (omega arith)
  units_row (suc k) kq long l h =
      elim (below_suc h) [
        | inl lk ↦
            let r = units_row k (omega arith) long l lk in
            record {
              tuple = λ j jq. row_other q (units_to k q table) k (unit k) (2 ^ k - 1) l j (omega arith) (omega arith) ∙ r.tuple j jq;
              marks_are = row_other q (units_to k q table) k (unit k) (2 ^ k - 1) l q (omega arith) (omega arith) ∙ r.marks_are;
            }
        | inr e ↦ rw e (row_written q (units_to k q table) k (unit k) (2 ^ k - 1) kq (rw (units_length k) long))
      ]

  pub units_outside : (k e : ℕ) → k * (q + 1) ≤ e → get_or (units_to k q table) e 0 ≡ get_or table e 0
  unfolding units_to
  units_outside zero e l = refl
  units_outside (suc k) e l = row_outside true q (units_to k q table) k (unit k) (2 ^ k - 1) e (omega arith) ∙ units_outside k e (omega arith)

-- ---- one more number, and one more row, as code counts

pub write_next : (n : ℕ) (table : List ℕ) (base : ℕ) (x : ℕ → ℕ) → write_to (n + 1) table base x ≡ set (write_to n table base x) (base + n) (x n)
unfolding write_to
write_next n table base x = rw add-one

pub units_next : (k q : ℕ) (table : List ℕ) → units_to (k + 1) q table ≡ write_row q (units_to k q table) k (unit k) (2 ^ k - 1)
unfolding units_to
units_next k q table = rw add-one

-- ---- tuples that agree below q

pub write_same : (n : ℕ) (table : List ℕ) (base : ℕ) {x y : ℕ → ℕ} → Same n x y → write_to n table base x ≡ write_to n table base y
unfolding write_to
write_same zero table base e = refl
write_same (suc n) table base e = rw (e n (omega arith), write_same n table base (λ i l. e i (omega arith)))

pub row_same : (q : ℕ) (table : List ℕ) (k marks : ℕ) {x y : ℕ → ℕ} → Same q x y → write_row q table k x marks ≡ write_row q table k y marks
unfolding write_row
row_same q table k marks e = ap (λ t. set t (k * (q + 1) + q) marks) (write_same q table (k * (q + 1)) e)

-- ---- two rows, written in either order, and a row written over with what it holds

write_set : (n : ℕ) (table : List ℕ) (base : ℕ) (x : ℕ → ℕ) (p y : ℕ) → (p < base) ⊎ (base + n ≤ p)
    → set (write_to n table base x) p y ≡ write_to n (set table p y) base x
unfolding write_to
write_set zero table base x p y o = refl
write_set (suc n) table base x p y o =
    let ne : base + n ≢ p = elim o [ inl l ↦ omega arith | inr l ↦ omega arith ] in
    let rest : (p < base) ⊎ (base + n ≤ p) = elim o [ inl l ↦ inl l | inr l ↦ inr (omega arith) ] in
    set_comm (write_to n table base x) (base + n) p (x n) y ne ∙ ap (λ t. set t (base + n) (x n)) (write_set n table base x p y rest)

write_write : (n m : ℕ) (table : List ℕ) (a b : ℕ) (x y : ℕ → ℕ) → (a + n ≤ b) ⊎ (b + m ≤ a)
    → write_to n (write_to m table b y) a x ≡ write_to m (write_to n table a x) b y
unfolding write_to
write_write n zero table a b x y o = refl
write_write n (suc m) table a b x y o =
    let apart : (b + m < a) ⊎ (a + n ≤ b + m) = elim o [ inl l ↦ inr (omega arith) | inr l ↦ inl (omega arith) ] in
    let rest : (a + n ≤ b) ⊎ (b + m ≤ a) = elim o [ inl l ↦ inl l | inr l ↦ inr (omega arith) ] in
    sym (write_set n (write_to m table b y) a x (b + m) (y m) apart) ∙ ap (λ t. set t (b + m) (y m)) (write_write n m table a b x y rest)

pub row_row : (q : ℕ) (table : List ℕ) (k h : ℕ) (x y : ℕ → ℕ) (a b : ℕ) → k < h
    → write_row q (write_row q table h y b) k x a ≡ write_row q (write_row q table k x a) h y b
unfolding write_row
row_row q table k h x y a b l =
    let apart : k * (q + 1) + q + 1 ≤ h * (q + 1) = omega (arith, row_fits (q + 1) k h l) in
    ap (λ t. set t (k * (q + 1) + q) a)
    (sym (write_set q (write_to q table (h * (q + 1)) y) (k * (q + 1)) x (h * (q + 1) + q) b (inr (omega arith)))
    ∙ ap (λ t. set t (h * (q + 1) + q) b) (write_write q q table (k * (q + 1)) (h * (q + 1)) x y (inl (omega arith))))
    ∙ set_comm (write_to q (write_to q table (k * (q + 1)) x) (h * (q + 1)) y) (h * (q + 1) + q) (k * (q + 1) + q) b a (omega arith)
    ∙ ap (λ t. set t (h * (q + 1) + q) b) (write_set q (write_to q table (k * (q + 1)) x) (h * (q + 1)) y (k * (q + 1) + q) a (inl (omega arith)))

pub write_again : (n : ℕ) (table : List ℕ) (base : ℕ) (x : ℕ → ℕ) → ((j : ℕ) → j < n → get_or table (base + j) 0 ≡ x j) → write_to n table base x ≡ table
unfolding write_to
write_again zero table base x h = refl
write_again (suc n) table base x h =
    rw (write_again n table base x (λ j l. h j (omega arith)), ← h n (omega arith)) (set-get_or table (base + n) 0)
