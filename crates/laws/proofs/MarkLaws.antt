-- Marks as bits: adding a mark that is not set, the marks of a step's children, the marks of the plain start, counts of marks, and marks as the machine takes
-- them apart: the lowest one, the others, and those that are not among others. Assumes nothing.
use Rattle.std.specs.Prelude.{◌≡◌, ◌≢◌, ◌⊎◌, Bool, not, ◌&&◌, T}
use Rattle.std.proofs.Math.Path.{refl, ap}
use Rattle.std.proofs.Common.{sym, ◌∙◌, one-mul, mod-eq_of_lt, eqb→eq, lit<}
use Rattle.std.proofs.Math.Logic.{inl, inr}
use Prim.Native.Nat.{ℕ, zero, suc, ◌+◌, ◌*◌, ◌-◌, ◌/◌, ◌%◌, ◌^◌, ◌≤◌, ◌<◌, min}
use Rattle.std.proofs.Math.Nat.{div-div-eq-div-mul, one-le-pow, pow-le-pow_right}
use Rattle.std.proofs.Math.Decide.{ℕ_discrete}
use native.Mathlib.Omega.{arith}
use Rattle.std.specs.Int.Bits.{bit_and, and_step}
use Rattle.std.specs.Int.Count.{count_trailing_zeros}
use Rattle.std.proofs.Math.Dec.{eqb}
use Rattle.std.proofs.Math.Pow.{pow-lt}
use Rattle.linear.specs.Cases.{below_suc}
use Rattle.linear.proofs.Cases.{split}
use Rattle.linear.proofs.TestLaws.{T-dec, count_below, count_le, count_one_more, number_false, number_true}
use Rattle.linear.specs.Tests.{number, count_to}
use Rattle.definitions.specs.Step.{marks_to}
use Rattle.definitions.specs.Tables.{bit, frozen}

pub bit_small : (K x : ℕ) → bit K x < 2
unfolding bit
bit_small K zero = omega arith
bit_small K (suc x) = bit_small (K / 2) x

pub bit_zero : (x : ℕ) → bit 0 x ≡ 0
unfolding bit
bit_zero zero = refl
bit_zero (suc x) = bit_zero x

half_add : (K n : ℕ) → (K + 2 ^ suc n) / 2 ≡ K / 2 + 2 ^ n
half_add K n = omega arith

-- adding the bit n, which is not set, sets it and no other
pub bit_add_same : (K n : ℕ) → bit K n ≡ 0 → bit (K + 2 ^ n) n ≡ 1
unfolding bit
bit_add_same K zero e = omega arith
bit_add_same K (suc n) e = rw (half_add K n) (bit_add_same (K / 2) n e)

pub bit_add_other : (K n x : ℕ) → bit K n ≡ 0 → x ≢ n → bit (K + 2 ^ n) x ≡ bit K x
unfolding bit
bit_add_other K zero zero e ne = absurd (ne refl)
bit_add_other K zero (suc x) e ne = let h : (K + 2 ^ 0) / 2 ≡ K / 2 = omega arith in rw h
bit_add_other K (suc n) zero e ne = omega arith
bit_add_other K (suc n) (suc x) e ne = rw (half_add K n) (bit_add_other (K / 2) n x e (λ h. ne (ap suc h)))

pub bit_add_fits : (K n q : ℕ) → bit K n ≡ 0 → n < q → K < 2 ^ q → K + 2 ^ n < 2 ^ q
unfolding bit
bit_add_fits K n zero e l h = absurd (omega arith)
bit_add_fits K zero (suc q) e l h = omega arith
bit_add_fits K (suc n) (suc q) e l h = omega (arith, bit_add_fits (K / 2) n q e (omega arith) (omega arith))

-- ---- the same of marks

pub free_bit : (K x : ℕ) → ¬ (T (frozen K x)) → bit K x ≡ 0
unfolding frozen
free_bit K x h = let ne : bit K x ≢ 1 = λ e. h (rw e tt) in omega (arith, bit_small K x)

pub frozen_add : (K n x : ℕ) → ¬ (T (frozen K n)) → T (frozen (K + 2 ^ n) x) → T (frozen K x) ⊎ (x ≡ n)
frozen_add K n x f h = elim (ℕ_discrete x n) [ yes e ↦ inr e | no ne ↦ inl (unfold frozen in (rw (bit_add_other K n x (free_bit K n f) ne) at h)) ]

pub frozen_added : (K n x : ℕ) → ¬ (T (frozen K n)) → T (frozen K x) → T (frozen (K + 2 ^ n) x)
frozen_added K n x f h =
    elim (ℕ_discrete x n) [
      | yes e ↦ absurd (f (rw e at h))
      | no ne ↦ unfold frozen in (rw (bit_add_other K n x (free_bit K n f) ne) h)
    ]

pub frozen_new : (K n : ℕ) → ¬ (T (frozen K n)) → T (frozen (K + 2 ^ n) n)
unfolding frozen
frozen_new K n f = rw (bit_add_same K n (free_bit K n f)) tt

pub count_frozen_add : (K n q : ℕ) → n < q → ¬ (T (frozen K n)) → count_to q (frozen (K + 2 ^ n)) ≡ count_to q (frozen K) + 1
count_frozen_add K n q l f =
    count_one_more (frozen K) (frozen (K + 2 ^ n)) n q l f (frozen_new K n f) (λ x ne. unfold frozen in (rw (bit_add_other K n x (free_bit K n f) ne)))

-- ---- the marks M of a row, and those of the children before unknown n

module _ (M : ℕ) (f : ℕ → Bool) (q : ℕ) (free : (i : ℕ) → i < q → T (f i) → ¬ (T (frozen M i))) where
  abbrev K : ℕ → ℕ
  K n = M + marks_to n f

  more : (n : ℕ) → (T (f n) × (K (suc n) ≡ K n + 2 ^ n)) ⊎ ((¬ (T (f n))) × (K (suc n) ≡ K n))
  unfolding marks_to
  more n = elim (T-dec (f n)) [ inl y ↦ inl (y, rw (number_true (f n) y) (omega arith)) | inr y ↦ inr (y, rw (number_false (f n) y) (omega arith)) ]

  none : K 0 ≡ M
  unfolding marks_to
  none = omega arith

  -- an unknown that makes a child has no mark yet
  unmarked : (n : ℕ) → n < q → T (f n) → (T (frozen (K n) n) → T (frozen M n) ⊎ ((n < n) × T (f n))) → ¬ (T (frozen (K n) n))
  unmarked n l y only h = elim (only h) [ inl g ↦ free n l y g | inr (k, g) ↦ omega arith ]

  later : (n x : ℕ) → T (frozen M x) ⊎ ((x < n) × T (f x)) → T (frozen M x) ⊎ ((x < suc n) × T (f x))
  later n x (inl g) = inl g
  later n x (inr (k, g)) = inr (omega arith, g)

  pub marks_only : (n : ℕ) → n ≤ q → (x : ℕ) → T (frozen (K n) x) → T (frozen M x) ⊎ ((x < n) × T (f x))
  marks_only zero l x h = inl (rw none at h)
  marks_only (suc n) l x h =
      elim (more n) [
        | inl (y, e) ↦ elim (frozen_add (K n) n x (unmarked n l y (marks_only n (omega arith) n)) (rw e at h)) [
          | inl g ↦ later n x (marks_only n (omega arith) x g)
          | inr g ↦ inr (omega arith, rw g y)
        ]
        | inr (y, e) ↦ later n x (marks_only n (omega arith) x (rw e at h))
      ]

  marks_free : (n : ℕ) → n < q → T (f n) → ¬ (T (frozen (K n) n))
  marks_free n l y = unmarked n l y (marks_only n (omega arith) n)

  pub marks_inherit : (n : ℕ) → n ≤ q → (x : ℕ) → T (frozen M x) → T (frozen (K n) x)
  marks_inherit zero l x h = rw none h
  marks_inherit (suc n) l x h =
      elim (more n) [
        | inl (y, e) ↦ rw e (frozen_added (K n) n x (marks_free n l y) (marks_inherit n (omega arith) x h))
        | inr (y, e) ↦ rw e (marks_inherit n (omega arith) x h)
      ]

  pub marks_made : (n : ℕ) → n ≤ q → (i : ℕ) → i < n → T (f i) → T (frozen (K n) i)
  marks_made zero l i k h = absurd (omega arith)
  marks_made (suc n) l i k h =
      elim (more n) [
        | inl (y, e) ↦ elim (below_suc k) [
          | inl m ↦ rw e (frozen_added (K n) n i (marks_free n l y) (marks_made n (omega arith) i m h))
          | inr g ↦ rw (e, g) (frozen_new (K n) n (marks_free n l y))
        ]
        | inr (y, e) ↦ elim (below_suc k) [
          | inl m ↦ rw e (marks_made n (omega arith) i m h)
          | inr g ↦ absurd (y (rw g at h))
        ]
      ]

  pub marks_count : (n : ℕ) → n ≤ q → count_to q (frozen (K n)) ≡ count_to q (frozen M) + count_to n f
  unfolding count_to
  marks_count zero l = rw none (omega arith)
  marks_count (suc n) l =
      elim (more n) [
        | inl (y, e) ↦ rw e (omega (arith, count_frozen_add (K n) n q l (marks_free n l y), marks_count n (omega arith), number_true (f n) y))
        | inr (y, e) ↦ rw e (omega (arith, marks_count n (omega arith), number_false (f n) y))
      ]

  -- the children are no more than the unknowns without a mark
  pub marks_few : count_to q (frozen M) + count_to q f ≤ q
  marks_few = omega (arith, marks_count q (omega arith), count_le (frozen (K q)) q)

  pub marks_fit : (n : ℕ) → n ≤ q → M < 2 ^ q → K n < 2 ^ q
  marks_fit zero l h = rw none h
  marks_fit (suc n) l h =
      elim (more n) [
        | inl (y, e) ↦ rw e (bit_add_fits (K n) n q (free_bit (K n) n (marks_free n l y)) l (marks_fit n (omega arith) h))
        | inr (y, e) ↦ rw e (marks_fit n (omega arith) h)
      ]

-- ---- the marks of row k of the plain start

half_ones : (k : ℕ) → (2 ^ suc k - 1) / 2 ≡ 2 ^ k - 1
half_ones k = omega (arith, one-le-pow k 2 (lit< tt))

ones_set : (k j : ℕ) → j < k → bit (2 ^ k - 1) j ≡ 1
unfolding bit
ones_set zero j l = absurd (omega arith)
ones_set (suc k) zero l = omega (arith, one-le-pow k 2 (lit< tt))
ones_set (suc k) (suc j) l = rw (half_ones k) (ones_set k j (omega arith))

ones_clear : (k j : ℕ) → k ≤ j → bit (2 ^ k - 1) j ≡ 0
unfolding bit
ones_clear zero j l = bit_zero j
ones_clear (suc k) zero l = absurd (omega arith)
ones_clear (suc k) (suc j) l = rw (half_ones k) (ones_clear k j (omega arith))

pub ones_frozen : (k j : ℕ) → j < k → T (frozen (2 ^ k - 1) j)
unfolding frozen
ones_frozen k j l = rw (ones_set k j l) tt

pub ones_free : (k j : ℕ) → T (frozen (2 ^ k - 1) j) → j < k
ones_free k j h = elim (split j k) [ inl l ↦ l | inr l ↦ absurd (unfold frozen in (rw (ones_clear k j l) at h)) ]

pub ones_count : (k q : ℕ) → k ≤ q → count_to q (frozen (2 ^ k - 1)) ≡ k
ones_count k q l = omega (arith, count_below (frozen (2 ^ k - 1)) k q (ones_frozen k) (ones_free k))

pub ones_fit : (k q : ℕ) → k < q → 2 ^ k - 1 < 2 ^ q
ones_fit k q l = omega (arith, one-le-pow k 2 (lit< tt), pow-le-pow_right {n = 2} (lit< tt) {i = k} {j = q} (omega arith))

pub frozen_none : (x : ℕ) → ¬ (T (frozen 0 x))
unfolding frozen
frozen_none x h = rw (bit_zero x) at h

-- ---- counting marks

bit_beyond : (K q x : ℕ) → K < 2 ^ q → q ≤ x → bit K x ≡ 0
unfolding bit
bit_beyond K zero x h l = let e : K ≡ 0 = omega arith in rw e (bit_zero x)
bit_beyond K (suc q) zero h l = absurd (omega arith)
bit_beyond K (suc q) (suc x) h l = bit_beyond (K / 2) q x (omega arith) (omega arith)

pub free_beyond : (K q x : ℕ) → K < 2 ^ q → q ≤ x → ¬ (T (frozen K x))
unfolding frozen
free_beyond K q x h l y = rw (bit_beyond K q x h l) at y

-- where no mark is beyond unknown q, the marks of the first q unknowns are all
pub count_frozen_fit : (marks q d : ℕ) → q ≤ d → marks < 2 ^ q → count_to d (frozen marks) ≡ count_to q (frozen marks)
unfolding count_to
count_frozen_fit marks q zero l h = let e : q ≡ 0 = omega arith in rw e
count_frozen_fit marks q (suc d) l h =
    elim (split d q) [
      | inl k ↦ let e : q ≡ suc d = omega arith in rw e
      | inr k ↦ omega (arith, count_frozen_fit marks q d k h, number_false (frozen marks d) (free_beyond marks q d h k))
    ]

number_odd : (n : ℕ) → number (frozen n 0) ≡ n % 2
unfolding frozen bit
number_odd n = elim (split (n % 2) 1) [ inl l ↦ let e : n % 2 ≡ 0 = omega arith in rw e | inr l ↦ let e : n % 2 ≡ 1 = omega arith in rw e ]

-- the lowest mark, and the others moved down by one place
pub count_frozen_half : (d marks : ℕ) → count_to (suc d) (frozen marks) ≡ marks % 2 + count_to d (frozen (marks / 2))
unfolding count_to
count_frozen_half zero marks = omega (arith, number_odd marks)
count_frozen_half (suc d) marks =
    let e : frozen marks (suc d) ≡ frozen (marks / 2) d = unfold frozen bit in refl in rw e (omega (arith, count_frozen_half d marks))

-- ---- the machine's `1 << k` at 32 bits, and at 64

pub shift_one : (k : ℕ) → k < 32 → (1 * 2 ^ k) % 4294967296 ≡ 2 ^ k
shift_one k h = rw one-mul (mod-eq_of_lt (pow-lt h))

pub shift_one_wide : (k : ℕ) → k < 64 → (1 * 2 ^ k) % 18446744073709551616 ≡ 2 ^ k
shift_one_wide k h = rw one-mul (mod-eq_of_lt (pow-lt h))

-- ---- a mark as code reads it

mark_bit : (m k : ℕ) → (m / 2 ^ k) % 2 ≡ bit m k
unfolding bit
mark_bit m zero = omega arith
mark_bit m (suc k) = let e : m / 2 ^ suc k ≡ m / 2 / 2 ^ k = sym (div-div-eq-div-mul m 2 (2 ^ k) ∙ ap (λ d. m / d) (omega arith)) in rw e (mark_bit (m / 2) k)

pub mark_test : (m k : ℕ) → eqb ((m / 2 ^ k) % 2) 1 ≡ frozen m k
unfolding frozen
mark_test m k = rw (mark_bit m k)

-- ---- the lowest mark, which the machine finds by counting zeros, and the marks without one

zeros_more : (K n : ℕ) → K % 2 ≡ 0 → ((j : ℕ) → j < n → bit (K / 2) j ≡ 0) → (j : ℕ) → j < suc n → bit K j ≡ 0
unfolding bit
zeros_more K n e h zero l = e
zeros_more K n e h (suc j) l = h j (omega arith)

lowest_bit : (k K : ℕ) → 0 < K → K < 2 ^ k → (count_trailing_zeros k K < k) × (bit K (count_trailing_zeros k K) ≡ 1)
    × ((j : ℕ) → j < count_trailing_zeros k K → bit K j ≡ 0)
unfolding count_trailing_zeros bit
lowest_bit zero K p h = absurd (omega arith)
lowest_bit (suc k) K p h =
    elim (split (K % 2) 1) [
      | inl l ↦
          let e : K % 2 ≡ 0 = omega arith in
          let r = lowest_bit k (K / 2) (omega arith) (omega arith) in
          rw e (omega (arith, r.0), r.1, zeros_more K (count_trailing_zeros k (K / 2)) e r.2)
      | inr l ↦ let e : K % 2 ≡ 1 = omega arith in rw e (omega arith, e, λ j k. absurd (omega arith))
    ]

half_sub : (K n : ℕ) → (K - 2 ^ suc n) / 2 ≡ K / 2 - 2 ^ n
half_sub K n = omega arith

bit_sub : (K n : ℕ) → bit K n ≡ 1 → (2 ^ n ≤ K) × (bit (K - 2 ^ n) n ≡ 0)
unfolding bit
bit_sub K zero e = (omega arith, omega arith)
bit_sub K (suc n) e = let r = bit_sub (K / 2) n e in (omega (arith, r.0), rw (half_sub K n) r.1)

set_bit : (K x : ℕ) → T (frozen K x) → bit K x ≡ 1
unfolding frozen
set_bit K x h = eqb→eq (bit K x) 1 h

pub lowest_frozen : (k K : ℕ) → 0 < K → K < 2 ^ k
    → (count_trailing_zeros k K < k) × T (frozen K (count_trailing_zeros k K)) × ((j : ℕ) → j < count_trailing_zeros k K → ¬ (T (frozen K j)))
unfolding frozen
lowest_frozen k K p h =
    let r = lowest_bit k K p h in
    (r.0, rw r.1 tt, λ j l y. rw (r.2 j l) at y)

module _ (K n : ℕ) (y : T (frozen K n)) where
  pub frozen_le : 2 ^ n ≤ K
  frozen_le = (bit_sub K n (set_bit K n y)).0

  pub frozen_gone : ¬ (T (frozen (K - 2 ^ n) n))
  unfolding frozen
  frozen_gone h = rw (bit_sub K n (set_bit K n y)).1 at h

  pub frozen_others : (x : ℕ) → x ≢ n → frozen (K - 2 ^ n) x ≡ frozen K x
  unfolding frozen
  frozen_others x ne =
      let e : K - 2 ^ n + 2 ^ n ≡ K = omega (arith, frozen_le) in
      ap (λ b. eqb b 1) (sym (rw e at (bit_add_other (K - 2 ^ n) n x (bit_sub K n (set_bit K n y)).1 ne)))

-- the mark of the lowest, as the machine makes it, is among the marks
module _ (K : ℕ) (some : 0 < K) (fits : K < 2 ^ 32) where
  pub lowest_le : (1 * 2 ^ count_trailing_zeros 32 K) % 4294967296 ≤ K
  lowest_le = let low = lowest_frozen 32 K some fits in rw (shift_one (count_trailing_zeros 32 K) low.0) (frozen_le K (count_trailing_zeros 32 K) low.1)

  pub lowest_less : K - (1 * 2 ^ count_trailing_zeros 32 K) % 4294967296 < K
  lowest_less =
      let low = lowest_frozen 32 K some fits in
      omega (arith, lowest_le, shift_one (count_trailing_zeros 32 K) low.0, one-le-pow (count_trailing_zeros 32 K) 2 (lit< tt))

-- ---- marks that are not among others: the machine's `a & !b`

bit_and_lem : (a b j : ℕ) → bit (bit_and a b) j ≡ min (bit a j) (bit b j)
unfolding bit
bit_and_lem a b zero = omega (arith, and_step a b)
bit_and_lem a b (suc j) = let e : bit_and a b / 2 ≡ bit_and (a / 2) (b / 2) = omega (arith, and_step a b) in rw e (bit_and_lem (a / 2) (b / 2) j)

half_not : (k K : ℕ) → K < 2 ^ suc k → (2 ^ suc k - 1 - K) / 2 ≡ 2 ^ k - 1 - K / 2
half_not k K h = omega arith

bit_not : (k K j : ℕ) → K < 2 ^ k → j < k → bit (2 ^ k - 1 - K) j ≡ 1 - bit K j
unfolding bit
bit_not zero K j h l = absurd (omega arith)
bit_not (suc k) K zero h l = omega arith
bit_not (suc k) K (suc j) h l = rw (half_not k K h) (bit_not k (K / 2) j (omega arith) (omega arith))

clear_test : (x y : ℕ) → x < 2 → y < 2 → eqb (min x (1 - y)) 1 ≡ eqb x 1 && not (eqb y 1)
clear_test zero zero h l = refl
clear_test zero (suc zero) h l = refl
clear_test (suc zero) zero h l = refl
clear_test (suc zero) (suc zero) h l = refl
clear_test (suc (suc x)) y h l = absurd (omega arith)
clear_test zero (suc (suc y)) h l = absurd (omega arith)
clear_test (suc zero) (suc (suc y)) h l = absurd (omega arith)

pub frozen_free : (k a b j : ℕ) → b < 2 ^ k → j < k → frozen (bit_and a (2 ^ k - 1 - b)) j ≡ frozen a j && not (frozen b j)
unfolding frozen
frozen_free k a b j h l = rw (bit_and_lem a (2 ^ k - 1 - b) j, bit_not k b j h l) (clear_test (bit a j) (bit b j) (bit_small a j) (bit_small b j))
