-- What tests and counts say, place by place: read off a test, shown of one, the first place, counts of equal tests. Assumes nothing.
use Rattle.std.specs.Prelude.{◌≡◌, refl, ◌≢◌, ◌⊎◌, Bool, true, false, not, ◌&&◌, ◌||◌, ℕ, zero, suc, ◌+◌, ◌≤◌, ◌<◌, min, T}
use Rattle.std.proofs.Common.{ap, ap₂, inl, inr, arith}
use Rattle.linear.specs.Cases.{below_suc}
use Rattle.linear.proofs.Cases.{split}
use Rattle.linear.specs.Tests.{number, all_to, any_to, count_to, max_to}

-- ---- Booleans

pub number_true : (b : Bool) → T b → number b ≡ 1
number_true true h = refl
number_true false h = absurd h

pub number_false : (b : Bool) → ¬ (T b) → number b ≡ 0
number_false true h = absurd (h tt)
number_false false h = refl

pub T-dec : (b : Bool) → T b ⊎ (¬ (T b))
T-dec true = inl tt
T-dec false = inr (λ h. h)

pub is_true : (b : Bool) → T b → b ≡ true
is_true true h = refl
is_true false h = absurd h

pub is_false : (b : Bool) → ¬ (T b) → b ≡ false
is_false true h = absurd (h tt)
is_false false h = refl

pub true_is : (b : Bool) → b ≡ true → T b
true_is b e = rw e tt

-- two tests that hold together are one
pub T-same : (b c : Bool) → (T b → T c) → (T c → T b) → b ≡ c
T-same true true to from = refl
T-same true false to from = absurd (to tt)
T-same false true to from = absurd (from tt)
T-same false false to from = refl

pub and_both : (b c : Bool) → T b → T c → T (b && c)
and_both true c h k = k
and_both false c h k = absurd h

pub and_parts : (b c : Bool) → T (b && c) → T b × T c
and_parts true c h = (tt, h)
and_parts false c h = absurd h

pub not_both : (b c : Bool) → T (not (b && c)) → T b → T (not c)
not_both true c h y = h
not_both false c h y = absurd y

pub both_not : (b c : Bool) → (T b → T (not c)) → T (not (b && c))
both_not true c h = h tt
both_not false c h = tt

-- ---- tests

pub all_at : (n : ℕ) (f : ℕ → Bool) → T (all_to n f) → (i : ℕ) → i < n → T (f i)
unfolding all_to
all_at zero f h i l = absurd (omega arith)
all_at (suc n) f h i l = elim (below_suc l) [ inl k ↦ all_at n f (and_parts (all_to n f) (f n) h).0 i k | inr e ↦ rw e (and_parts (all_to n f) (f n) h).1 ]

pub all_from : (n : ℕ) (f : ℕ → Bool) → ((i : ℕ) → i < n → T (f i)) → T (all_to n f)
unfolding all_to
all_from zero f h = tt
all_from (suc n) f h = and_both (all_to n f) (f n) (all_from n f (λ i l. h i (omega arith))) (h n (omega arith))

-- a test that fails somewhere is found out
pub all_not : (n : ℕ) (f : ℕ → Bool) → ¬ (T (all_to n f)) → (i : ℕ) × (i < n) × (¬ (T (f i)))
unfolding all_to
all_not zero f h = absurd (h tt)
all_not (suc n) f h =
    elim (T-dec (f n)) [
      | inl y ↦ let r = all_not n f (λ a. h (and_both (all_to n f) (f n) a y)) in (r.0, omega (arith, r.1), r.2)
      | inr y ↦ (n, omega arith, y)
    ]

pub or_cases : (b c : Bool) → T (b || c) → T b ⊎ T c
or_cases true c h = inl tt
or_cases false c h = inr h

pub or_left : (b c : Bool) → T b → T (b || c)
or_left true c h = tt
or_left false c h = absurd h

pub or_right : (b c : Bool) → T c → T (b || c)
or_right true c h = tt
or_right false c h = h

pub any_at : (n : ℕ) (f : ℕ → Bool) → T (any_to n f) → (i : ℕ) × (i < n) × T (f i)
unfolding any_to
any_at zero f h = absurd h
any_at (suc n) f h =
    elim (or_cases (any_to n f) (f n) h) [
      | inl a ↦ let r = any_at n f a in (r.0, omega (arith, r.1), r.2)
      | inr a ↦ (n, omega arith, a)
    ]

pub any_from : (n : ℕ) (f : ℕ → Bool) (i : ℕ) → i < n → T (f i) → T (any_to n f)
unfolding any_to
any_from zero f i l h = absurd (omega arith)
any_from (suc n) f i l h =
    elim (below_suc l) [ inl k ↦ or_left (any_to n f) (f n) (any_from n f i k h) | inr e ↦ or_right (any_to n f) (f n) (rw (← e) h) ]

-- the first place at which a test holds
pub first_at : (n : ℕ) (f : ℕ → Bool) (j : ℕ) → j < n → T (f j) → (i : ℕ) × (i < n) × T (f i) × ((k : ℕ) → k < i → ¬ (T (f k)))
first_at zero f j l h = absurd (omega arith)
first_at (suc n) f j l h =
    elim (T-dec (any_to n f)) [
      | inl a ↦ let b = any_at n f a in let r = first_at n f b.0 b.1 b.2 in (r.0, omega (arith, r.1), r.2, r.3)
      | inr a ↦ elim (below_suc l) [
        | inl k ↦ absurd (a (any_from n f j k h))
        | inr e ↦ (n, omega arith, rw e at h, λ k kn y. a (any_from n f k kn y))
      ]
    ]

-- ---- counts

pub count_mono : (f : ℕ → Bool) (i n : ℕ) → i ≤ n → count_to i f ≤ count_to n f
unfolding count_to
count_mono f i zero h = let e : i ≡ 0 = omega arith in rw e (omega arith)
count_mono f i (suc n) h =
    elim (split i (suc n)) [
      | inl l ↦ omega (arith, count_mono f i n (omega arith))
      | inr l ↦ let e : i ≡ suc n = omega arith in rw e (omega arith)
    ]

-- a place at which the test holds adds 1 to every later count
pub count_step : (f : ℕ → Bool) (i n : ℕ) → i < n → T (f i) → count_to i f < count_to n f
unfolding count_to
count_step f i n l h = omega (arith, count_mono f (suc i) n l, number_true (f i) h)

-- each number below the count is the count before one such place
pub count_at : (f : ℕ → Bool) (n x : ℕ) → x < count_to n f → (j : ℕ) × (j < n) × T (f j) × (count_to j f ≡ x)
unfolding count_to
count_at f zero x l = absurd (omega arith)
count_at f (suc n) x l =
    elim (split x (count_to n f)) [
      | inl k ↦ let r = count_at f n x k in (r.0, omega (arith, r.1), r.2, r.3)
      | inr k ↦ elim (T-dec (f n)) [
        | inl y ↦ (n, omega arith, y, omega (arith, number_true (f n) y))
        | inr y ↦ absurd (omega (arith, number_false (f n) y))
      ]
    ]

pub count_same : (f g : ℕ → Bool) (n : ℕ) → ((i : ℕ) → i < n → f i ≡ g i) → count_to n f ≡ count_to n g
unfolding count_to
count_same f g zero h = refl
count_same f g (suc n) h = rw (count_same f g n (λ i l. h i (omega arith)), h n (omega arith))

pub number_le : (b : Bool) → number b ≤ 1
number_le true = omega arith
number_le false = omega arith

pub count_le : (f : ℕ → Bool) (n : ℕ) → count_to n f ≤ n
unfolding count_to
count_le f zero = omega arith
count_le f (suc n) = omega (arith, count_le f n, number_le (f n))

pub count_none : (f : ℕ → Bool) (n : ℕ) → ((i : ℕ) → ¬ (T (f i))) → count_to n f ≡ 0
unfolding count_to
count_none f zero h = refl
count_none f (suc n) h = omega (arith, count_none f n h, number_false (f n) (h n))

-- two tests that differ at n only, where the second holds
pub count_one_more : (f g : ℕ → Bool) (n q : ℕ) → n < q → ¬ (T (f n)) → T (g n) → ((x : ℕ) → x ≢ n → g x ≡ f x) → count_to q g ≡ count_to q f + 1
unfolding count_to
count_one_more f g n zero l fn gn same = absurd (omega arith)
count_one_more f g n (suc q) l fn gn same =
    elim (below_suc l) [
      | inl k ↦ omega (arith, count_one_more f g n q k fn gn same, ap number (same q (omega arith)))
      | inr e ↦ omega (arith, count_same g f q (λ x xq. same x (omega arith)), number_true (g q) (rw e at gn), number_false (f q) (rw e at fn))
    ]

-- a test that holds just below k
pub count_below : (f : ℕ → Bool) (k q : ℕ) → ((j : ℕ) → j < k → T (f j)) → ((j : ℕ) → T (f j) → j < k) → count_to q f ≡ min k q
unfolding count_to
count_below f k zero some none = omega arith
count_below f k (suc q) some none =
    elim (split q k) [
      | inl l ↦ omega (arith, count_below f k q some none, number_true (f q) (some q l))
      | inr l ↦ omega (arith, count_below f k q some none, number_false (f q) (λ h. omega (arith, none q h)))
    ]

-- ---- tests that agree at every place

pub all_same : (n : ℕ) (f g : ℕ → Bool) → ((i : ℕ) → i < n → f i ≡ g i) → all_to n f ≡ all_to n g
unfolding all_to
all_same zero f g h = refl
all_same (suc n) f g h = ap₂ ◌&&◌ (all_same n f g (λ i l. h i (omega arith))) (h n (omega arith))

pub any_same : (n : ℕ) (f g : ℕ → Bool) → ((i : ℕ) → i < n → f i ≡ g i) → any_to n f ≡ any_to n g
unfolding any_to
any_same zero f g h = refl
any_same (suc n) f g h = ap₂ ◌||◌ (any_same n f g (λ i l. h i (omega arith))) (h n (omega arith))

-- ---- the largest value

pub max_le : (f : ℕ → ℕ) (n j : ℕ) → j < n → f j ≤ max_to n f
unfolding max_to
max_le f zero j l = omega arith
max_le f (suc n) j l = elim (below_suc l) [ inl k ↦ omega (arith, max_le f n j k) | inr e ↦ rw e (omega arith) ]

pub max_bound : (f : ℕ → ℕ) (n B : ℕ) → ((j : ℕ) → j < n → f j ≤ B) → max_to n f ≤ B
unfolding max_to
max_bound f zero B h = omega arith
max_bound f (suc n) B h = omega (arith, max_bound f n B (λ j l. h j (omega arith)), h n (omega arith))
