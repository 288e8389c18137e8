-- Theorems about what specs/Words.antt defines. Assumes nothing.
use Rattle.std.specs.Prelude.{◌≡◌, refl, ℕ, zero, suc, ◌+◌, ◌*◌, ◌-◌, ◌^◌, ◌/◌, ◌%◌, ◌≤◌, ◌<◌, T}
use Rattle.std.proofs.Math.Path.{sym}
use Rattle.std.proofs.Common.{◌∙◌, ap, inl, inr, pow-suc, add-one}
use native.Mathlib.Omega.{arith}
use Rattle.std.proofs.lemmas.Nat.{and_block, and_mask, or_disjoint}
use Rattle.std.specs.Int.Bits.{and_zero_r, bit_and, bit_or, or_add_and}
use Rattle.std.proofs.Math.Dec.{eqb→eq, eqb_refl}
use Rattle.linear.proofs.Cases.{split}
use Rattle.linear.specs.Tuples.{AtOrBelow}
use Rattle.engine_spec.specs.Signs.{plus}
use Rattle.engine_spec.specs.Words.{capped, digit, digits, fits, guards, joined, left, others, word}

-- ---- digits

pub digits_same : (n : ℕ) (f g : ℕ → ℕ) → ((j : ℕ) → j < n → f j ≡ g j) → digits n f ≡ digits n g
unfolding digits
digits_same zero f g e = refl
digits_same (suc n) f g e =
    omega (arith, e 0 (omega arith), digits_same n (λ j. f (suc j)) (λ j. g (suc j)) (λ j l. e (suc j) (omega arith)))

pub digits_sum : (n : ℕ) (f g h : ℕ → ℕ) → ((j : ℕ) → j < n → h j ≡ f j + g j) → digits n h ≡ digits n f + digits n g
unfolding digits
digits_sum zero f g h e = refl
digits_sum (suc n) f g h e =
    omega (arith, e 0 (omega arith), digits_sum n (λ j. f (suc j)) (λ j. g (suc j)) (λ j. h (suc j)) (λ j l. e (suc j) (omega arith)))

digits_times : (n k : ℕ) (f : ℕ → ℕ) → digits n (λ j. f j * k) ≡ digits n f * k
unfolding digits
digits_times zero k f = omega arith
digits_times (suc n) k f = omega (arith, digits_times n k (λ j. f (suc j)))

pub digit_at : (n : ℕ) (f : ℕ → ℕ) → ((j : ℕ) → j < n → f j < 16) → (j : ℕ) → j < n → digit (digits n f) j ≡ f j
unfolding digits digit
digit_at zero f low j l = absurd (omega arith)
digit_at (suc n) f low zero l = omega (arith, low 0 (omega arith))
digit_at (suc n) f low (suc j) l =
    let e : (f 0 + 16 * digits n (λ j. f (suc j))) / 16 ≡ digits n (λ j. f (suc j)) = omega (arith, low 0 (omega arith)) in
    rw e (digit_at n (λ j. f (suc j)) (λ j l. low (suc j) (omega arith)) j (omega arith))

-- one more digit, as code writes them
digits_suc : (n : ℕ) (f : ℕ → ℕ) → digits (suc n) f ≡ digits n f + f n * 16 ^ n
unfolding digits
digits_suc zero f = omega arith
digits_suc (suc n) f = rw (pow-suc 16 n) (omega (arith, digits_suc n (λ j. f (suc j))))

pub digits_next : (n : ℕ) (f : ℕ → ℕ) → digits (n + 1) f ≡ digits n f + f n * 16 ^ n
digits_next n f = rw (add-one n) (digits_suc n f)

pub digits_and : (n : ℕ) (f g : ℕ → ℕ) → ((j : ℕ) → j < n → f j < 16) → ((j : ℕ) → j < n → g j < 16)
    → bit_and (digits n f) (digits n g) ≡ digits n (λ j. bit_and (f j) (g j))
unfolding digits
digits_and zero f g lf lg = refl
digits_and (suc n) f g lf lg =
    let rest = digits_and n (λ j. f (suc j)) (λ j. g (suc j)) (λ j l. lf (suc j) (omega arith)) (λ j l. lg (suc j) (omega arith)) in
    let F = digits n (λ j. f (suc j)) in
    let G = digits n (λ j. g (suc j)) in
    let ef : f 0 + 16 * F ≡ F * 2 ^ 4 + f 0 = omega arith in
    let eg : g 0 + 16 * G ≡ G * 2 ^ 4 + g 0 = omega arith in
    rw (ef, eg) (omega (arith, and_block 4 F G (f 0) (g 0) (lf 0 (omega arith)) (lg 0 (omega arith)), rest))

-- ---- masks

-- the guard of one digit
guard_of : (x : ℕ) → x < 16 → bit_and x 8 ≡ x / 8 * 8
guard_of x l =
    let e : x ≡ x / 8 * 2 ^ 3 + x % 8 = omega arith in
    let block = and_block 3 (x / 8) 1 (x % 8) 0 (omega arith) (omega arith) in
    let none = and_zero_r (x % 8) in
    let one : bit_and (x / 8) 1 ≡ x / 8 = elim (split x 8) [
      | inl u ↦ let z : x / 8 ≡ 0 = omega arith in rw z refl
      | inr u ↦ let z : x / 8 ≡ 1 = omega arith in rw z refl
    ] in
    ap (λ y. bit_and y 8) e ∙ (block ∙ omega (arith, none, one))

guards_of : (q : ℕ) (f : ℕ → ℕ) → ((j : ℕ) → j < q → f j < 16) → bit_and (digits q f) (guards q) ≡ digits q (λ j. f j / 8 * 8)
unfolding guards
guards_of q f low =
    digits_and q f (λ j. 8) low (λ j l. omega arith) ∙ digits_same q (λ j. bit_and (f j) 8) (λ j. f j / 8 * 8) (λ j l. guard_of (f j) (low j l))

others_of : (q : ℕ) (f : ℕ → ℕ) → ((j : ℕ) → j < q → f j < 16) → bit_and (digits q f) (others q) ≡ digits q (λ j. f j % 8)
unfolding others
others_of q f low =
    digits_and q f (λ j. 7) low (λ j l. omega arith) ∙ digits_same q (λ j. bit_and (f j) 7) (λ j. f j % 8) (λ j l. and_mask (f j) 3)

digits_none : (q : ℕ) → digits q (λ j. 0) ≡ 0
unfolding digits
digits_none zero = refl
digits_none (suc q) = omega (arith, digits_none q)

-- a word has no guard
guarded : (q : ℕ) (z : ℕ → ℕ) → bit_or (word q z) (guards q) ≡ word q z + guards q
unfolding word
guarded q z =
    or_disjoint (digits q (λ j. capped (z j))) (guards q)
    (guards_of q (λ j. capped (z j)) (λ j l. omega arith)
    ∙ (digits_same q (λ j. capped (z j) / 8 * 8) (λ j. 0) (λ j l. omega arith) ∙ digits_none q))

-- ---- the test

module _ (q : ℕ) (r z : ℕ → ℕ) where
  -- no digit borrows from the next
  difference : word q z + guards q - word q r ≡ digits q (left q r z)
  unfolding guards word
  difference =
      omega (
        arith,
        digits_sum q (λ j. capped (z j)) (λ j. 8) (λ j. 8 + capped (z j)) (λ j l. omega arith),
        digits_sum q (λ j. capped (r j)) (left q r z) (λ j. 8 + capped (z j)) (λ j l. omega arith),
      )

  guards_left : bit_and (bit_or (word q z) (guards q) - word q r) (guards q) ≡ digits q (λ j. (left q r z) j / 8 * 8)
  guards_left = rw (guarded q z, difference) (guards_of q (left q r z) (λ j l. omega arith))

  -- what lies at or below passes
  pub below_fits : AtOrBelow q r z → T (fits q (word q r) (word q z))
  unfolding fits
  below_fits b =
      let e : digits q (λ j. (left q r z) j / 8 * 8) ≡ guards q = unfold guards in
      digits_same q (λ j. (left q r z) j / 8 * 8) (λ j. 8) (λ j l. omega (arith, b j l)) in
      rw (guards_left, e) (eqb_refl (guards q))

  pub fits_at : T (fits q (word q r) (word q z)) → (j : ℕ) → j < q → capped (r j) ≤ capped (z j)
  unfolding fits guards
  fits_at h j l =
      let e : digits q (λ j. (left q r z) j / 8 * 8) ≡ digits q (λ j. 8) = sym guards_left ∙ eqb→eq _ (guards q) h in
      let at_j : (left q r z) j / 8 * 8 ≡ 8 =
      sym (digit_at q (λ j. (left q r z) j / 8 * 8) (λ j l. omega arith) j l) ∙ (ap (λ x. digit x j) e ∙ digit_at q (λ j. 8) (λ j l. omega arith) j l) in
      omega arith

  -- what passes lies at or below, where no component is cut
  pub fits_below : ((j : ℕ) → j < q → r j ≤ 7) → T (fits q (word q r) (word q z)) → AtOrBelow q r z
  fits_below low h j l = omega (arith, fits_at h j l, low j l)

-- ---- the word of a sum

low_seven : (t : ℕ) → t < 8 → bit_and (t % 8) (t / 8 * 7) ≡ 0
low_seven t l = let z : t / 8 ≡ 0 = omega arith in rw z (and_zero_r (t % 8))

high_seven : (t : ℕ) → 8 ≤ t → t < 16 → bit_and (t % 8) (t / 8 * 7) ≡ t % 8
high_seven t u l = let z : t / 8 ≡ 1 = omega arith in rw z (omega (arith, and_mask (t % 8) 3))

-- one digit: what is left of it, and 7 if it has its guard
one_digit : (x y : ℕ) → (capped x + capped y) % 8 + (capped x + capped y) / 8 * 7
    ≡ capped (x + y) + bit_and ((capped x + capped y) % 8) ((capped x + capped y) / 8 * 7)
one_digit x y =
    let t = capped x + capped y in
    elim (split t 8) [
      | inl u ↦ omega (arith, low_seven t u)
      | inr u ↦ omega (arith, high_seven t u (omega arith))
    ]

pub joined_word : (q : ℕ) (x y : ℕ → ℕ) → joined q (word q x) (word q y) ≡ word q (plus x y)
unfolding joined word
joined_word q x y =
    let t : ℕ → ℕ = λ j. capped (x j) + capped (y j) in
    let low : (j : ℕ) → j < q → t j < 16 = λ j l. omega arith in
    let sum : digits q (λ j. capped (x j)) + digits q (λ j. capped (y j)) ≡ digits q t =
    sym (digits_sum q (λ j. capped (x j)) (λ j. capped (y j)) t (λ j l. refl)) in
    let A = digits q (λ j. t j % 8) in
    let O = digits q (λ j. t j / 8) in
    let B = digits q (λ j. t j / 8 * 7) in
    let over : bit_and (digits q t) (guards q) ≡ O * 8 = guards_of q t low ∙ digits_times q 8 (λ j. t j / 8) in
    let sevens : O * 8 - O * 8 / 8 ≡ B = omega (arith, digits_times q 7 (λ j. t j / 8)) in
    let both = digits_and q (λ j. t j % 8) (λ j. t j / 8 * 7) (λ j l. omega arith) (λ j l. omega arith) in
    let all : A + B ≡ digits q (λ j. capped (x j + y j)) + digits q (λ j. bit_and (t j % 8) (t j / 8 * 7)) =
    sym (digits_sum q (λ j. t j % 8) (λ j. t j / 8 * 7) (λ j. t j % 8 + t j / 8 * 7) (λ j l. refl))
    ∙ digits_sum q (λ j. capped (x j + y j)) (λ j. bit_and (t j % 8) (t j / 8 * 7)) (λ j. t j % 8 + t j / 8 * 7) (λ j l. one_digit (x j) (y j)) in
    rw (sum, others_of q t low, over, sevens) (omega (arith, or_add_and A B, both, all))
