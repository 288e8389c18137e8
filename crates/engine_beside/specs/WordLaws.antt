-- The words of tuples of up to 32 places: that they are low, that the word of a sum comes from the words, that what lies at or below passes the test; and one
-- turn of the loops that make one. Assumes nothing.
use Rattle.std.specs.Prelude.{◌≡◌, Bool, true, false, cond, ℕ, zero, suc, ◌+◌, ◌*◌, ◌-◌, ◌≤◌, ◌<◌, min, T, ltb}
use Rattle.std.proofs.Math.Path.{refl}
use Rattle.std.proofs.Common.{◌∙◌, add-one, le-ltb, lt-ltb}
use Rattle.std.proofs.Math.Logic.{inl, inr}
use native.Mathlib.Omega.{arith}
use Rattle.linear.proofs.Cases.{split}
use Rattle.linear.proofs.TestLaws.{T-same}
use Rattle.linear.specs.Tuples.{AtOrBelow, Same}
use Rattle.definitions.specs.System.{is_at_or_below}
use Rattle.laws.proofs.SystemLaws.{below_from}
use Rattle.engine_spec.specs.Beside.{folded, word_of}
use Rattle.engine_spec.specs.Signs.{plus}
use Rattle.engine_spec.proofs.Words as words_laws
use Rattle.engine_spec.specs.Words.{capped, digits, fits, guards, joined, others, word}
use Rattle.engine_spec.proofs.Words.{digits_next, digits_same, joined_word}

-- 0x7777777777777777: the largest word, all bits but the guards
abbrev pub word_limit : ℕ
word_limit = 8608480567731124087

pub guards_are : guards 16 ≡ 9838263505978427528
unfolding guards digits
guards_are = refl

pub others_are : others 16 ≡ word_limit
unfolding others digits
others_are = refl

-- ---- words are low

digits_low : (n : ℕ) (f g : ℕ → ℕ) → ((j : ℕ) → j < n → f j ≤ g j) → digits n f ≤ digits n g
unfolding digits
digits_low zero f g h = omega arith
digits_low (suc n) f g h = omega (arith, h 0 (omega arith), digits_low n (λ j. f (suc j)) (λ j. g (suc j)) (λ j l. h (suc j) (omega arith)))

pub word_low : (q : ℕ) (x : ℕ → ℕ) → word_of q x ≤ word_limit
unfolding word others
word_low q x = omega (arith, digits_low 16 (λ j. capped (folded q x j)) (λ j. 7) (λ j l. omega arith), others_are)

-- ---- tuples folded

cond_sum : (b : Bool) (x y : ℕ) → cond b (x + y) 0 ≡ cond b x 0 + cond b y 0
cond_sum true x y = refl
cond_sum false x y = refl

-- a place below q, where x is at most y
cond_le : (j q x y : ℕ) → (j < q → x ≤ y) → cond (ltb j q) x 0 ≤ cond (ltb j q) y 0
cond_le j q x y h = elim (split j q) [ inl l ↦ rw (lt-ltb j q l) (h l) | inr l ↦ rw (le-ltb j q l) (omega arith) ]

cond_same : (j q x y : ℕ) → (j < q → x ≡ y) → cond (ltb j q) x 0 ≡ cond (ltb j q) y 0
cond_same j q x y h = elim (split j q) [ inl l ↦ rw (lt-ltb j q l) (h l) | inr l ↦ rw (le-ltb j q l) refl ]

folded_sum : (q : ℕ) (x y : ℕ → ℕ) (j : ℕ) → folded q x j + folded q y j ≡ folded q (plus x y) j
folded_sum q x y j = omega (arith, cond_sum (ltb j q) (x j) (y j), cond_sum (ltb (16 + j) q) (x (16 + j)) (y (16 + j)))

folded_below : (q : ℕ) (x y : ℕ → ℕ) → AtOrBelow q x y → (j : ℕ) → folded q x j ≤ folded q y j
folded_below q x y b j = omega (arith, cond_le j q (x j) (y j) (b j), cond_le (16 + j) q (x (16 + j)) (y (16 + j)) (b (16 + j)))

-- a word reads a tuple below q only
pub word_same : (q : ℕ) {x y : ℕ → ℕ} → Same q x y → word_of q x ≡ word_of q y
unfolding word
word_same q {x} {y} e =
    digits_same 16 (λ j. capped (folded q x j)) (λ j. capped (folded q y j))
    (λ j l.
    let s : folded q x j ≡ folded q y j = omega (arith, cond_same j q (x j) (y j) (e j), cond_same (16 + j) q (x (16 + j)) (y (16 + j)) (e (16 + j))) in
    rw s refl)

-- ---- the word of a sum, and the test

pub word_sum : (q : ℕ) (x y : ℕ → ℕ) → joined 16 (word_of q x) (word_of q y) ≡ word_of q (plus x y)
unfolding word
word_sum q x y =
    joined_word 16 (folded q x) (folded q y)
    ∙ digits_same 16 (λ j. capped (folded q x j + folded q y j)) (λ j. capped (folded q (plus x y) j)) (λ j l. rw (folded_sum q x y j) refl)

module _ (q : ℕ) (r z : ℕ → ℕ) where
  pub below_fits : AtOrBelow q r z → T (fits 16 (word_of q r) (word_of q z))
  below_fits b = words_laws.below_fits 16 (folded q r) (folded q z) (λ j l. folded_below q r z b j)

  pub not_fits : fits 16 (word_of q r) (word_of q z) ≡ false → is_at_or_below q r z ≡ false
  not_fits e = T-same (is_at_or_below q r z) false (λ h. rw e at (below_fits (below_from q r z h))) (λ h. absurd h)

-- ---- the fields of a word

-- field j
abbrev pub field_at : ℕ → (ℕ → ℕ) → ℕ → ℕ
field_at q x j = capped (folded q x j)

digits_more : (n m : ℕ) (f : ℕ → ℕ) → n ≤ m → ((j : ℕ) → n ≤ j → f j ≡ 0) → digits m f ≡ digits n f
digits_more n zero f l none = let e : n ≡ 0 = omega arith in rw e refl
digits_more n (suc m) f l none =
    elim (split n (suc m)) [
      | inl k ↦ rw (← add-one m) (digits_next m f ∙ rw (none m (omega arith)) (omega (arith, digits_more n m f (omega arith) none)))
      | inr k ↦ let e : n ≡ suc m = omega arith in rw e refl
    ]

field_none : (q : ℕ) (x : ℕ → ℕ) (j : ℕ) → q ≤ j → field_at q x j ≡ 0
field_none q x j l = rw (le-ltb j q l, le-ltb (16 + j) q (omega arith)) refl

-- a field of one component
pub plain_field : (q : ℕ) (x : ℕ → ℕ) (j : ℕ) → q ≤ 16 → j < q → x j ≡ folded q x j
plain_field q x j few l = rw (lt-ltb j q l, le-ltb (16 + j) q (omega arith)) (omega arith)

module _ (q : ℕ) (x : ℕ → ℕ) where
  pub all_fields : (n : ℕ) → n ≡ min q 16 → word_of q x ≡ digits n (field_at q x)
  unfolding word
  all_fields n e =
      elim (split q 16) [
        | inl l ↦ let s : n ≡ q = omega arith in rw s (digits_more q 16 (field_at q x) (omega arith) (field_none q x))
        | inr l ↦ let s : n ≡ 16 = omega arith in rw s refl
      ]

-- ---- the loop that makes a word, from its last field to its first

-- fields j to n - 1 are made
abbrev pub fields_from : (n : ℕ) (x : ℕ → ℕ) (j : ℕ) → ℕ
fields_from n x j = digits (n - j) (λ i. capped (x (j + i)))

fields_step : (n j : ℕ) (x : ℕ → ℕ) {w y f : ℕ} → j < n → w ≡ fields_from n x (suc j) → f ≡ capped y → y ≡ x j → 16 * w + f ≡ fields_from n x j
unfolding digits
fields_step n j x l m e g =
    let s : n - j ≡ suc (n - suc j) = omega arith in
    let z : j + 0 ≡ j = omega arith in
    rw (s, z, m, e, g) (omega (
      arith,
      digits_same (n - suc j) (λ i. capped (x (suc j + i))) (λ i. capped (x (j + suc i)))
          (λ i h. let t : suc j + i ≡ j + suc i = omega arith in rw t refl),
    ))

-- one field more: y is its component, or the sum of its two, and f that as far as 7
pub fields_next : (n j : ℕ) (x : ℕ → ℕ) {w y f : ℕ} → 0 < j → j ≤ n → w ≡ fields_from n x j → f ≡ capped y → y ≡ x (j - 1)
    → 16 * w + f ≡ fields_from n x (j - 1)
fields_next n zero x some l m e g = absurd (omega arith)
fields_next n (suc j) x some l m e g =
    let s : suc j - 1 ≡ j = omega arith in
    rw s (fields_step n j x (omega arith) m e (rw s at g))

pub fields_all : (n : ℕ) (x : ℕ → ℕ) {w : ℕ} → w ≡ fields_from n x 0 → w ≡ word n x
unfolding word
fields_all n x m =
    let s : n - 0 ≡ n = omega arith in
    rw s at m ∙ digits_same n (λ i. capped (x (0 + i))) (λ i. capped (x i)) (λ i h. let t : 0 + i ≡ i = omega arith in rw t refl)

-- n fields, none of them above 7
abbrev pub sevens : ℕ → ℕ
sevens n = digits n (λ j. 7)

sevens_more : (k m : ℕ) → k ≤ m → sevens k ≤ sevens m
sevens_more k zero l = let e : k ≡ 0 = omega arith in rw e (omega arith)
sevens_more k (suc m) l =
    elim (split k (suc m)) [
      | inl h ↦ rw (← add-one m) (omega (arith, sevens_more k m (omega arith), digits_next m (λ j. 7)))
      | inr h ↦ let e : k ≡ suc m = omega arith in rw e (omega arith)
    ]

-- one field more, and it fits
pub sevens_next : (n j w f : ℕ) → 0 < j → j ≤ n → n ≤ 16 → w ≤ sevens (n - j) → f ≤ 7 → (16 * w + f ≤ sevens (n - (j - 1))) × (16 * w + f ≤ word_limit)
unfolding digits others
sevens_next n j w f some l few h g =
    let s : n - (j - 1) ≡ suc (n - j) = omega arith in
    let most : 16 * w + f ≤ sevens (n - (j - 1)) = rw s (omega arith) in
    (most, omega (arith, most, sevens_more (n - (j - 1)) 16 (omega arith), others_are))
