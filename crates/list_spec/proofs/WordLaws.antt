-- Words and their bytes: what was encoded is read back, and every list of bytes is the encoding of its words. Assumes nothing.
use Rattle.std.specs.Prelude.{ℕ, zero, suc, ◌+◌, ◌*◌, ◌/◌, ◌%◌, ◌≤◌, ◌<◌, List, [], ◌∷◌, ◌++◌, ◌≡◌, refl, length, get_or, take}
use Rattle.std.proofs.Common.{append_assoc, inl, inr, sym, ◌∙◌, arith, length-append, take-suc, get_or-take, get_or-append-add}
use Rattle.std.proofs.Math.ListN.{get_or-append}
use Rattle.std.proofs.Math.Seq.{take-length}
use Rattle.linear.specs.Cases.{below_suc}
use Rattle.list_spec.specs.Words.{word_limit, word_bytes, encoded, word_at}

-- every number of the list is a byte
abbrev pub Bytes : List ℕ → Type 0
Bytes file = (i : ℕ) → get_or file i 0 < 256

-- ---- one word

two_bytes : (w : ℕ) → w / 65536 ≡ w / 256 / 256
two_bytes w = omega arith

three_bytes : (w : ℕ) → w / 16777216 ≡ w / 256 / 256 / 256
three_bytes w = omega arith

-- a number by its last byte
low_byte : (a r : ℕ) → a < 256 → ((a + 256 * r) % 256 ≡ a) × ((a + 256 * r) / 256 ≡ r)
low_byte a r l = (omega arith, omega arith)

pub bytes_word : (w : ℕ) → w < word_limit → w % 256 + 256 * (w / 256 % 256) + 65536 * (w / 65536 % 256) + 16777216 * (w / 16777216 % 256) ≡ w
bytes_word w l =
    rw (two_bytes w, three_bytes w)
    (let a = w / 256 in let b = a / 256 in let c = b / 256 in let e : c % 256 ≡ c = omega arith in rw e (omega arith))

abbrev four_bytes : ℕ → ℕ → ℕ → ℕ → ℕ
four_bytes a b c d = a + 256 * b + 65536 * c + 16777216 * d

word_bytes_lem : (a b c d : ℕ) → a < 256 → b < 256 → c < 256 → d < 256 → word_bytes (four_bytes a b c d) ≡ a ∷ b ∷ c ∷ d ∷ []
word_bytes_lem a b c d ha hb hc hd =
    let f : four_bytes a b c d ≡ a + 256 * (b + 256 * (c + 256 * d)) = omega arith in
    let (a0, a1) = low_byte a (b + 256 * (c + 256 * d)) ha in
    let (b0, b1) = low_byte b (c + 256 * d) hb in
    let (c0, c1) = low_byte c d hc in
    let d0 : d % 256 ≡ d = omega arith in
    rw (two_bytes (four_bytes a b c d), three_bytes (four_bytes a b c d), f, a0, a1, b0, b1, c0, c1, d0)

pub word_small : (file : List ℕ) (k : ℕ) → Bytes file → word_at file k < word_limit
unfolding word_at
word_small file k b = omega (arith, b (4 * k), b (4 * k + 1), b (4 * k + 2), b (4 * k + 3))

-- ---- what was encoded

pub encoded_length : (n : ℕ) (f : ℕ → ℕ) → length (encoded n f) ≡ 4 * n
unfolding encoded
encoded_length zero f = refl
encoded_length (suc n) f = length-append (encoded n f) (word_bytes (f n)) ∙ omega (arith, encoded_length n f)

pub encoded_same : (n : ℕ) (f g : ℕ → ℕ) → ((k : ℕ) → k < n → f k ≡ g k) → encoded n f ≡ encoded n g
unfolding encoded
encoded_same zero f g h = refl
encoded_same (suc n) f g h = rw (encoded_same n f g (λ k l. h k (omega arith)), h n (omega arith))

-- the words of two lists that begin alike
pub word_take : (file : List ℕ) (n k : ℕ) → k < n → word_at (take (4 * n) file) k ≡ word_at file k
unfolding word_at
word_take file n k l =
    rw (
      get_or-take (4 * n) file (4 * k) 0 (omega arith),
      get_or-take (4 * n) file (4 * k + 1) 0 (omega arith),
      get_or-take (4 * n) file (4 * k + 2) 0 (omega arith),
      get_or-take (4 * n) file (4 * k + 3) 0 (omega arith),
    )

word_append_left : (xs ys : List ℕ) (k : ℕ) → 4 * k + 3 < length xs → word_at (xs ++ ys) k ≡ word_at xs k
unfolding word_at
word_append_left xs ys k l =
    rw (
      get_or-append xs ys 0 (4 * k) (omega arith),
      get_or-append xs ys 0 (4 * k + 1) (omega arith),
      get_or-append xs ys 0 (4 * k + 2) (omega arith),
      get_or-append xs ys 0 (4 * k + 3) (omega arith),
    )

word_append_right : (xs : List ℕ) (w n : ℕ) → length xs ≡ 4 * n → w < word_limit → word_at (xs ++ word_bytes w) n ≡ w
unfolding word_at
word_append_right xs w n e l =
    let e0 : 4 * n ≡ length xs + 0 = omega arith in
    let e1 : 4 * n + 1 ≡ length xs + 1 = omega arith in
    let e2 : 4 * n + 2 ≡ length xs + 2 = omega arith in
    let e3 : 4 * n + 3 ≡ length xs + 3 = omega arith in
    let at : (i : ℕ) → get_or (xs ++ word_bytes w) (length xs + i) 0 ≡ get_or (word_bytes w) i 0 = λ i. get_or-append-add xs (word_bytes w) i 0 in
    rw (e1, e2, e3, e0, at 0, at 1, at 2, at 3) (bytes_word w l)

pub word_encoded : (n : ℕ) (f : ℕ → ℕ) (k : ℕ) → k < n → f k < word_limit → word_at (encoded n f) k ≡ f k
unfolding encoded
word_encoded zero f k l h = absurd (omega arith)
word_encoded (suc n) f k l h =
    elim (below_suc l) [
      | inl m ↦ word_append_left (encoded n f) (word_bytes (f n)) k (omega (arith, encoded_length n f)) ∙ word_encoded n f k m h
      | inr e ↦ rw e (word_append_right (encoded n f) (f n) n (encoded_length n f) (rw e at h))
    ]

-- ---- what was read

-- the next four bytes
pub take_word : (file : List ℕ) (n : ℕ) → 4 * n + 4 ≤ length file
    → take (4 * n + 4) file
    ≡ take (4 * n) file ++ (get_or file (4 * n) 0 ∷ get_or file (4 * n + 1) 0 ∷ get_or file (4 * n + 2) 0 ∷ get_or file (4 * n + 3) 0 ∷ [])
take_word file n l =
    let s1 : 4 * n + 1 ≡ suc (4 * n) = omega arith in
    let s2 : 4 * n + 2 ≡ suc (suc (4 * n)) = omega arith in
    let s3 : 4 * n + 3 ≡ suc (suc (suc (4 * n))) = omega arith in
    let s4 : 4 * n + 4 ≡ suc (suc (suc (suc (4 * n)))) = omega arith in
    rw (
      s4,
      s3,
      s2,
      s1,
      take-suc file (suc (suc (suc (4 * n)))) 0 (omega arith),
      take-suc file (suc (suc (4 * n))) 0 (omega arith),
      take-suc file (suc (4 * n)) 0 (omega arith),
      take-suc file (4 * n) 0 (omega arith),
    )
    (simp append_assoc)

pub take_encoded : (file : List ℕ) (n : ℕ) → Bytes file → 4 * n ≤ length file → take (4 * n) file ≡ encoded n (word_at file)
unfolding encoded word_at
take_encoded file zero b l = refl
take_encoded file (suc n) b l =
    let s : 4 * suc n ≡ 4 * n + 4 = omega arith in
    rw (
      s,
      take_word file n (omega arith),
      take_encoded file n b (omega arith),
      word_bytes_lem (get_or file (4 * n) 0) (get_or file (4 * n + 1) 0) (get_or file (4 * n + 2) 0) (get_or file (4 * n + 3) 0) (b (4 * n)) (b (4 * n + 1))
          (b (4 * n + 2)) (b (4 * n + 3)),
    )

pub file_encoded : (file : List ℕ) (n : ℕ) → Bytes file → length file ≡ 4 * n → file ≡ encoded n (word_at file)
file_encoded file n b e = sym (take-length file) ∙ rw e (take_encoded file n b (omega arith))
