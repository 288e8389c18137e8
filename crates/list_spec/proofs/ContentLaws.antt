-- What the words of a written file are, and how large. Assumes nothing.
use Rattle.std.specs.Prelude.{ℕ, zero, suc, ◌+◌, ◌*◌, ◌-◌, ◌^◌, ◌≤◌, ◌<◌, map, ◌≡◌, ℤ, pos, negsuc, nat_abs, length, get_or}
use Rattle.std.proofs.Math.Logic.{inl, inr}
use Rattle.std.proofs.Math.Path.{refl}
use Rattle.std.proofs.Common.{◌∙◌, arith, length-append, get_or-append-add, get_or-drop, lt-ltb, le-ltb}
use Rattle.std.proofs.lemmas.List.{length-map}
use Rattle.std.proofs.Math.ListN.{get_or-append, get_or-map, get_or-eq_default}
use Rattle.linear.proofs.Cases.{split}
use Rattle.definitions.specs.System.{coef_limit}
use Rattle.list_spec.specs.Words.{word_limit, unsigned, signed, wrapping_sum, negation}
use Rattle.list_spec.specs.Form.{ListFile, stream_words, stream, content_word, block_word}
use Rattle.list_spec.specs.RuleLaws.{ListInRange}
use Rattle.list_spec.proofs.SumLaws.{negation_small}

-- ---- two's complement

pub unsigned_signed : (w : ℕ) → w < word_limit → unsigned (signed w) ≡ w
unsigned_signed w l =
    elim (split w (2 ^ 31)) [ inl m ↦ rw (lt-ltb w (2 ^ 31) m) | inr m ↦ rw (le-ltb w (2 ^ 31) m) (omega arith) ]

pub signed_unsigned : (z : ℤ) → nat_abs z ≤ coef_limit → signed (unsigned z) ≡ z
signed_unsigned (pos n) l = rw (lt-ltb n (2 ^ 31) (omega arith))
signed_unsigned (negsuc n) l =
    let e : word_limit - suc (word_limit - suc n) ≡ n = omega arith in rw (le-ltb (word_limit - suc n) (2 ^ 31) (omega arith), e)

unsigned_small : (z : ℤ) → nat_abs z ≤ coef_limit → unsigned z < word_limit
unsigned_small (pos n) l = omega arith
unsigned_small (negsuc n) l = omega arith

-- ---- the stream: the coefficients, the rows, and zeros after them

module _ (l : ListFile) where
  pub stream_length : length (stream l) ≡ length l.coefs + length l.rows
  stream_length = length-append (map unsigned l.coefs) l.rows ∙ omega (arith, length-map l.coefs unsigned)

  pub stream_coef : (i : ℕ) → i < length l.coefs → get_or (stream l) i 0 ≡ unsigned (get_or l.coefs i (pos 0))
  stream_coef i h =
      get_or-append (map unsigned l.coefs) l.rows 0 i (omega (arith, length-map l.coefs unsigned)) ∙ get_or-map unsigned l.coefs i (pos 0)

  pub stream_row : (i : ℕ) → get_or (stream l) (length l.coefs + i) 0 ≡ get_or l.rows i 0
  stream_row i =
      let e : length l.coefs + i ≡ length (map unsigned l.coefs) + i = omega (arith, length-map l.coefs unsigned) in
      rw e (get_or-append-add (map unsigned l.coefs) l.rows i 0)

  pub stream_filler : (i : ℕ) → length l.coefs + length l.rows ≤ i → get_or (stream l) i 0 ≡ 0
  stream_filler i h = get_or-eq_default (stream l) 0 (omega (arith, stream_length))

  -- word j + 1 of block b + 1
  pub content_stream : (b j : ℕ) → content_word l (suc b) (suc j) ≡ get_or (stream l) (stream_words * b + j) 0
  content_stream b j = get_or-drop (stream_words * b) (stream l) j 0

  -- ---- how large the words of a list in range are

  module _ (r : ListInRange l) where
    stream_small : (i : ℕ) → get_or (stream l) i 0 < word_limit
    stream_small i =
        elim (split i (length l.coefs)) [
          | inl h ↦ rw (stream_coef i h) (unsigned_small (get_or l.coefs i (pos 0)) (r.range i h))
          | inr h ↦ elim (split (i - length l.coefs) (length l.rows)) [
            | inl m ↦
                let e : i ≡ length l.coefs + (i - length l.coefs) = omega arith in
                let s = stream_row (i - length l.coefs) in
                omega (arith, rw (← e) at s, r.rows.components (i - length l.coefs) m)
            | inr m ↦ omega (arith, stream_filler i (omega arith))
          ]
        ]

    header_small : (j : ℕ) → content_word l 0 (suc j) < word_limit
    header_small zero = omega (arith, r.p_few)
    header_small (suc zero) = omega (arith, r.q_few)
    header_small (suc (suc zero)) = omega (arith, r.rows.few)
    header_small (suc (suc (suc zero))) = omega (arith, r.rows.ending)
    header_small (suc (suc (suc (suc j)))) = omega arith

    pub content_small : (b j : ℕ) → b < word_limit → content_word l b j < word_limit
    content_small b zero h = h
    content_small zero (suc j) h = header_small j
    content_small (suc b) (suc j) h = rw (content_stream b j) (stream_small (stream_words * b + j))

-- ---- the words of a block: the content, and the word that makes the sum zero

module _ (l : ListFile) (b : ℕ) where
  pub block_content : (j : ℕ) → j < 127 → block_word l b j ≡ content_word l b j
  unfolding block_word
  block_content j h = rw (lt-ltb j 127 h)

  pub block_last : block_word l b 127 ≡ negation (wrapping_sum 127 (content_word l b))
  unfolding block_word
  block_last = refl

  pub block_small : (j : ℕ) → ListInRange l → b < word_limit → block_word l b j < word_limit
  unfolding block_word
  block_small j r h =
      elim (split j 127) [
        | inl m ↦ rw (lt-ltb j 127 m) (content_small l r b j h)
        | inr m ↦ rw (le-ltb j 127 m) (negation_small (wrapping_sum 127 (content_word l b)))
      ]
