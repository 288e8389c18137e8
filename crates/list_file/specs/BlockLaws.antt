-- A file as it is written, word by word. Assumes nothing.
use Rattle.std.specs.Prelude.{◌≡◌, ℕ, zero, suc, ◌+◌, ◌-◌, ◌*◌, ◌/◌, ◌%◌, ◌<◌, ◌≤◌, List, [], ◌∷◌, ◌++◌, length, take, ◌≢◌, slice_index, slice_index_or}
use Rattle.std.proofs.Math.Path.{refl, sym}
use Rattle.std.proofs.Common.{◌∙◌}
use Rattle.std.proofs.Math.Numerals.{add-one}
use native.Mathlib.Omega.{arith}
use Rattle.std.proofs.Math.Seq.{take-length}
use Rattle.list_spec.specs.Words.{word_limit, word_bytes, encoded, word_at, wrapping_sum}
use Rattle.list_spec.specs.Form.{ListFile, block_bytes, block_words, stream_words, header, stream, content_word, block_word, file_word, file_blocks, written}
use Rattle.list_spec.proofs.WordLaws.{word_take, word_encoded}
use Rattle.list_spec.proofs.SumLaws.{total_same, negation_is}
use Rattle.list_spec.specs.RuleLaws.{ListInRange}
use Rattle.list_spec.proofs.ContentLaws.{stream_length, stream_row, content_stream, block_content, block_last, block_small}
use Rattle.list_spec.proofs.WrittenLaws.{stream_few}

-- the writer's checks found nothing
pub record Writable (l : ListFile) (room : ℕ) : Type 0 where
  pub list : ListInRange l
  pub exact : room ≡ block_bytes * file_blocks l

-- there are few blocks
pub blocks_few : {l : ListFile} → ListInRange l → file_blocks l < 1000
blocks_few {l} r = omega (arith, stream_few l r)

-- word j of block b is content of a file
pub record ContentPlace (l : ListFile) (b j : ℕ) : Type 0 where
  pub list : ListInRange l
  pub block : b < 1000
  pub place : j < 127

-- the first k words stand in the buffer
pub record Begun (l : ListFile) (k : ℕ) (out : List ℕ) : Type 0 where
  pub same : take (4 * k) out ≡ encoded k (file_word l)

-- block b is to be written, after those before it
pub record AtBlock (l : ListFile) (b : ℕ) (out : List ℕ) : Type 0 where
  pub writable : Writable l (length out)
  pub inside : b < file_blocks l
  pub begun : Begun l (block_words * b) out

-- the words after the number of block b are the components from entry `from` of the rows on
pub record OfRows (l : ListFile) (b from : ℕ) : Type 0 where
  pub start : length l.coefs + from + stream_words ≡ stream_words * b
  pub inside : from + stream_words ≤ length l.rows

-- there are few words
pub words_few : {l : ListFile} → ListInRange l → length l.coefs + length l.rows ≤ 65664
words_few {l} r = omega (arith, stream_few l r, stream_length l)

-- ---- the words of the content

module _ (l : ListFile) where
  pub content_number : (b j : ℕ) → j ≡ 0 → b ≡ content_word l b j
  content_number b j e = rw e

  pub content_header : (b j : ℕ) → (j ≢ 0) → b ≡ 0 → slice_index (header l) (j - 1) ≡ content_word l b j
  content_header b zero h e = absurd (h refl)
  content_header b (suc j) h e = let s : suc j - 1 ≡ j = omega arith in rw (e, s)

  pub content_carried : (b j : ℕ) → (j ≢ 0) → (b ≢ 0) → slice_index (stream l) (stream_words * (b - 1) + (j - 1)) ≡ content_word l b j
  content_carried b zero h g = absurd (h refl)
  content_carried zero (suc j) h g = absurd (g refl)
  content_carried (suc b) (suc j) h g =
      let s : suc j - 1 ≡ j = omega arith in let t : suc b - 1 ≡ b = omega arith in rw (s, t) (sym (content_stream l b j))

-- past the four words of the header
pub header_end : (p q count ending k : ℕ) → (k ≢ 0) → (k ≢ 1) → (k ≢ 2) → (k ≢ 3) → 0 ≡ slice_index (p ∷ q ∷ count ∷ ending ∷ []) k
header_end p q count ending zero a b c d = absurd (a refl)
header_end p q count ending (suc zero) a b c d = absurd (b refl)
header_end p q count ending (suc (suc zero)) a b c d = absurd (c refl)
header_end p q count ending (suc (suc (suc zero))) a b c d = absurd (d refl)
header_end p q count ending (suc (suc (suc (suc k)))) a b c d = refl

-- ---- the words written so far

module _ (l : ListFile) where
  pub begun_none : (out : List ℕ) → Begun l 0 out
  unfolding encoded
  begun_none out = record { same = refl }

  pub begun_next : (k w : ℕ) (out after : List ℕ) → Begun l k out → take (4 * k + 4) after ≡ take (4 * k) out ++ word_bytes w
      → w ≡ file_word l k → Begun l (k + 1) after
  unfolding encoded
  begun_next k w out after b e f =
      let s : 4 * (k + 1) ≡ 4 * k + 4 = omega arith in record { same = rw (s, add-one k, e, b.same, f) }

  pub begun_all : (out : List ℕ) → length out ≡ block_bytes * file_blocks l → Begun l (block_words * file_blocks l) out → out ≡ written l
  unfolding written
  begun_all out e b =
      let s : length out ≡ 4 * (block_words * file_blocks l) = omega arith in sym (take-length out) ∙ rw s b.same

  word_place : (b j : ℕ) → j < block_words → file_word l (block_words * b + j) ≡ block_word l b j
  word_place b j h =
      let d : (block_words * b + j) / block_words ≡ b = omega arith in let m : (block_words * b + j) % block_words ≡ j = omega arith in rw (d, m)

  pub content_place : (b j : ℕ) → j < 127 → content_word l b j ≡ file_word l (block_words * b + j)
  content_place b j h = sym (word_place b j (omega arith) ∙ block_content l b j h)

  pub number_place : (b : ℕ) → b ≡ file_word l (block_words * b)
  number_place b =
      let e : block_words * b ≡ block_words * b + 0 = omega arith in rw e (content_place b 0 (omega arith))

  pub component_place : (b from j : ℕ) → OfRows l b from → j < stream_words → slice_index l.rows (from + j) ≡ file_word l (block_words * b + 1 + j)
  component_place zero from j o h = absurd (omega arith)
  component_place (suc b) from j o h =
      let e : length l.coefs + (from + j) ≡ stream_words * b + j = omega arith in
      let g : block_words * suc b + 1 + j ≡ block_words * suc b + suc j = omega arith in
      let s : slice_index_or (stream l) (stream_words * b + j) 0 ≡ slice_index_or l.rows (from + j) 0 = rw e at (stream_row l (from + j)) in
      rw g (sym s ∙ sym (content_stream l b j) ∙ content_place (suc b) (suc j) (omega arith))

  module _ (r : ListInRange l) (b : ℕ) (inside : b < file_blocks l) where
    -- a word that was written is read back
    word_back : (out : List ℕ) → Begun l (block_words * b + 127) out → (j : ℕ) → j < 127 → word_at out (block_words * b + j) ≡ content_word l b j
    word_back out g j h =
        let k = block_words * b + j in
        let n = block_words * b + 127 in
        let small : file_word l k < word_limit = rw (word_place b j (omega arith)) (block_small l b j r (omega (arith, blocks_few r))) in
        sym (word_take out n k (omega arith)) ∙ rw g.same (word_encoded n (file_word l) k (omega arith) small ∙ sym (content_place b j h))

    -- the last word is the negation of the sum of the others
    pub last_place : (out : List ℕ) (s w : ℕ) → Begun l (block_words * b + 127) out → s ≡ wrapping_sum 127 (λ j. word_at out (block_words * b + j))
        → w < word_limit → (w + s) % word_limit ≡ 0 → w ≡ file_word l (block_words * b + 127)
    last_place out s w g e small z =
        let t = total_same 127 (λ j. word_at out (block_words * b + j)) (content_word l b) (word_back out g) in
        let u : s ≡ wrapping_sum 127 (content_word l b) = e ∙ rw t in
        let v : s < word_limit = omega arith in
        negation_is s w v small z ∙ rw (u, word_place b 127 (omega arith), block_last l b)
