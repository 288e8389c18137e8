-- Document 02, Job 5: how a list is written to a file. A file is the list of its bytes. Assumes nothing.
use Rattle.std.specs.Prelude.{ℕ, zero, suc, ◌+◌, ◌*◌, ◌/◌, ◌%◌, cond, List, [], ◌∷◌, ◌++◌, map, ltb, ℤ, length, get_or, drop}
use Rattle.list_spec.specs.Words.{encoded, unsigned, wrapping_sum, negation}

-- What a file holds: the system that was solved, the rows of the list one after the other, and how the run ended: "0 complete, 1 paused".
pub record ListFile : Type 0 where
  pub p : ℕ
  pub q : ℕ
  pub coefs : List ℤ
  pub rows : List ℕ
  pub ending : ℕ

-- ---- blocks

-- "512-byte blocks of 128 little-endian words of 32 bits"
abbrev pub block_bytes : ℕ
block_bytes = 512

abbrev pub block_words : ℕ
block_words = 128

-- "Each later block carries 126 words of one stream"
abbrev pub stream_words : ℕ
stream_words = 126

-- the blocks after block 0, for n words of stream
abbrev pub later_blocks : ℕ → ℕ
later_blocks n = (n + 125) / stream_words

abbrev pub block_count : ℕ → ℕ
block_count n = later_blocks n + 1

-- ---- what they hold

-- "the row count"
abbrev pub row_count : ListFile → ℕ
row_count l = length l.rows / l.q

-- "Block 0 has p, q, the row count .. and the ending .. in words 1 to 4"
abbrev pub header : ListFile → List ℕ
header l = l.p ∷ l.q ∷ row_count l ∷ l.ending ∷ []

-- "the coefficients in two's complement, then the rows"
abbrev pub stream : ListFile → List ℕ
stream l = map unsigned l.coefs ++ l.rows

-- what block b carries from its word 1 on
abbrev pub carried : ListFile → ℕ → List ℕ
carried l zero = header l
carried l (suc b) = drop (stream_words * b) (stream l)

-- "Word 0 is the block number from 0."; "zeros after", "filler is zero"
abbrev pub content_word : ListFile → ℕ → ℕ → ℕ
content_word l b zero = b
content_word l b (suc j) = get_or (carried l b) j 0

-- "The words of a block add to zero modulo 2^32; the last word is chosen for that."
unfoldable pub block_word : ListFile → ℕ → ℕ → ℕ
block_word l b j = let last = negation (wrapping_sum 127 (content_word l b)) in cond (ltb j 127) (content_word l b j) last

-- word k of the file
abbrev pub file_word : ListFile → ℕ → ℕ
file_word l k = block_word l (k / block_words) (k % block_words)

abbrev pub file_blocks : ListFile → ℕ
file_blocks l = block_count (length (stream l))

unfoldable pub written : ListFile → List ℕ
written l = encoded (block_words * file_blocks l) (file_word l)
