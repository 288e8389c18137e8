-- A file in order is the written form of the list that is read from it, and that is in range. Assumes nothing.
use Prim.Native.Nat.{ℕ, zero, suc, ◌+◌, ◌*◌, ◌-◌, ◌/◌, ◌%◌, ◌≤◌, ◌<◌}
use Rattle.std.specs.Prelude.{List, ◌≡◌, pos, length, get_or}
use Rattle.std.proofs.Common.{inl, inr, ap, ◌∙◌, mul-div_cancel}
use Rattle.std.proofs.Math.Path.{refl, sym}
use Rattle.std.proofs.Math.Nat.{mul-mod_left}
use native.Mathlib.Omega.{arith}
use Rattle.linear.specs.Cases.{below_suc}
use Rattle.linear.proofs.Cases.{split}
use Rattle.list_spec.specs.Words.{word_at, unsigned, signed, total, wrapping_sum}
use Rattle.list_spec.specs.Form.{block_words, stream_words, later_blocks, block_count, row_count, stream, content_word, block_word, file_word, file_blocks}
use Rattle.list_spec.specs.Form.{written}
use Rattle.list_spec.specs.Reading.{unknowns_of, rows_of, coef_words, row_words, in_block, stream_at, list_in}
use Rattle.list_spec.proofs.WordLaws.{Bytes, word_small, file_encoded, encoded_same}
use Rattle.list_spec.proofs.SumLaws.{total_same, last_word}
use Rattle.list_spec.proofs.ListLaws.{listed_length, listed_at}
use Rattle.list_spec.specs.Ranges.{StreamWordInRange}
use Rattle.list_spec.specs.RuleLaws.{ListInRange, FileInOrder}
use Rattle.list_spec.proofs.ContentLaws.{unsigned_signed, stream_length, stream_coef, stream_row, stream_filler, content_stream, block_content, block_last}

-- ---- what is read

module _ (file : List ℕ) where
  pub coefs_count : length (list_in file).coefs ≡ coef_words file
  unfolding list_in
  coefs_count = listed_length (coef_words file) (λ i. signed (stream_at file i))

  pub rows_count : length (list_in file).rows ≡ row_words file
  unfolding list_in
  rows_count = listed_length (row_words file) (λ i. stream_at file (coef_words file + i))

  pub coef_read : (i : ℕ) → i < coef_words file → get_or (list_in file).coefs i (pos 0) ≡ signed (stream_at file i)
  unfolding list_in
  coef_read i l = listed_at (pos 0) (coef_words file) (λ i. signed (stream_at file i)) i l

  pub row_read : (i : ℕ) → i < row_words file → get_or (list_in file).rows i 0 ≡ stream_at file (coef_words file + i)
  unfolding list_in
  row_read i l = listed_at 0 (row_words file) (λ i. stream_at file (coef_words file + i)) i l

  pub row_count_lem : 1 ≤ unknowns_of file → row_count (list_in file) ≡ rows_of file
  unfolding list_in
  row_count_lem l = rw (rows_count) (mul-div_cancel (rows_of file) l)

  stream_count : length (stream (list_in file)) ≡ coef_words file + row_words file
  stream_count = stream_length (list_in file) ∙ omega (arith, coefs_count, rows_count)

  pub blocks_count : file_blocks (list_in file) ≡ block_count (coef_words file + row_words file)
  blocks_count = rw stream_count

-- word i of the stream stands in block i / 126 + 1
stream_place : (file : List ℕ) (b j : ℕ) → j < stream_words → stream_at file (stream_words * b + j) ≡ in_block file (b + 1) (j + 1)
stream_place file b j l =
    let d : (stream_words * b + j) / stream_words ≡ b = omega arith in let m : (stream_words * b + j) % stream_words ≡ j = omega arith in rw (d, m)

module _ (file : List ℕ) (bytes : Bytes file) (o : FileInOrder file) where
  abbrev coef_count : ℕ
  coef_count = coef_words file

  abbrev row_numbers : ℕ
  row_numbers = row_words file

  -- word i of the stream is in range
  stream_range : (i : ℕ) → i / stream_words < later_blocks (coef_count + row_numbers) → StreamWordInRange coef_count row_numbers i (stream_at file i)
  stream_range i l =
      let e : stream_words * (i / stream_words) + i % stream_words ≡ i = omega arith in
      rw e at ((o.blocks (i / stream_words) l).range (i % stream_words) (omega arith))

  within : (i : ℕ) → i < coef_count + row_numbers → i / stream_words < later_blocks (coef_count + row_numbers)
  within i l = omega arith

  pub read_in_range : ListInRange (list_in file)
  unfolding list_in
  read_in_range =
      let h = o.header.range in
      record {
        p_some = h.p_some;
        p_few = h.p_few;
        q_some = h.q_some;
        q_few = h.q_few;
        count = coefs_count file;
        range = λ i l.
            let m : i < coef_count = omega (arith, coefs_count file) in
            rw (coef_read file i m) ((stream_range i (within i (omega arith))).coefficient m);
        rows = record {
          whole = rw (rows_count file) (mul-mod_left (rows_of file) (unknowns_of file));
          few = rw (row_count_lem file h.q_some) h.rows;
          ending = h.ending;
          components = λ i l.
              let m : i < row_numbers = omega (arith, rows_count file) in
              rw (row_read file i m) ((stream_range (coef_count + i) (within (coef_count + i) (omega arith))).component (omega arith) (omega arith));
        };
      }

  -- ---- the words of the file are those that the writer makes

  header_word : (j : ℕ) → j < 126 → word_at file (suc j) ≡ content_word (list_in file) 0 (suc j)
  unfolding list_in
  header_word zero l = refl
  header_word (suc zero) l = refl
  header_word (suc (suc zero)) l = sym (row_count_lem file o.header.range.q_some)
  header_word (suc (suc (suc zero))) l = refl
  header_word (suc (suc (suc (suc j)))) l =
      let e : suc (suc (suc (suc (suc j)))) ≡ 5 + j = omega arith in rw e (o.header.range.zeros j (omega arith))

  stream_word : (i : ℕ) → i / stream_words < later_blocks (coef_count + row_numbers) → stream_at file i ≡ get_or (stream (list_in file)) i 0
  stream_word i l =
      elim (split i coef_count) [
        | inl m ↦
            sym
            (stream_coef (list_in file) i (omega (arith, coefs_count file))
            ∙ ap unsigned (coef_read file i m)
            ∙ unsigned_signed (stream_at file i) (word_small file _ bytes))
        | inr m ↦ elim (split i (coef_count + row_numbers)) [
          | inl n ↦
              let e : length (list_in file).coefs + (i - coef_count) ≡ i = omega (arith, coefs_count file) in
              let f : coef_count + (i - coef_count) ≡ i = omega arith in
              sym ((rw e at (stream_row (list_in file) (i - coef_count))) ∙ (rw f at (row_read file (i - coef_count) (omega arith))))
          | inr n ↦ (stream_range i l).filler n ∙ sym (stream_filler (list_in file) i (omega (arith, coefs_count file, rows_count file)))
        ]
      ]

  block_order_number : (b : ℕ) → b ≤ later_blocks (coef_count + row_numbers) → in_block file b 0 ≡ b
  block_order_number zero l = o.header.number
  block_order_number (suc b) l = let e : suc b ≡ b + 1 = omega arith in rw e (o.blocks b (omega arith)).number

  block_order_sum : (b : ℕ) → b ≤ later_blocks (coef_count + row_numbers) → wrapping_sum block_words (in_block file b) ≡ 0
  block_order_sum zero l = o.header.sum
  block_order_sum (suc b) l = let e : suc b ≡ b + 1 = omega arith in rw e (o.blocks b (omega arith)).sum

  content_word_lem : (b j : ℕ) → b ≤ later_blocks (coef_count + row_numbers) → j < 127 → in_block file b j ≡ content_word (list_in file) b j
  content_word_lem b zero l m = block_order_number b l
  content_word_lem zero (suc j) l m = let e : block_words * 0 + suc j ≡ suc j = omega arith in rw e (header_word j (omega arith))
  content_word_lem (suc b) (suc j) l m =
      let e : suc b ≡ b + 1 = omega arith in
      let f : suc j ≡ j + 1 = omega arith in
      let d : (stream_words * b + j) / stream_words ≡ b = omega arith in
      rw (content_stream (list_in file) b j, ← stream_word (stream_words * b + j) (rw d (omega arith)), stream_place file b j (omega arith), e, f)

  last_is : (b : ℕ) → b ≤ later_blocks (coef_count + row_numbers) → in_block file b 127 ≡ block_word (list_in file) b 127
  unfolding total
  last_is b l =
      let s = total_same 127 (in_block file b) (content_word (list_in file) b) (λ j m. content_word_lem b j l m) in
      rw (block_last (list_in file) b, ← s)
      (last_word (total 127 (in_block file b)) (in_block file b 127) (word_small file _ bytes) (block_order_sum b l))

  block_word_lem : (b j : ℕ) → b ≤ later_blocks (coef_count + row_numbers) → j < 128 → in_block file b j ≡ block_word (list_in file) b j
  block_word_lem b j l m =
      elim (below_suc m) [
        | inl h ↦ content_word_lem b j l h ∙ sym (block_content (list_in file) b j h)
        | inr e ↦ rw e (last_is b l)
      ]

  file_word_lem : (k : ℕ) → k < block_words * block_count (coef_count + row_numbers) → word_at file k ≡ file_word (list_in file) k
  file_word_lem k l =
      let e : block_words * (k / block_words) + k % block_words ≡ k = omega arith in
      rw e at (block_word_lem (k / block_words) (k % block_words) (omega arith) (omega arith))

  pub file_written : file ≡ written (list_in file)
  unfolding written
  file_written =
      let n = block_words * block_count (coef_count + row_numbers) in
      rw (blocks_count file) (file_encoded file n bytes (omega (arith, o.exact)) ∙ encoded_same n (word_at file) (file_word (list_in file)) file_word_lem)
