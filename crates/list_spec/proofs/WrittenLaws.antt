-- The written form of a list in range is a file in order, and that list is read from it. Assumes nothing.
use Rattle.std.specs.Prelude.{ℕ, suc, ◌+◌, ◌*◌, ◌-◌, ◌/◌, ◌%◌, ◌≤◌, ◌<◌, ◌≡◌, pos, length, get_or}
use Rattle.std.proofs.Math.Path.{refl}
use Rattle.std.proofs.Common.{sym, ap, ◌∙◌, div-add-mod', mul-le-mul}
use native.Mathlib.Omega.{arith}
use Rattle.list_spec.specs.Words.{word_limit, signed, total, wrapping_sum}
use Rattle.list_spec.specs.Form.{ListFile, block_bytes, block_words, stream_words, later_blocks, row_count, stream, content_word, block_word, file_word}
use Rattle.list_spec.specs.Form.{file_blocks, written}
use Rattle.list_spec.specs.Reading.{equations_of, unknowns_of, rows_of, ending_of, coef_words, row_words, in_block, stream_at, listed, list_in}
use Rattle.list_spec.proofs.WordLaws.{encoded_length, word_encoded}
use Rattle.list_spec.proofs.SumLaws.{total_same, sum_zero}
use Rattle.list_spec.proofs.ListLaws.{listed_all}
use Rattle.list_spec.specs.Ranges.{HeaderInRange, StreamWordInRange, BlockInRange}
use Rattle.list_spec.specs.RuleLaws.{ListInRange, FileInOrder}
use Rattle.list_spec.proofs.ContentLaws.{signed_unsigned, stream_length, stream_coef, stream_row, stream_filler, content_stream, block_content, block_last}
use Rattle.list_spec.proofs.ContentLaws.{block_small}

-- the rows are whole: as many numbers as rows times unknowns
pub rows_whole : (l : ListFile) → ListInRange l → row_count l * l.q ≡ length l.rows
rows_whole l r = omega (arith, div-add-mod' (length l.rows) l.q, r.rows.whole)

-- the words of a file of these counts
pub stream_few : (l : ListFile) → ListInRange l → length (stream l) ≤ 65664
stream_few l r =
    omega (
      arith,
      stream_length l,
      r.count,
      rows_whole l r,
      mul-le-mul r.p_few r.q_few,
      mul-le-mul r.rows.few r.q_few,
    )

module _ (l : ListFile) (r : ListInRange l) where
  abbrev later : ℕ
  later = later_blocks (length (stream l))

  pub written_length : length (written l) ≡ block_bytes * file_blocks l
  unfolding written
  written_length = encoded_length (block_words * file_blocks l) (file_word l) ∙ omega arith

  -- word j of block b is the word written there
  word_written : (b j : ℕ) → b ≤ later → j < block_words → in_block (written l) b j ≡ block_word l b j
  unfolding written
  word_written b j m n =
      let k = block_words * b + j in
      let d : k / block_words ≡ b = omega arith in
      let e : k % block_words ≡ j = omega arith in
      let s : file_word l k < word_limit = rw (d, e) (block_small l b j r (omega (arith, stream_few l r))) in
      rw (d, e) at (word_encoded (block_words * file_blocks l) (file_word l) k (omega arith) s)

  content_written : (b j : ℕ) → b ≤ later → j < 127 → in_block (written l) b j ≡ content_word l b j
  content_written b j m n = word_written b j m (omega arith) ∙ block_content l b j n

  sum_written : (b : ℕ) → b ≤ later → wrapping_sum block_words (in_block (written l) b) ≡ 0
  unfolding total
  sum_written b m =
      rw (total_same 127 (in_block (written l) b) (content_word l b) (λ j n. content_written b j m n), word_written b 127 m (omega arith), block_last l b)
      (sum_zero (total 127 (content_word l b)))

  -- ---- what is read from it

  pub p_back : equations_of (written l) ≡ l.p
  p_back = content_written 0 1 (omega arith) (omega arith)

  pub q_back : unknowns_of (written l) ≡ l.q
  q_back = content_written 0 2 (omega arith) (omega arith)

  pub rows_back : rows_of (written l) ≡ row_count l
  rows_back = content_written 0 3 (omega arith) (omega arith)

  pub ending_back : ending_of (written l) ≡ l.ending
  ending_back = content_written 0 4 (omega arith) (omega arith)

  pub coefs_back : coef_words (written l) ≡ length l.coefs
  coefs_back = rw (p_back, q_back) (sym r.count)

  pub row_numbers_back : row_words (written l) ≡ length l.rows
  row_numbers_back = rw (rows_back, q_back) (rows_whole l r)

  stream_back : (i : ℕ) → i / stream_words < later → stream_at (written l) i ≡ get_or (stream l) i 0
  stream_back i m =
      let b = i / stream_words in
      let j = i % stream_words in
      let e : b + 1 ≡ suc b = omega arith in
      let f : j + 1 ≡ suc j = omega arith in
      let g : stream_words * b + j ≡ i = omega arith in
      rw (e, f) (content_written (suc b) (suc j) (omega arith) (omega arith) ∙ content_stream l b j ∙ rw g)

  coef_back : (i : ℕ) → i < length l.coefs → signed (stream_at (written l) i) ≡ get_or l.coefs i (pos 0)
  coef_back i m =
      ap signed (stream_back i (omega (arith, stream_length l)) ∙ stream_coef l i m) ∙ signed_unsigned (get_or l.coefs i (pos 0)) (r.range i m)

  row_back : (i : ℕ) → i < length l.rows → stream_at (written l) (length l.coefs + i) ≡ get_or l.rows i 0
  row_back i m = stream_back (length l.coefs + i) (omega (arith, stream_length l)) ∙ stream_row l i

  pub list_back : list_in (written l) ≡ l
  unfolding list_in
  list_back =
      let c : listed (coef_words (written l)) (λ i. signed (stream_at (written l) i)) ≡ l.coefs =
      rw coefs_back (listed_all (pos 0) l.coefs (length l.coefs) (λ i. signed (stream_at (written l) i)) refl coef_back) in
      let s : listed (row_words (written l)) (λ i. stream_at (written l) (coef_words (written l) + i)) ≡ l.rows =
      rw (row_numbers_back, coefs_back) (listed_all 0 l.rows (length l.rows) (λ i. stream_at (written l) (length l.coefs + i)) refl row_back) in
      λ i. record { p = p_back i; q = q_back i; coefs = c i; rows = s i; ending = ending_back i }

  -- ---- the file is in order

  header_written : HeaderInRange (written l)
  header_written =
      record {
        p_some = rw p_back r.p_some;
        p_few = rw p_back r.p_few;
        q_some = rw q_back r.q_some;
        q_few = rw q_back r.q_few;
        rows = rw rows_back r.rows.few;
        ending = rw ending_back r.rows.ending;
        zeros = λ j m.
            let e : 5 + j ≡ suc (suc (suc (suc (suc j)))) = omega arith in
            let f : block_words * 0 + suc (suc (suc (suc (suc j)))) ≡ suc (suc (suc (suc (suc j)))) = omega arith in
            rw e (rw f at (content_written 0 (suc (suc (suc (suc (suc j))))) (omega arith) (omega arith)));
      }

  word_range : (i : ℕ) → StreamWordInRange (length l.coefs) (length l.rows) i (get_or (stream l) i 0)
  word_range i =
      record {
        coefficient = λ m. rw (stream_coef l i m, signed_unsigned (get_or l.coefs i (pos 0)) (r.range i m)) (r.range i m);
        component = λ m n.
            let e : length l.coefs + (i - length l.coefs) ≡ i = omega arith in
            let s = stream_row l (i - length l.coefs) in
            omega (arith, rw e at s, r.rows.components (i - length l.coefs) (omega arith));
        filler = λ m. stream_filler l i m;
      }

  block_range : (b : ℕ) → b < later → BlockInRange (written l) (length l.coefs) (length l.rows) b
  block_range b m j n =
      let e : b + 1 ≡ suc b = omega arith in
      let f : j + 1 ≡ suc j = omega arith in
      rw (e, f, content_written (suc b) (suc j) (omega arith) (omega arith), content_stream l b j) (word_range (stream_words * b + j))

  pub written_in_order : FileInOrder (written l)
  written_in_order =
      let n : coef_words (written l) + row_words (written l) ≡ length (stream l) = omega (arith, coefs_back, row_numbers_back, stream_length l) in
      record {
        header = record { sum = sum_written 0 (omega arith); number = content_written 0 0 (omega arith) (omega arith); range = header_written };
        exact = rw n written_length;
        blocks = λ b m.
            let h : b < later = rw n at m in
            record {
              sum = sum_written (b + 1) (omega arith);
              number = content_written (b + 1) 0 (omega arith) (omega arith);
              range = rw (coefs_back, row_numbers_back) (block_range b h);
            };
      }
