-- The reader's checks in stages, and what holds where they find nothing. Assumes nothing.
use Rattle.std.specs.Prelude.{◌≡◌, ℕ, zero, suc, ◌+◌, ◌*◌, ◌/◌, ◌%◌, ◌<◌, ◌≤◌, Bool, true, false, not, List, [], ◌++◌, length, drop, ℤ, ◌==◌, ◌≢◌, nat_eq}
use Rattle.std.specs.Prelude.{nat_le, nat_lt, slice_set, refl}
use Rattle.std.proofs.Math.Logic.{inl, inr}
use Rattle.std.proofs.Common.{ap, mul-le-mul, add-one, arith, length-append, length-drop}
use Rattle.std.proofs.Math.Nat.{mul-div_cancel}
use borrow.Author.Tests.{le-leb, lt-leb, le-ltb, lt-ltb, eq-eqb, ne_eqb}
use Rattle.linear.specs.Cases.{below_suc}
use Rattle.linear.specs.Tests.{all_to}
use Rattle.linear.proofs.TestLaws.{all_same}
use Rattle.definitions.specs.Answers as paper
use Rattle.definitions.specs.Answers.{◌then◌, refuse_if, refuse_with}
use Rattle.definitions.specs.Refusals.{between}
use Rattle.definitions.specs.System.{most_component}
use Rattle.list_spec.specs.Words.{word_at, signed, wrapping_sum}
use Rattle.list_spec.specs.Form.{block_bytes, block_words, stream_words, later_blocks, block_count}
use Rattle.list_spec.specs.Reading.{equations_of, unknowns_of, rows_of, ending_of, coef_words, row_words, in_block, stream_at, listed, list_in, block_checks}
use Rattle.list_spec.specs.Reading.{header_in_range, stream_word_in_range, block_in_range, stream_checks, file_checks, read_checks, ReadOutcome, read}
use Rattle.list_spec.specs.Reading.{handed_out}
use Rattle.list_spec.proofs.ListLaws.{listed_length, listed_next}
use Rattle.list_spec.specs.Ranges.{HeaderInRange}
use Rattle.list_spec.proofs.Ranges.{component_word}
use Rattle.list_spec.specs.RuleLaws.{FileInOrder}

-- ---- what is known of a file at each stage

-- block 0 is there, and its words are in range
pub record HeaderRead (file : List ℕ) : Type 0 where
  pub long : block_bytes ≤ length file
  pub range : HeaderInRange file

-- these many blocks after block 0 are there
pub record StreamRead (coefs rows later room : ℕ) : Type 0 where
  pub few : coefs + rows ≤ 65664
  pub blocks : block_bytes * (later + 1) ≤ room

-- the file is in order, and both tables are long enough
pub record Readable (file : List ℕ) (coefs list : ℕ) : Type 0 where
  pub order : FileInOrder file
  pub coef_room : coef_words file ≤ coefs
  pub list_room : row_words file ≤ list
  pub few : coef_words file + row_words file ≤ 65664

pub coefs_few : {file : List ℕ} → HeaderInRange file → coef_words file ≤ 128
coefs_few h = mul-le-mul h.p_few h.q_few

pub numbers_few : {file : List ℕ} → HeaderInRange file → row_words file ≤ 65536
numbers_few h = mul-le-mul h.rows h.q_few

pub header_read : (file : List ℕ) → FileInOrder file → HeaderRead file
header_read file o = record { long = omega (arith, o.exact); range = o.header.range }

pub stream_read : {file : List ℕ} → HeaderInRange file → (room : ℕ) → room ≡ block_bytes * block_count (coef_words file + row_words file)
    → StreamRead (coef_words file) (row_words file) (later_blocks (coef_words file + row_words file)) room
stream_read h room e = record { few = omega (arith, coefs_few h, numbers_few h); blocks = omega arith }

between_true : (b n : ℕ) → 1 ≤ n → n ≤ b → between 1 b n ≡ true
between_true b n l m = rw (le-leb 1 n l, le-leb n b m)

-- m words of the stream from word i on are there, and stand in one block
pub record InBlock (i m room : ℕ) : Type 0 where
  pub few : i < 65664
  pub one : i % stream_words + m ≤ stream_words
  pub there : block_bytes * (i / stream_words + 2) ≤ room

-- the first n entries of a table are f's, and the others as they were
pub record Filled (f : ℕ → ℕ) (n : ℕ) (table list : List ℕ) : Type 0 where
  pub same : list ≡ listed n f ++ drop n table

-- the next word of the stream, in the same block
pub stream_run : (file : List ℕ) (first i j m room : ℕ) → InBlock (first + i) m room → j < m
    → word_at file (128 * ((first + i) / 126 + 1) + ((first + i) % 126 + 1) + j) ≡ stream_at file (first + (i + j))
stream_run file first i j m room b l =
    let k = first + i in
    let e : first + (i + j) ≡ k + j = omega arith in
    let d : (k + j) / stream_words ≡ k / stream_words = omega arith in
    let r : (k + j) % stream_words ≡ k % stream_words + j = omega arith in
    let s : 128 * (k / 126 + 1) + (k % 126 + 1) + j ≡ 128 * (k / 126 + 1) + (k % 126 + j + 1) = omega arith in
    rw (e, d, r, s)

-- one more entry is written
pub filled_next : (f : ℕ → ℕ) (n : ℕ) (table list : List ℕ) (w : ℕ) → w ≡ f n → n < length list → Filled f n table list
    → Filled f (n + 1) table (slice_set list n w)
filled_next f n table list w e l h =
    let long : n < length table = omega (arith, simp (length-append, length-drop, listed_length) at (ap length h.same)) in
    record { same = rw (h.same, e) (listed_next 0 n f table long) }

-- ---- what is handed out

module _ (file : List ℕ) (coefs : List ℤ) (list : List ℕ) where
  -- as the code hands it out
  abbrev copied : ReadOutcome
  copied =
      record {
        answer = read (equations_of file) (unknowns_of file) (rows_of file) (ending_of file);
        coefs = listed (coef_words file) (λ i. signed (stream_at file i)) ++ drop (coef_words file) coefs;
        list = listed (row_words file) (λ i. stream_at file (coef_words file + i)) ++ drop (row_words file) list;
      }

  pub handed_out_lem : 1 ≤ unknowns_of file → copied ≡ handed_out (list_in file) coefs list
  unfolding handed_out list_in
  handed_out_lem l =
      rw (
        listed_length (coef_words file) (λ i. signed (stream_at file i)),
        listed_length (row_words file) (λ i. stream_at file (coef_words file + i)),
        mul-div_cancel (rows_of file) l,
      )

-- ---- the stages

-- after block 0
unfoldable pub later_checks : List ℕ → paper.Check
later_checks file =
    refuse_if (not (length file == block_bytes * block_count (coef_words file + row_words file))) 19
    then stream_checks file (coef_words file) (row_words file) (later_blocks (coef_words file + row_words file))

-- 29
unfoldable pub table_checks : List ℕ → ℕ → ℕ → paper.Check
table_checks file coefs list = refuse_if (nat_lt coefs (coef_words file)) 29 then refuse_if (nat_lt list (row_words file)) 29

pub read_stages : (file : List ℕ) (coefs list : ℕ) → file_checks file then table_checks file coefs list ≡ read_checks file coefs list
unfolding read_checks table_checks
read_stages file coefs list = refl

module _ (file : List ℕ) where
  pub too_short : length file < block_bytes → paper.refuse 19 [] ≡ file_checks file
  unfolding file_checks refuse_with ◌then◌
  too_short l = rw (lt-ltb (length file) block_bytes l)

  pub file_stages : block_bytes ≤ length file → block_checks file 0 (header_in_range file) then later_checks file ≡ file_checks file
  unfolding file_checks later_checks refuse_with ◌then◌
  file_stages l = rw (le-ltb (length file) block_bytes l)

  pub not_exact : (length file ≢ block_bytes * block_count (coef_words file + row_words file)) → paper.refuse 19 [] ≡ later_checks file
  unfolding later_checks refuse_with ◌then◌
  not_exact h = rw (ne_eqb (length file) _ h)

  pub stream_decides : length file ≡ block_bytes * block_count (coef_words file + row_words file)
      → stream_checks file (coef_words file) (row_words file) (later_blocks (coef_words file + row_words file)) ≡ later_checks file
  unfolding later_checks refuse_with ◌then◌
  stream_decides e = rw (eq-eqb (length file) _ e)

  module _ (coefs list : ℕ) where
    pub coefs_short : coefs < coef_words file → paper.refuse 29 [] ≡ table_checks file coefs list
    unfolding table_checks refuse_with ◌then◌
    coefs_short l = rw (lt-ltb coefs (coef_words file) l)

    pub list_short : coef_words file ≤ coefs → list < row_words file → paper.refuse 29 [] ≡ table_checks file coefs list
    unfolding table_checks refuse_with ◌then◌
    list_short l m = rw (le-ltb coefs (coef_words file) l, lt-ltb list (row_words file) m)

    pub tables_long : coef_words file ≤ coefs → row_words file ≤ list → paper.go ≡ table_checks file coefs list
    unfolding table_checks refuse_with ◌then◌
    tables_long l m = rw (le-ltb coefs (coef_words file) l, le-ltb list (row_words file) m)

-- ---- one block

module _ (file : List ℕ) (b : ℕ) (ranged : Bool) where
  abbrev sum : ℕ
  sum = wrapping_sum block_words (in_block file b)

  pub bad_sum : (sum ≢ 0) → paper.refuse 20 [] ≡ block_checks file b ranged
  unfolding block_checks refuse_with ◌then◌
  bad_sum h = rw (ne_eqb sum 0 h)

  first_word : in_block file b 0 ≡ word_at file (block_words * b)
  first_word = let e : block_words * b + 0 ≡ block_words * b = omega arith in rw e

  pub bad_number : sum ≡ 0 → (word_at file (block_words * b) ≢ b) → paper.refuse 21 [] ≡ block_checks file b ranged
  unfolding block_checks refuse_with ◌then◌
  bad_number e h = rw (eq-eqb sum 0 e, first_word, ne_eqb (word_at file (block_words * b)) b h)

  module _ (e : sum ≡ 0) (f : word_at file (block_words * b) ≡ b) where
    pub bad_range : ranged ≡ false → paper.refuse 22 [] ≡ block_checks file b ranged
    unfolding block_checks refuse_with ◌then◌
    bad_range g = rw (eq-eqb sum 0 e, first_word, eq-eqb (word_at file (block_words * b)) b f, g)

    pub block_passed : ranged ≡ true → paper.go ≡ block_checks file b ranged
    unfolding block_checks refuse_with ◌then◌
    block_passed g = rw (eq-eqb sum 0 e, first_word, eq-eqb (word_at file (block_words * b)) b f, g)

-- a block that carries components only
pub components_decide : (file : List ℕ) (coefs rows b : ℕ) → coefs ≤ stream_words * b → stream_words * b + stream_words ≤ coefs + rows
    → all_to stream_words (λ j. nat_le (word_at file (block_words * (b + 1) + 1 + j)) most_component) ≡ block_in_range file coefs rows b
unfolding block_in_range
components_decide file coefs rows b l m =
    all_same stream_words
    (λ j. nat_le (word_at file (block_words * (b + 1) + 1 + j)) most_component)
    (λ j. stream_word_in_range coefs rows (stream_words * b + j) (in_block file (b + 1) (j + 1)))
    (λ j h.
    let e : block_words * (b + 1) + 1 + j ≡ block_words * (b + 1) + (j + 1) = omega arith in
    let w = in_block file (b + 1) (j + 1) in
    rw (e, component_word coefs rows (stream_words * b + j) w (omega arith) (omega arith)))

-- ---- the later blocks: one more passed, and one that decides

module _ (file : List ℕ) (coefs rows : ℕ) where
  pub stream_next : (b : ℕ) → stream_checks file coefs rows b ≡ paper.go → block_checks file (b + 1) (block_in_range file coefs rows b) ≡ paper.go
      → stream_checks file coefs rows (b + 1) ≡ paper.go
  unfolding stream_checks ◌then◌
  stream_next b e f = rw (add-one b, e) f

  pub stream_at_lem : (n b : ℕ) {r : ℕ} {values : List ℕ} → b < n → stream_checks file coefs rows b ≡ paper.go
      → paper.refuse r values ≡ block_checks file (b + 1) (block_in_range file coefs rows b) → paper.refuse r values ≡ stream_checks file coefs rows n
  unfolding stream_checks ◌then◌
  stream_at_lem zero b l e f = absurd (omega arith)
  stream_at_lem (suc n) b l e f = elim (below_suc l) [ inl m ↦ rw (← stream_at_lem n b m e f) | inr h ↦ rw (← h, e) f ]

-- ---- the words of block 0

module _ (file : List ℕ) where
  pub p_below : equations_of file < 1 → false ≡ header_in_range file
  unfolding header_in_range
  p_below l = rw (lt-leb 1 (equations_of file) l)

  pub p_above : 1 ≤ equations_of file → 8 < equations_of file → false ≡ header_in_range file
  unfolding header_in_range
  p_above l m = rw (le-leb 1 (equations_of file) l, lt-leb (equations_of file) 8 m)

  module _ (p1 : 1 ≤ equations_of file) (p2 : equations_of file ≤ 8) where
    pub q_below : unknowns_of file < 1 → false ≡ header_in_range file
    unfolding header_in_range
    q_below l = rw (between_true 8 (equations_of file) p1 p2, lt-leb 1 (unknowns_of file) l)

    pub q_above : 1 ≤ unknowns_of file → 16 < unknowns_of file → false ≡ header_in_range file
    unfolding header_in_range
    q_above l m = rw (between_true 8 (equations_of file) p1 p2, le-leb 1 (unknowns_of file) l, lt-leb (unknowns_of file) 16 m)

    module _ (q1 : 1 ≤ unknowns_of file) (q2 : unknowns_of file ≤ 16) where
      pub rows_above : 4096 < rows_of file → false ≡ header_in_range file
      unfolding header_in_range
      rows_above l = rw (between_true 8 (equations_of file) p1 p2, between_true 16 (unknowns_of file) q1 q2, lt-leb (rows_of file) 4096 l)

      module _ (rows : rows_of file ≤ 4096) where
        pub ending_above : 1 < ending_of file → false ≡ header_in_range file
        unfolding header_in_range
        ending_above l =
            rw (
              between_true 8 (equations_of file) p1 p2,
              between_true 16 (unknowns_of file) q1 q2,
              le-leb (rows_of file) 4096 rows,
              lt-leb (ending_of file) 1 l,
            )

        pub zeros_decide : ending_of file ≤ 1 → all_to 122 (λ j. nat_eq (word_at file (5 + j)) 0) ≡ header_in_range file
        unfolding header_in_range
        zeros_decide l =
            rw (
              between_true 8 (equations_of file) p1 p2,
              between_true 16 (unknowns_of file) q1 q2,
              le-leb (rows_of file) 4096 rows,
              le-leb (ending_of file) 1 l,
            )
