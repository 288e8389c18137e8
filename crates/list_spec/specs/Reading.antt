-- Document 02, Job 5: how a file is read, and when it is refused. Assumes nothing.
use Rattle.std.specs.Prelude.{ℕ, zero, suc, ◌+◌, ◌*◌, ◌/◌, ◌%◌, Bool, not, ◌&&◌, cond, List, [], ◌∷◌, ◌++◌, leb, ltb, eqb, ℤ, length, drop}
use Rattle.linear.specs.Tests.{all_to}
use Rattle.definitions.specs.Answers.{Check, refuse, go, ◌then◌, refuse_if}
use Rattle.definitions.specs.System.{most_equations, most_unknowns, most_component}
use Rattle.definitions.specs.Refusals.{between, out_of_range}
use Rattle.list_spec.specs.Words.{word_at, signed, wrapping_sum}
use Rattle.list_spec.specs.Form.{ListFile, block_bytes, block_words, stream_words, later_blocks, block_count, row_count}
use Rattle.list_spec.specs.Writing.{most_rows, most_ending}

-- ---- what stands in a file

-- "Block 0 has p, q, the row count (at most 4,096) and the ending (0 complete, 1 paused) in words 1 to 4"
abbrev pub equations_of : List ℕ → ℕ
equations_of file = word_at file 1

abbrev pub unknowns_of : List ℕ → ℕ
unknowns_of file = word_at file 2

abbrev pub rows_of : List ℕ → ℕ
rows_of file = word_at file 3

abbrev pub ending_of : List ℕ → ℕ
ending_of file = word_at file 4

-- how many words of the stream are coefficients, and how many are components of rows
abbrev pub coef_words : List ℕ → ℕ
coef_words file = equations_of file * unknowns_of file

abbrev pub row_words : List ℕ → ℕ
row_words file = rows_of file * unknowns_of file

-- word j of block b
abbrev pub in_block : List ℕ → ℕ → ℕ → ℕ
in_block file b j = word_at file (block_words * b + j)

-- word i of the stream: "Each later block carries 126 words of one stream"
abbrev pub stream_at : List ℕ → ℕ → ℕ
stream_at file i = in_block file (i / stream_words + 1) (i % stream_words + 1)

-- f 0 .. f (n - 1)
unfoldable pub listed : {A : Type 0} → ℕ → (ℕ → A) → List A
listed zero f = []
listed (suc n) f = listed n f ++ (f n ∷ [])

-- "the coefficients in two's complement, then the rows"
unfoldable pub list_in : List ℕ → ListFile
list_in file =
    record {
      p = equations_of file;
      q = unknowns_of file;
      coefs = listed (coef_words file) (λ i. signed (stream_at file i));
      rows = listed (row_words file) (λ i. stream_at file (coef_words file + i));
      ending = ending_of file;
    }

-- ---- the checks of a block

-- "In each block: 20, check; 21, number; 22, a word out of range or filler not zero."
unfoldable pub block_checks : List ℕ → ℕ → Bool → Check
block_checks file b in_range =
    refuse_if (not (eqb (wrapping_sum block_words (in_block file b)) 0)) 20
    then refuse_if (not (eqb (in_block file b 0) b)) 21
    then refuse_if (not in_range) 22

-- p, q, the row count and the ending are in range, "zeros after"
unfoldable pub header_in_range : List ℕ → Bool
header_in_range file =
    between 1 most_equations (equations_of file)
    && (between 1 most_unknowns (unknowns_of file)
    && (leb (rows_of file) most_rows && (leb (ending_of file) most_ending && all_to 122 (λ j. eqb (word_at file (5 + j)) 0))))

-- word i of a stream with these numbers of coefficients and components is w: a coefficient in range, a component in range, or filler
abbrev pub stream_word_in_range : ℕ → ℕ → ℕ → ℕ → Bool
stream_word_in_range coefs rows i w =
    cond (ltb i coefs) (not (out_of_range (signed w))) (cond (ltb i (coefs + rows)) (leb w most_component) (eqb w 0))

-- the words that block b + 1 carries
unfoldable pub block_in_range : List ℕ → ℕ → ℕ → ℕ → Bool
block_in_range file coefs rows b =
    all_to stream_words (λ j. stream_word_in_range coefs rows (stream_words * b + j) (in_block file (b + 1) (j + 1)))

-- the first n of the later blocks, one after the other
unfoldable pub stream_checks : List ℕ → ℕ → ℕ → ℕ → Check
stream_checks file coefs rows zero = go
stream_checks file coefs rows (suc b) = stream_checks file coefs rows b then block_checks file (b + 1) (block_in_range file coefs rows b)

-- ---- the file

-- "19, below one block; 19 again, after block 0, not the exact number of blocks."
unfoldable pub file_checks : List ℕ → Check
file_checks file =
    refuse_if (ltb (length file) block_bytes) 19
    then block_checks file 0 (header_in_range file)
    then refuse_if (not (eqb (length file) (block_bytes * block_count (coef_words file + row_words file)))) 19
    then stream_checks file (coef_words file) (row_words file) (later_blocks (coef_words file + row_words file))

-- "with 29 last": a coefficient or a list table that is too short
unfoldable pub read_checks : List ℕ → ℕ → ℕ → Check
read_checks file coef_room list_room =
    file_checks file then refuse_if (ltb coef_room (coef_words file)) 29 then refuse_if (ltb list_room (row_words file)) 29

-- What the reader answers: p, q, the row count and the ending; or refused by the document's number.
pub data ReadAnswer : Type 0 where
  read : ℕ → ℕ → ℕ → ℕ → ReadAnswer
  refused : ℕ → List ℕ → ReadAnswer

-- what it answers, and the tables as it leaves them
pub record ReadOutcome : Type 0 where
  pub answer : ReadAnswer
  pub coefs : List ℤ
  pub list : List ℕ

-- "Space lent for output keeps what stood past the written part."
abbrev pub over : {A : Type 0} → List A → List A → List A
over new table = new ++ drop (length new) table

-- a list handed out, with the tables that it goes to
unfoldable pub handed_out : ListFile → List ℤ → List ℕ → ReadOutcome
handed_out l coefs list =
    record {
      answer = read l.p l.q (row_count l) l.ending;
      coefs = over l.coefs coefs;
      list = over l.rows list;
    }

-- "a refusal not given within a walk changes nothing lent"
unfoldable pub read_decided : Check → ListFile → List ℤ → List ℕ → ReadOutcome
read_decided (refuse n values) l coefs list = record { answer = refused n values; coefs = coefs; list = list }
read_decided go l coefs list = handed_out l coefs list

-- "The reader fills a coefficient and a list table"
unfoldable pub read_file : List ℕ → List ℤ → List ℕ → ReadOutcome
read_file file coefs list = read_decided (read_checks file (length coefs) (length list)) (list_in file) coefs list
