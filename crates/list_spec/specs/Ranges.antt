-- What is in range in a list and in a file, in words, and that the tests of the definitions render it. Assumes nothing.
use Rattle.std.specs.Prelude.{ℕ, ◌+◌, ◌*◌, ◌%◌, ◌≤◌, ◌<◌, Bool, cond, List, ◌≡◌, leb, ltb, eqb, nat_abs, length, get_or}
use Rattle.definitions.specs.System.{most_equations, most_unknowns, coef_limit, most_component}
use Rattle.list_spec.specs.Words.{word_at, signed}
use Rattle.list_spec.specs.Form.{ListFile, row_count, stream_words}
use Rattle.list_spec.specs.Writing.{most_rows, most_ending}
use Rattle.list_spec.specs.Reading.{equations_of, unknowns_of, rows_of, ending_of, in_block}

-- ---- a list: the rows and the ending

-- no "row count, component or ending out of range or a row not whole"
pub record RowsInRange (l : ListFile) : Type 0 where
  pub whole : length l.rows % l.q ≡ 0
  pub few : row_count l ≤ most_rows
  pub ending : l.ending ≤ most_ending
  pub components : (i : ℕ) → i < length l.rows → get_or l.rows i 0 ≤ most_component

-- ---- block 0 of a file

-- p, q, the row count and the ending in range, "zeros after"
pub record HeaderInRange (file : List ℕ) : Type 0 where
  pub p_some : 1 ≤ equations_of file
  pub p_few : equations_of file ≤ most_equations
  pub q_some : 1 ≤ unknowns_of file
  pub q_few : unknowns_of file ≤ most_unknowns
  pub rows : rows_of file ≤ most_rows
  pub ending : ending_of file ≤ most_ending
  pub zeros : (j : ℕ) → j < 122 → word_at file (5 + j) ≡ 0

-- ---- the stream

-- word i of a stream with these numbers of coefficients and components is w
pub record StreamWordInRange (coefs rows i w : ℕ) : Type 0 where
  pub coefficient : i < coefs → nat_abs (signed w) ≤ coef_limit
  pub component : coefs ≤ i → i < coefs + rows → w ≤ most_component
  pub filler : coefs + rows ≤ i → w ≡ 0

module _ (coefs rows i w : ℕ) where
  abbrev row_or_filler : Bool
  row_or_filler = cond (ltb i (coefs + rows)) (leb w most_component) (eqb w 0)

-- the words that block b + 1 carries
abbrev pub BlockInRange : List ℕ → ℕ → ℕ → ℕ → Type 0
BlockInRange file coefs rows b = (j : ℕ) → j < stream_words → StreamWordInRange coefs rows (stream_words * b + j) (in_block file (b + 1) (j + 1))
