-- Document 02, Job 5: when the writer refuses a list, and what it leaves in the buffer. Assumes nothing.
use Rattle.std.specs.Prelude.{ℕ, ◌*◌, ◌%◌, Bool, not, ◌&&◌, List, leb, eqb, pos, length, get_or}
use Rattle.linear.specs.Tests.{all_to}
use Rattle.definitions.specs.Answers.{Check, refuse, go, ◌then◌, refuse_if, refuse_first}
use Rattle.definitions.specs.System.{most_equations, most_unknowns, most_component}
use Rattle.definitions.specs.Refusals.{between, out_of_range}
use Rattle.list_spec.specs.Form.{ListFile, block_bytes, row_count, file_blocks, written}

-- "the row count (at most 4,096)"
abbrev pub most_rows : ℕ
most_rows = 4096

-- "the ending (0 complete, 1 paused)"
abbrev pub most_ending : ℕ
most_ending = 1

-- every component is at most 1,000,000
unfoldable pub rows_in_range : List ℕ → Bool
rows_in_range rows = all_to (length rows) (λ i. leb (get_or rows i 0) most_component)

-- no "row count, component or ending out of range or a row not whole"
unfoldable pub list_in_range : ListFile → Bool
list_in_range l =
    eqb (length l.rows % l.q) 0 && (leb (row_count l) most_rows && (leb l.ending most_ending && rows_in_range l.rows))

-- "The writer gives 1, 2, 3, 7, then 22 .., then 19 for a buffer not of the exact length." (1 to 7 as document 01 has them for every call.)
unfoldable pub write_checks : ListFile → ℕ → Check
write_checks l room =
    refuse_if (not (between 1 most_equations l.p)) 1
    then refuse_if (not (between 1 most_unknowns l.q)) 2
    then refuse_if (not (eqb (length l.coefs) (l.p * l.q))) 3
    then refuse_first 7 (length l.coefs) (λ i. out_of_range (get_or l.coefs i (pos 0)))
    then refuse_if (not (list_in_range l)) 22
    then refuse_if (not (eqb room (block_bytes * file_blocks l))) 19

-- What the writer answers: all is written; or refused by the document's number, with the values that it comes with (7: the place).
pub data WriteAnswer : Type 0 where
  wrote : WriteAnswer
  refused : ℕ → List ℕ → WriteAnswer

-- what it answers, and the buffer as it leaves it
pub record WriteOutcome : Type 0 where
  pub answer : WriteAnswer
  pub out : List ℕ

-- "a refusal not given within a walk changes nothing lent"
unfoldable pub write_decided : Check → ListFile → List ℕ → WriteOutcome
write_decided (refuse n values) l out = record { answer = refused n values; out = out }
write_decided go l out = record { answer = wrote; out = written l }

unfoldable pub write_list : ListFile → List ℕ → WriteOutcome
write_list l out = write_decided (write_checks l (length out)) l out
