-- The writer's checks in stages, and how the stages make the whole. Assumes nothing.
use Rattle.std.specs.Prelude.{◌≡◌, ℕ, ◌+◌, ◌*◌, ◌%◌, ◌<◌, ◌≤◌, true, false, not, [], length, ◌==◌, ◌≢◌}
use Rattle.std.proofs.Common.{arith, mul-le-mul}
use borrow.Author.Tests.{le-leb, lt-leb, eq-eqb, ne_eqb}
use Rattle.definitions.specs.Answers as paper
use Rattle.definitions.specs.Answers.{◌then◌, refuse_if, refuse_with}
use Rattle.definitions.specs.System.{most_unknowns}
use Rattle.laws.proofs.AnswerLaws.{then_assoc}
use Rattle.checks.specs.Coefficients.{coefficient_checks}
use Rattle.checks.specs.Counts.{counted, count_checks}
use Rattle.list_spec.specs.Form.{ListFile, block_bytes, block_count, row_count, file_blocks}
use Rattle.list_spec.specs.Writing.{most_rows, most_ending, rows_in_range, list_in_range, write_checks}
use Rattle.list_spec.proofs.ContentLaws.{stream_length}

-- 22 and 19, which come after 1 to 3 and 7
unfoldable pub list_checks : ListFile → ℕ → paper.Check
list_checks l room = refuse_if (not (list_in_range l)) 22 then refuse_if (not (room == block_bytes * file_blocks l)) 19

pub write_stages : (l : ListFile) (room : ℕ)
    → count_checks l.p l.q 0 (length l.coefs) then coefficient_checks l.coefs then list_checks l room ≡ write_checks l room
unfolding count_checks list_checks write_checks
write_stages l room = simp then_assoc

module _ (l : ListFile) where
  pub not_whole : (length l.rows % l.q ≢ 0) → false ≡ list_in_range l
  unfolding list_in_range
  not_whole h = rw (ne_eqb (length l.rows % l.q) 0 h)

  module _ (whole : length l.rows % l.q ≡ 0) where
    pub too_many : most_rows < row_count l → false ≡ list_in_range l
    unfolding list_in_range
    too_many h = rw (eq-eqb (length l.rows % l.q) 0 whole, lt-leb (row_count l) most_rows h)

    module _ (few : row_count l ≤ most_rows) where
      pub no_ending : most_ending < l.ending → false ≡ list_in_range l
      unfolding list_in_range
      no_ending h = rw (eq-eqb (length l.rows % l.q) 0 whole, le-leb (row_count l) most_rows few, lt-leb l.ending most_ending h)

      pub rows_decide : l.ending ≤ most_ending → rows_in_range l.rows ≡ list_in_range l
      unfolding list_in_range
      rows_decide h = rw (eq-eqb (length l.rows % l.q) 0 whole, le-leb (row_count l) most_rows few, le-leb l.ending most_ending h)

-- the last two checks of the writer
module _ (l : ListFile) (room : ℕ) where
  pub out_of_range : list_in_range l ≡ false → paper.refuse 22 [] ≡ list_checks l room
  unfolding list_checks refuse_with ◌then◌
  out_of_range e = rw e

  pub wrong_length : list_in_range l ≡ true → (room ≢ block_bytes * block_count (length l.coefs + length l.rows)) → paper.refuse 19 [] ≡ list_checks l room
  unfolding list_checks refuse_with ◌then◌
  wrong_length e h = rw (e, stream_length l, ne_eqb room _ h)

  pub all_passed : list_in_range l ≡ true → room ≡ block_bytes * block_count (length l.coefs + length l.rows) → paper.go ≡ list_checks l room
  unfolding list_checks refuse_with ◌then◌
  all_passed e h = rw (e, stream_length l, eq-eqb room _ h)

-- where 1 to 3 find nothing, the counts are in range
pub record Counts (p q coefs : ℕ) : Type 0 where
  pub q_some : 1 ≤ q
  pub q_few : q ≤ most_unknowns
  pub coefs_few : coefs ≤ 128

pub counts_in : (p q coefs : ℕ) → count_checks p q 0 coefs ≡ paper.go → Counts p q coefs
counts_in p q coefs e =
    let m = counted p q 0 coefs e in
    record { q_some = m.some; q_few = m.unknowns; coefs_few = omega (arith, m.count, mul-le-mul m.equations m.unknowns) }
