-- The refusals of the writer and the reader as rules in the document's words and order, that the checks render them, and what is known where
-- none is given. Assumes nothing.
use Prim.Native.Nat.{ℕ, zero, suc, ◌+◌, ◌*◌, ◌≤◌, ◌<◌}
use Rattle.std.specs.Prelude.{List, ◌≢◌, ◌≡◌, pos, nat_abs, length, get_or}
use Rattle.definitions.specs.System.{most_equations, most_unknowns, coef_limit}
use Rattle.laws.specs.CheckLaws.{Rules, ◌▹◌, end, placed, rule}
use Rattle.laws.specs.RefusalLaws.{Outside}
use Rattle.list_spec.specs.Words.{wrapping_sum}
use Rattle.list_spec.specs.Form.{ListFile, block_bytes, block_words, later_blocks, block_count, file_blocks}
use Rattle.list_spec.specs.Reading.{coef_words, row_words, in_block}
use Rattle.list_spec.specs.Ranges.{RowsInRange, HeaderInRange, BlockInRange}

-- ---- the writer

-- "The writer gives 1, 2, 3, 7, then 22 for a row count, component or ending out of range or a row not whole, then 19 for a buffer not of the
-- exact length."
abbrev pub write_rules : ListFile → ℕ → Rules
write_rules l room =
    rule 1 (Outside 1 most_equations l.p)
    ▹ rule 2 (Outside 1 most_unknowns l.q)
    ▹ rule 3 (length l.coefs ≢ l.p * l.q)
    ▹ placed 7 (length l.coefs) (λ i. coef_limit < nat_abs (get_or l.coefs i (pos 0)))
    ▹ rule 22 (¬ (RowsInRange l))
    ▹ rule 19 (room ≢ block_bytes * file_blocks l)
    ▹ end

-- a list that the writer takes
pub record ListInRange (l : ListFile) : Type 0 where
  pub p_some : 1 ≤ l.p
  pub p_few : l.p ≤ most_equations
  pub q_some : 1 ≤ l.q
  pub q_few : l.q ≤ most_unknowns
  pub count : length l.coefs ≡ l.p * l.q
  pub range : (i : ℕ) → i < length l.coefs → nat_abs (get_or l.coefs i (pos 0)) ≤ coef_limit
  pub rows : RowsInRange l

-- ---- a block of a file

-- "In each block: 20, check; 21, number; 22, a word out of range or filler not zero."
abbrev pub block_rules : List ℕ → ℕ → Type 0 → Rules → Rules
block_rules file b P others =
    rule 20 (wrapping_sum block_words (in_block file b) ≢ 0)
    ▹ rule 21 (in_block file b 0 ≢ b)
    ▹ rule 22 (¬ P)
    ▹ others

-- its words add to zero, it has its number, and what it carries is in range
pub record BlockInOrder (file : List ℕ) (b : ℕ) (P : Type 0) : Type 0 where
  pub sum : wrapping_sum block_words (in_block file b) ≡ 0
  pub number : in_block file b 0 ≡ b
  pub range : P

-- ---- the later blocks

-- "In each block": the first n of them
unfoldable pub stream_rules : List ℕ → ℕ → ℕ → ℕ → Rules → Rules
stream_rules file coefs rows zero others = others
stream_rules file coefs rows (suc b) others = stream_rules file coefs rows b (block_rules file (b + 1) (BlockInRange file coefs rows b) others)

-- ---- the file

-- "19, below one block; 19 again, after block 0, not the exact number of blocks."
abbrev pub file_rules : List ℕ → Rules → Rules
file_rules file others =
    rule 19 (length file < block_bytes)
    ▹ block_rules file 0 (HeaderInRange file)
    (rule 19 (length file ≢ block_bytes * block_count (coef_words file + row_words file))
    ▹ stream_rules file (coef_words file) (row_words file) (later_blocks (coef_words file + row_words file)) others)

-- "with 29 last"
abbrev pub read_rules : List ℕ → ℕ → ℕ → Rules
read_rules file coef_room list_room = file_rules file (rule 29 (coef_room < coef_words file) ▹ rule 29 (list_room < row_words file) ▹ end)

-- a file that is accepted, the tables being long enough
pub record FileInOrder (file : List ℕ) : Type 0 where
  pub header : BlockInOrder file 0 (HeaderInRange file)
  pub exact : length file ≡ block_bytes * block_count (coef_words file + row_words file)
  pub blocks : (b : ℕ) → b < later_blocks (coef_words file + row_words file)
      → BlockInOrder file (b + 1) (BlockInRange file (coef_words file) (row_words file) b)

module _ (file : List ℕ) where
  abbrev pub later : ℕ
  later = later_blocks (coef_words file + row_words file)
