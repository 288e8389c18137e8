-- Writing a step's children: what it starts from, the loop that writes all but the first, and the first, which takes its parent's place. Assumes nothing.
use Rattle.std.specs.Prelude.{◌≡◌, Bool, List, ℕ, ◌+◌, ◌*◌, ◌^◌, ◌≤◌, ◌<◌, ℤ, length}
use Rattle.std.specs.Int.Count.{count_trailing_zeros}
use Rattle.linear.specs.Tests.{count_to}
use Rattle.linear.specs.Tuples.{raise}
use Rattle.definitions.specs.System.{most_unknowns}
use Rattle.definitions.specs.Tables.{write_row}
use Rattle.definitions.specs.Step.{marks_to, write_children}
use Rattle.laws.specs.TableLaws.{RowIs}
use Rattle.table_rows.specs.Rows.{Limited}
use Rattle.products.specs.Scan.{Left}
use Rattle.products.specs.Products.{SmallGram, Combined}
use Rattle.products.specs.Totals.{Totals}

-- the row x at `level`, of which children are written, is on the stack, and its products and its sum are kept
pub record Parent (q : ℕ) (g : List ℤ) (stack : List ℕ) (c : List ℤ) (sums : List ℕ) (level : ℕ) (x : ℕ → ℕ) (marks : ℕ) : Type 0 where
  pub few : q ≤ most_unknowns
  pub long : q * (q + 1) ≤ length stack
  pub small : Limited q x
  pub fitting : marks < 2 ^ q
  pub gram : SmallGram q g
  pub row : RowIs q stack level x marks
  pub cached : Combined q g stack (level + 1) c
  pub summed : Totals q stack (level + 1) sums

module _ (q : ℕ) (stack : List ℕ) (level : ℕ) (x : ℕ → ℕ) (marks : ℕ) (f : ℕ → Bool) (first : ℕ) where
  -- the stack table, its height and the marks of the next child, after the unknowns 0 .. n - 1; the first child is yet to be written
  pub record Pushed (n : ℕ) (table : List ℕ) (h passed : ℕ) : Type 0 where
    pub rows : write_row q table level (raise x first) marks ≡ write_children n q stack level x marks f
    pub row : RowIs q table level x marks
    pub height : h ≡ level + count_to n f
    pub next_marks : passed ≡ marks + marks_to n f
    pub above : level < h

  -- a turn, with the lowest mark that is left
  module _ {n : ℕ} {table : List ℕ} {h passed : ℕ} (s : Pushed n table h passed) {rest : ℕ} (left : Left q f n rest) (few : q ≤ 16) (some : 0 < rest) where
    abbrev pub i : ℕ
    i = count_trailing_zeros 32 rest

  -- all but the first are written
  pub record Others (g : List ℤ) (table : List ℕ) (c : List ℤ) (sums : List ℕ) (r : ℕ) : Type 0 where
    pub rows : write_row q table level (raise x first) marks ≡ write_children q q stack level x marks f
    pub row : RowIs q table level x marks
    pub height : r ≡ level + count_to q f
    pub above : level < r
    pub cached : Combined q g table r c
    pub summed : Totals q table r sums
