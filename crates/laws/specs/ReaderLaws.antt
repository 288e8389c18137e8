-- The rule of the reader, of one list and of two: where 2 is due, where there is no row, and what is shown of a row that is there. Assumes nothing.
use Rattle.std.specs.Prelude.{◌≡◌, ℕ, ◌<◌}
use mathlib.Core.List.{List, []}
use Rattle.definitions.specs.Reader.{Shown, Which, none, refused, row, row_part, table_at}
use Rattle.definitions.specs.Tables.{capacity}
use Rattle.laws.specs.RefusalLaws.{Outside}

-- ---- the rule

-- "there is none at 0, past the found count or past the room"
pub data Missing (q : ℕ) (table : List ℕ) (found n : ℕ) : Type 0 where
  zeroth : n < 1 → Missing q table found n
  past : found < n → Missing q table found n
  outside : capacity q table < n → Missing q table found n

-- what a reader for q from 1 to `most` is to show of row n: "A reader for q outside 1 to 16 is refused with 2."
pub record ShowsRow (most q : ℕ) (table : List ℕ) (found n : ℕ) (r : Shown) : Type 0 where
  pub two : Outside 1 most q → r ≡ refused 2 []
  pub gone : ¬ (Outside 1 most q) → Missing q table found n → r ≡ none
  pub there : ¬ (Outside 1 most q) → ¬ (Missing q table found n) → r ≡ row (row_part q table n)

-- ---- two lists: "an empty one if there is none or 2 is due"

pub data NoRow (q : ℕ) (table : List ℕ) (found n : ℕ) : Type 0 where
  two : Outside 1 15 q → NoRow q table found n
  missing : Missing q table found n → NoRow q table found n

module _ (w : Which) (q : ℕ) (list second : List ℕ) (found n : ℕ) where
  abbrev pub table : List ℕ
  table = table_at w list second
