-- Rows written one behind the other: of the rows 0 .. n - 1, each that a test picks. A sweep, a start and the children of a step are such.
-- Assumes nothing.
use Rattle.std.specs.Prelude.{Bool, true, false, List}
use Prim.Native.Nat.{ℕ, zero, suc, ◌+◌, ◌*◌}
use Rattle.linear.specs.Tests.{count_to}
use Rattle.definitions.specs.Tables.{write_to}

abbrev pub write_if : Bool → ℕ → List ℕ → ℕ → (ℕ → ℕ) → List ℕ
write_if true w table base x = write_to w table base x
write_if false w table base x = table

-- a table with rows of w numbers, after the rows 0 .. n - 1 have been gone through: each that f picks is written, from row `level` on
unfoldable pub pack_to : ℕ → ℕ → List ℕ → ℕ → (ℕ → Bool) → (ℕ → ℕ → ℕ) → List ℕ
pack_to zero w table level f row = table
pack_to (suc n) w table level f row = write_if (f n) w (pack_to n w table level f row) ((level + count_to n f) * w) (row n)
