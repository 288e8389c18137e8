-- "a sweep removes each row that lies above another row or repeats an earlier one, and closes the gaps, order kept." (document 02, Job 10)
-- Assumes nothing.
use Rattle.std.specs.Prelude.{ℕ, Bool, not, ◌&&◌, ◌||◌, List, ltb}
use Rattle.linear.specs.Tests.{any_to}
use Rattle.definitions.specs.System.{is_at_or_below}
use Rattle.definitions.specs.Tables.{at}
use Rattle.laws.specs.Pack.{pack_to}

-- row i lies above row k, or repeats row k, which stands earlier
unfoldable pub spoils : ℕ → (ℕ → ℕ → ℕ) → ℕ → ℕ → Bool
spoils q row i k = is_at_or_below q (row k) (row i) && (not (is_at_or_below q (row i) (row k)) || ltb k i)

-- of the first n rows, row i stays
unfoldable pub keeps : ℕ → ℕ → (ℕ → ℕ → ℕ) → ℕ → Bool
keeps q n row i = not (any_to n (spoils q row i))

-- "and closes the gaps, order kept": the table after rows 0 .. i - 1 have been gone through, each that stays written behind those before it
abbrev pub swept_to : ℕ → ℕ → List ℕ → (ℕ → Bool) → List ℕ
swept_to i q table stay = pack_to i q table 0 stay (at table q)
