-- Between two calls the rows may be moved: a stage is as sound in other tables that hold the same rows. Assumes nothing.
use Rattle.std.specs.Prelude.{◌≡◌, List, ℕ, ◌+◌, ◌*◌, ◌<◌, ℤ}
use Rattle.std.proofs.Common.{arith}
use Rattle.linear.proofs.TupleLaws.{total_same}
use Rattle.linear.specs.Tuples.{Same, total}
use Rattle.definitions.specs.Tables.{at}
use Rattle.laws.proofs.TableLaws.{row_before}
use Rattle.engine_spec.specs.ReductionLaws.{SameRows}
use Rattle.engine_spec.specs.Sound.{Sound}
use Rattle.engine_spec.specs.Stage.{Stage, row}

abbrev pub with_table : Stage → List ℕ → Stage
with_table s table =
    record { table = table; rows = s.rows; taken = s.taken; degree = s.degree; upper = s.upper; lower = s.lower; steps = s.steps; cap = s.cap }

module _ (cap p q : ℕ) (a : ℕ → ℕ → ℤ) (m : ℕ) (basis basis' : ℕ → ℕ → ℕ) (alike : (i : ℕ) → i < m → Same q (basis' i) (basis i)) where
  module _ (c : ℕ → ℤ) (s : Stage) (table : List ℕ) (r : SameRows q s.rows s.table table) (sound : Sound cap p q a c m basis s) where
    pub same : (i : ℕ) → i < s.rows → Same q (at table q i) (row q s i)
    same i l j jq = r.same (i * q + j) (omega (arith, row_before q s.rows i 0 j l jq))

    pub degree : (i : ℕ) → i < s.rows → total (at table q i) q ≡ total (row q s i) q
    degree i l = total_same (at table q i) (row q s i) q (same i l)
