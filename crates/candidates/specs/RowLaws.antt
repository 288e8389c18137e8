-- An array with a component raised, and lowered again. Assumes nothing.
use Rattle.std.specs.Prelude.{◌≡◌, List, ℕ, ◌+◌, ◌-◌, ◌<◌, length, set}
use Rattle.std.proofs.Common.{◌∙◌, arith, get_or-set_same, get_or-set_other, set-set}
use Rattle.std.proofs.Math.Decide.{ℕ_discrete}
use Rattle.std.proofs.lemmas.List.{set-get_or}
use Rattle.linear.specs.Tuples.{raise}
use Rattle.linear.specs.TupleLaws.{unit_same, unit_other}
use Rattle.table_rows.specs.Rows.{tuple}

-- an array with component i raised by one
pub set_raise : (t : List ℕ) (i : ℕ) → i < length t → (j : ℕ) → tuple (set t i (tuple t i + 1)) j ≡ raise (tuple t) i j
set_raise t i l j =
    elim (ℕ_discrete j i) [
      | yes e ↦ rw (e, unit_same) (get_or-set_same t i (tuple t i + 1) 0 l)
      | no ne ↦ get_or-set_other t i j (tuple t i + 1) 0 ne ∙ omega (arith, unit_other i j ne)
    ]

-- a component raised by one, and lowered again
pub raise_lower : (t : List ℕ) (i : ℕ) → i < length t → set (set t i (tuple t i + 1)) i (tuple (set t i (tuple t i + 1)) i - 1) ≡ t
raise_lower t i l =
    let e : tuple (set t i (tuple t i + 1)) i - 1 ≡ tuple t i = omega (arith, get_or-set_same t i (tuple t i + 1) 0 l) in
    rw e (set-set t i (tuple t i + 1) (tuple t i) ∙ set-get_or t i 0)
