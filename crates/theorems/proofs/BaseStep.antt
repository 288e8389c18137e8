-- Document 01, "What a system is": "Right sides, ceilings, the order by norm, positive differences and incremental solving do not" belong to the base. Of a map
-- alone whether a child is made goes by its marks, by all of its equations at once and by the rows listed so far, and by nothing else. Assumes nothing.
use Rattle.std.specs.Prelude.{◌≡◌, not, ◌&&◌, List, ℕ, ℤ, pos}
use Rattle.std.proofs.Math.Path.{refl}
use Rattle.std.specs.Int.Signed.{lt_z}
use Rattle.linear.specs.Tuples.{raise}
use Rattle.definitions.specs.Input.{input_of, map_of, system_of}
use Rattle.definitions.specs.Step.{makes, top, top_marks}
use Rattle.definitions.specs.System.{covered, towards}
use Rattle.definitions.specs.Tables.{State, frozen, list_row}

module _ (p q : ℕ) (coefs : List ℤ) where
  -- no right sides: the system walked through is the map
  pub base_system : system_of (input_of p q coefs) ≡ map_of (input_of p q coefs)
  base_system = refl

  pub base_makes : (s : State) (j : ℕ) → let m = map_of (input_of p q coefs) in let x = raise (top m s) j in
      makes m s j ≡ not (frozen (top_marks m s) j) && (lt_z (towards m (top m s) j) (pos 0) && not (covered q s.run.found (list_row q s) x))
  unfolding makes
  base_makes s j = refl
