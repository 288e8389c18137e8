-- Two groups of equations in the same unknowns as one map, and a list handed over as generators. Assumes nothing.
use Rattle.std.specs.Prelude.{◌≡◌, List, ◌++◌, ℕ, ◌+◌, ◌*◌, ℤ, length}
use Rattle.std.proofs.Common.{◌∙◌, arith, length-append}
use Rattle.definitions.specs.Input.{input_of, system_of}
use Rattle.definitions.specs.System.{System}
use Rattle.desk_spec.specs.Desks.{Desk}

-- the first group: p equations in the unknowns of the second, with all its coefficients
pub record FirstGroup (d : Desk) : Type 0 where
  pub p : ℕ
  pub coefs : List ℤ
  pub numbers : length coefs ≡ p * d.q

-- as a system
abbrev pub first_system : (d : Desk) → FirstGroup d → System
first_system d g = system_of (input_of g.p d.q g.coefs)

-- the whole map: the equations of the first group, then those of the second
abbrev pub whole_system : (d : Desk) → FirstGroup d → System
whole_system d g = system_of (input_of (g.p + d.p) d.q (g.coefs ++ d.coefs))

-- the whole map as the first group of a further desk in the same unknowns
abbrev pub both_groups : (d : Desk) (g : FirstGroup d) → length d.coefs ≡ d.p * d.q → (e : Desk) → e.q ≡ d.q → FirstGroup e
both_groups d g all e same =
    record {
      p = g.p + d.p;
      coefs = g.coefs ++ d.coefs;
      numbers = length-append g.coefs d.coefs ∙ rw (same, g.numbers, all) (omega arith);
    }
