-- What a complete run of the engine on the other map is worth: its list without the further unknowns is exactly that of the map, each once, and inside a cap on
-- the first unknown that of the map inside it. So right sides and lower bounds go by a reformulation too: the map is then the one with the extra unknown first.
-- Assumes nothing besides the call's yes.
use Rattle.std.specs.Prelude.{◌≡◌, List, ℕ, suc, ◌+◌, ◌*◌, ◌<◌, ℤ, length}
use Rattle.definitions.specs.Answers.{complete, go}
use Rattle.engine_spec.specs.Calls.{resume}
use Rattle.engine_spec.specs.Engine.{Work}
use Rattle.engine_spec.specs.Promise.{RunsUnder}
use Rattle.engine_spec.specs.StartSides.{sides_system}
use Rattle.reformulation_spec.specs.Reformulation.{Reformulation, reformulates, reformulation, unknowns}

-- a run that the engine's start began on the other map, at the continuing call that says "complete"; and the call that projects what it left
module _ (r : Reformulation) (yes : reformulates r ≡ go) (cap : ℕ) {most room : ℕ} {w : Work}
    (run : RunsUnder cap r.m (unknowns r) r.other most room w) (budget : ℕ)
    (e : (resume r.m (unknowns r) most room budget w).answer ≡ complete) where
  abbrev pub left : Work
  left = (resume r.m (unknowns r) most room budget w).work

-- Right sides and a lower bound: the system of the start for them, with the extra unknown first, is the map that another stands in the place of; and the run
-- began with such a start itself, on a map whose own system is the other one. Its list without the further unknowns is both lists of the map.
module _ (p q : ℕ) (coefs rights : List ℤ) (lower : List ℕ) (some : 0 < q) (numbers : length coefs ≡ p * q) (k m : ℕ)
    (extended onto back above : List ℤ) (coefs' rights' : List ℤ) (lower' : List ℕ) where
  -- the other map is what the start writes
  abbrev pub sides_reformulation : Reformulation
  sides_reformulation =
      reformulation p (suc q) k m (sides_system p q coefs rights lower) extended (sides_system m (q + k) coefs' rights' lower') onto back above
