-- A start without a lower bound does not depend on the limit of components. Assumes nothing.
use Rattle.std.specs.Prelude.{ℕ, List, ◌≡◌, ℤ}
use Rattle.definitions.specs.Calls.{start}
use Rattle.definitions.specs.Input.{alone, input_of, input_with}
use Rattle.definitions.specs.Machine as paper
use Rattle.definitions.specs.Refusals.{check7, start_checks}
use Rattle.definitions.specs.Tables.{State, units_start}

pub for_every : (p q : ℕ) (coefs : List ℤ) (s : State) {o : paper.Outcome State} → o ≡ start (input_of p q coefs) s → (limit : ℕ)
    → o ≡ start (input_with alone limit p q coefs) s
unfolding start start_checks check7 units_start
for_every p q coefs s e limit = e
