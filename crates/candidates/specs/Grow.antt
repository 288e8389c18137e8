-- A step's children, made of the data that code has at hand: the top's tuple, and the unknowns that may make one as marks.
-- (`Step` of the definitions says the same of a state; `StateLaws` links the two.) Assumes nothing.
use Rattle.std.specs.Prelude.{ℕ, Bool, not, ◌&&◌}
use Rattle.linear.specs.Tuples.{raise}
use Rattle.definitions.specs.System.{Kind, above, capped, covered, plain}
use Rattle.definitions.specs.Tables.{State, frozen}
use Rattle.laws.specs.StepLaws.{first_open, second_open}
use Rattle.table_rows.specs.Rows.{part}

-- the candidates that the cap and the second list leave
unfoldable pub open_for : Kind → ℕ → State → (ℕ → ℕ) → ℕ → ℕ → Bool
open_for k q s t candidates j = frozen candidates j && second_open k q s (raise t j)

-- Raising unknown j makes a child of the tuple t: j is one of the candidates, those that are not frozen and have an inner product below zero;
-- the cap and the second list leave it admitted; and the first list does.
unfoldable pub child_for : Kind → ℕ → State → (ℕ → ℕ) → ℕ → ℕ → Bool
child_for k q s t candidates j = (frozen candidates j && second_open k q s (raise t j)) && first_open k q s (raise t j)

-- one of `admitted` is left by a list whose rows of w numbers stand for those of a tuple from a place on
unfoldable pub child_by : ℕ → ℕ → ℕ → (ℕ → ℕ → ℕ) → (ℕ → ℕ) → ℕ → ℕ → Bool
child_by w from found row t admitted j = frozen admitted j && not (covered w found row (part from (raise t j)))

-- the place from which the first list's rows stand for a tuple
abbrev pub place_in : Kind → ℕ
place_in plain = 0
place_in capped = 1
place_in (above f) = 0
