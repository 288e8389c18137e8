-- A reason as one number, with the equation or the place that it comes with; and by how much the equation is off. Assumes nothing.
use Rattle.std.specs.Prelude.{ℕ, List, ℤ, set}
use Rattle.definitions.specs.Reasons.{Reason, above, off, refused, stands, unlisted, zero}
use Rattle.calls.specs.Codes.{code, refusal_code}

-- refusals keep their own numbers
abbrev pub reason_code : Reason → ℕ
reason_code zero = 120
reason_code (off k amount) = code 121 k
reason_code (stands n) = code 122 n
reason_code (above n) = code 123 n
reason_code unlisted = 124
reason_code (refused n values) = refusal_code n values

-- "and by what signed amount": what the number lent for it holds after
abbrev pub amount_after : Reason → List ℤ → List ℤ
amount_after zero held = held
amount_after (off k amount) held = set held 0 amount
amount_after (stands n) held = held
amount_after (above n) held = held
amount_after unlisted held = held
amount_after (refused n values) held = held

abbrev pub reason_told : Reason → List ℤ → ℕ × List ℤ
reason_told r held = (reason_code r, amount_after r held)
