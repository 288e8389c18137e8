-- The answers in document 02's terms: for each case its reason, with its values, or document 01's number and values of a refusal; and what the first
-- equation that is off comes to. Assumes nothing.
use Rattle.std.specs.Prelude.{◌≡◌, ℕ, ◌-◌, ℤ, Option, Some, None, Result, Ok, Err}
use Rattle.std.proofs.Math.Option.{some, none}
use Rattle.definitions.specs.Reasons as paper
use Rattle.definitions.specs.System.{System, image_of}
use Rattle.calls.specs.Paper.{number_of, values_of}
use Rattle.calls.specs.declared.Refusal.{Refusal}
use Rattle.reasons.specs.declared.Reason.{Reason}
use Rattle.reasons.specs.declared.Reason.TheVariants.{Zero, Off, Stands, Above, Unlisted}

abbrev pub reason_of : Reason → paper.Reason
reason_of Zero = paper.zero
reason_of (Off k amount) = paper.off k amount
reason_of (Stands n) = paper.stands n
reason_of (Above n) = paper.above n
reason_of Unlisted = paper.unlisted

-- of a question that may be refused
abbrev pub answer_of : Result Reason Refusal → paper.Reason
answer_of (Ok r) = reason_of r
answer_of (Err why) = paper.refused (number_of why) (values_of why)

-- what is told of the first equation that is off
abbrev pub OffIs : System → (ℕ → ℕ) → Option (ℕ × ℤ) → Type 0
OffIs m x None = paper.first_off m x ≡ none
OffIs m x (Some off) = (paper.first_off m x ≡ some off.0) × (off.1 ≡ image_of m x (off.0 - 1))
