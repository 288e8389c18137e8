-- The answers in the definition's terms, as one number for C, and why a tuple is not taken apart. Assumes nothing.
use Rattle.std.specs.Prelude.{List, ◌≡◌, ℕ, ℤ, set, Option, Some, None, Result, Ok, Err}
use Rattle.definitions.specs.Reasons as why
use Rattle.multiples_spec.specs.Parts as paper
use Rattle.multiples_spec.specs.Parts.{parts_number}
use Rattle.calls.specs.Codes.{code}
use Rattle.calls.specs.Paper.{number_of, value, values_of}
use Rattle.calls.specs.declared.Refusal.{Refusal}
use Rattle.multiples.specs.declared.Parts.{Parts}
use Rattle.multiples.specs.declared.Parts.TheVariants.{Made, Off, Unlisted, NoSpace}

abbrev pub parts_of : Result Parts Refusal → paper.Parts
parts_of (Ok Made) = paper.made
parts_of (Ok (Off k amount)) = paper.off k amount
parts_of (Ok Unlisted) = paper.unlisted
parts_of (Ok NoSpace) = paper.no_space
parts_of (Err cause) = paper.refused (number_of cause) (values_of cause)

abbrev pub outcome_of : Result Parts Refusal → List ℕ → paper.Outcome
outcome_of r times = record { answer = parts_of r; times = times }

-- the equation that is off, or the value of a refusal
abbrev pub parts_place : paper.Parts → ℕ
parts_place paper.made = 0
parts_place (paper.off k amount) = k
parts_place paper.unlisted = 0
parts_place paper.no_space = 0
parts_place (paper.refused n values) = value values

-- what the number lent for the amount holds after
abbrev pub amount_after : paper.Parts → List ℤ → List ℤ
amount_after paper.made held = held
amount_after (paper.off k amount) held = set held 0 amount
amount_after paper.unlisted held = held
amount_after paper.no_space held = held
amount_after (paper.refused n values) held = held

abbrev pub parts_told : paper.Outcome → List ℤ → ℕ × (List ℕ × List ℤ)
parts_told o held = (code (parts_number o.answer) (parts_place o.answer), (o.times, amount_after o.answer held))

-- a reason of a tuple that is a solution
abbrev pub Solves : why.Reason → Type 0
Solves why.zero = Unit {0}
Solves (why.off k amount) = ⊥
Solves (why.stands n) = Unit {0}
Solves (why.above n) = Unit {0}
Solves why.unlisted = Unit {0}
Solves (why.refused n values) = ⊥

-- why a tuple is not taken apart: the equation that is off with its amount, or the refusal; or that it is
abbrev pub ExcuseIs : why.Reason → Result (Option (ℕ × ℤ)) Refusal → Type 0
ExcuseIs r (Ok None) = Solves r
ExcuseIs r (Ok (Some off)) = r ≡ why.off off.0 off.1
ExcuseIs r (Err cause) = r ≡ why.refused (number_of cause) (values_of cause)
