-- The checks of a question, as code makes them: the tests that were made, and the refusal that they give. Assumes nothing.
use Rattle.std.specs.Prelude.{List, ℕ, ℤ}
use Rattle.definitions.specs.Answers.{Check, ◌then◌, refuse_if}
use Rattle.definitions.specs.Input.{input_of}
use Rattle.definitions.specs.Reasons.{check_count, reason_checks}
use Rattle.definitions.specs.Refusals.{Sizes, check5, check7, check8}
use Rattle.definitions.specs.System.{most_component}
use Rattle.checks.specs.Coefficients.{coefficient_checks}
use Rattle.checks.specs.Shape.{above_limit}

-- 7, then 8
abbrev pub range_checks : List ℤ → List ℕ → Check
range_checks coefs t = coefficient_checks coefs then refuse_if (above_limit most_component t) 8

module _ (s : Sizes) (p q : ℕ) (coefs : List ℤ) (list : List ℕ) (found : ℕ) (t : List ℕ) where
  abbrev pub asked : Check
  asked = reason_checks s (input_of p q coefs) list found t

  abbrev pub own : Check
  own = check5 (input_of p q coefs) t then check_count (input_of p q coefs) list found then check7 (input_of p q coefs) then check8 (input_of p q coefs) t
