-- A check that was made, r, and the checks that come after it. Assumes nothing.
use Rattle.std.specs.Prelude.{ℕ, List, ◌≡◌, ℤ, length, Result, Ok, Err}
use Rattle.std.proofs.Common.{◌∙◌}
use Rattle.definitions.specs.Answers as paper
use Rattle.definitions.specs.Answers.{◌then◌}
use Rattle.definitions.specs.Input.{Extra, input_with}
use Rattle.definitions.specs.Refusals.{shape_then}
use Rattle.definitions.specs.Tables.{State}
use Rattle.calls.specs.declared.Refusal.{Refusal}
use Rattle.calls.specs.Paper.{check_of}
use Rattle.checks.specs.Shape.{extra_unknowns, shape_checks, shape_then_lem, sides_of}

module _ {r : Result (Unit {0}) Refusal} {a : paper.Check} (b : paper.Check) where
  pub refused_first : {why : Refusal} → r ≡ Err why → check_of r ≡ a → check_of (Err why) ≡ a then b
  unfolding ◌then◌
  refused_first g e = rw (← e, g)

  pub passed_first : {x : Unit {0}} → r ≡ Ok x → check_of r ≡ a → b ≡ a then b
  unfolding ◌then◌
  passed_first g e = rw (← e, g)

-- ---- the check of a call's shape

module _ (e : Extra) (limit p q : ℕ) (coefs : List ℤ) (s : State) (own : paper.Check) {r : Result (Unit {0}) Refusal} where
  pub shape_refused : {why : Refusal} → r ≡ Err why → check_of r ≡ shape_checks p q (extra_unknowns e) (length coefs) (sides_of e p) (length s.stack)
      → check_of (Err why) ≡ shape_then (input_with e limit p q coefs) s own
  shape_refused g l = refused_first own g l ∙ shape_then_lem e limit p q coefs s own

  pub shape_passed : {x : Unit {0}} {c : paper.Check} → r ≡ Ok x
      → check_of r ≡ shape_checks p q (extra_unknowns e) (length coefs) (sides_of e p) (length s.stack)
      → c ≡ own → c ≡ shape_then (input_with e limit p q coefs) s own
  shape_passed g l h = h ∙ passed_first own g l ∙ shape_then_lem e limit p q coefs s own
