-- A check that was made, r, and the checks that come after it. Assumes nothing.
use Rattle.std.specs.Prelude.{◌≡◌, Result, Ok, Err}
use Rattle.std.proofs.Common.{sym, ap, ◌∙◌}
use Rattle.definitions.specs.Answers as paper
use Rattle.definitions.specs.Answers.{◌then◌}
use Rattle.list_file.specs.Paper.{check_of}
use Rattle.list_file.specs.declared.words.FileRefusal.{FileRefusal}

module _ {r : Result (Unit {0}) FileRefusal} {a : paper.Check} (b : paper.Check) where
  pub refused_first : {why : FileRefusal} → r ≡ Err why → check_of r ≡ a → check_of (Err why) ≡ a then b
  unfolding ◌then◌
  refused_first g e = rw (← e, g)

  pub passed_first : {done : Unit {0}} → r ≡ Ok done → check_of r ≡ a → b ≡ a then b
  unfolding ◌then◌
  passed_first g e = rw (← e, g)

-- a check that passed
pub passes : {r : Result (Unit {0}) FileRefusal} {a : paper.Check} {done : Unit {0}} → check_of r ≡ a → r ≡ Ok done → a ≡ paper.go
passes e h = sym e ∙ ap check_of h

-- a check that refused
pub refuses : {r : Result (Unit {0}) FileRefusal} {a : paper.Check} {why : FileRefusal} → check_of r ≡ a → r ≡ Err why → check_of (Err why) ≡ a
refuses e h = sym (ap check_of h) ∙ e
