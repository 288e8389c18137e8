-- A call as its check decides: refused, with all that was lent left as it was, or done. Assumes nothing.
use Rattle.std.specs.Prelude.{◌≡◌, Result, Ok, Err}
use Rattle.std.proofs.Common.{sym, ◌∙◌, ap, refl}
use Rattle.std.proofs.lemmas.Result.{err_from_is_err_and}
use Rattle.std.specs.Result.{IsErr, IsErrAnd}
use Rattle.definitions.specs.Answers as paper
use Rattle.definitions.specs.Machine as machine
use Rattle.calls.specs.Paper.{number_of, values_of, check_of}
use Rattle.calls.specs.declared.Refusal.{Refusal}

module _ {r : Result (Unit {0}) Refusal} {c : paper.Check} (e : check_of r ≡ c) {S : Type 0} (s : S) (work : S → machine.Outcome S) where
  pub call_refused : {why : Refusal} → r ≡ Err why → record { answer = paper.refused (number_of why) (values_of why); state = s } ≡ machine.checked c s work
  unfolding machine.checked
  call_refused h = rw (← e, h)

  pub call_passed : {x : Unit {0}} → r ≡ Ok x → {o : machine.Outcome S} → o ≡ work s → o ≡ machine.checked c s work
  unfolding machine.checked
  call_passed h g = rw (← e, h) g

-- what a `?` hands on where it ends a function: the error of the call, as it is
pub handed_on : {T E : Type 0} {r : Result T E} {why : E} → IsErr r × IsErrAnd r (λ e. e ≡ why) → r ≡ Err why
handed_on {r} {why} h = let p = err_from_is_err_and r h.1 in rw (p.1, p.2) refl

-- a check that passed
pub passes : {r : Result (Unit {0}) Refusal} {c : paper.Check} {x : Unit {0}} → check_of r ≡ c → r ≡ Ok x → c ≡ paper.go
passes e h = sym e ∙ ap check_of h
