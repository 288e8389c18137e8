-- A call as its check decides: refused, with all that was lent left as it was, or done. Assumes nothing.
use Rattle.std.specs.Prelude.{◌≡◌, ℕ, List, length, Result, Ok, Err}
use Rattle.list_spec.specs.Form.{ListFile, written}
use Rattle.list_spec.specs.Writing.{write_checks, write_decided, write_list}
use Rattle.list_spec.proofs.RuleLaws.{write_in}
use Rattle.list_file.specs.Paper.{check_of}
use Rattle.list_file.specs.WordCheckLaws.{passes}
use Rattle.list_file.specs.declared.words.FileRefusal.{FileRefusal}
use Rattle.list_file.specs.WriteAnswer.{write_outcome}
use Rattle.list_file.specs.BlockLaws.{Writable}

module _ (l : ListFile) (out : List ℕ) {r : Result (Unit {0}) FileRefusal} (e : check_of r ≡ write_checks l (length out)) where
  pub write_refused : {why : FileRefusal} → r ≡ Err why → write_outcome (Err why) out ≡ write_list l out
  unfolding write_list write_decided
  write_refused g = rw (← e, g)

  pub write_done : {after : List ℕ} {done : Unit {0}} → r ≡ Ok done → after ≡ written l → write_outcome (Ok tt) after ≡ write_list l out
  unfolding write_list write_decided
  write_done g h = rw (← e, g, h)

  pub writable : {done : Unit {0}} → r ≡ Ok done → Writable l (length out)
  writable g = let (list, exact) = write_in l (length out) (passes e g) in record { list = list; exact = exact }
