-- A call as its check decides: refused, with all that was lent left as it was, or done. Assumes nothing.
use Rattle.std.specs.Prelude.{◌≡◌, ℕ, List, length, ℤ, Result, Ok, Err}
use Rattle.std.proofs.Common.{arith}
use Rattle.list_spec.specs.Reading.{ReadOutcome, list_in, read_checks, handed_out, read_decided, read_file}
use Rattle.list_spec.proofs.RuleLaws.{read_in}
use Rattle.list_file.specs.Paper.{check_of}
use Rattle.list_file.specs.WordCheckLaws.{passes}
use Rattle.list_file.specs.declared.words.FileRefusal.{FileRefusal}
use Rattle.list_file.specs.ReadAnswer.{read_outcome}
use Rattle.list_file.specs.ReadLaws.{Readable, coefs_few, numbers_few}

module _ (file : List ℕ) (coefs : List ℤ) (list : List ℕ) {r : Result (Unit {0}) FileRefusal} (e : check_of r ≡ read_checks file (length coefs) (length list))
  where
    pub read_refused : {why : FileRefusal} → r ≡ Err why → read_outcome (Err why) coefs list ≡ read_file file coefs list
    unfolding read_file read_decided
    read_refused g = rw (← e, g)

    pub read_done : {o : ReadOutcome} {done : Unit {0}} → r ≡ Ok done → o ≡ handed_out (list_in file) coefs list → o ≡ read_file file coefs list
    unfolding read_file read_decided
    read_done g h = rw (← e, g) h

    pub readable : {done : Unit {0}} → r ≡ Ok done → Readable file (length coefs) (length list)
    readable g =
        let (order, coef_room, list_room) = read_in file (length coefs) (length list) (passes e g) in
        record {
          order = order;
          coef_room = coef_room;
          list_room = list_room;
          few = omega (arith, coefs_few order.header.range, numbers_few order.header.range);
        }
