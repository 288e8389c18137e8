-- Theorems about what specs/Records.antt defines. Assumes nothing.
use Rattle.std.specs.Prelude.{T}
use Rattle.definitions.specs.Tables.{Record, desk_by_desk}
use Rattle.laws.proofs.RefusalLaws.{run_from, run_to}
use Rattle.desk_spec.specs.Records.{IsDesk, is_desk}

pub desk_is : (r : Record) → T (is_desk r) → IsDesk r
desk_is r h = run_from r.kind desk_by_desk h

pub is_desk_lem : (r : Record) → IsDesk r → T (is_desk r)
is_desk_lem r e = run_to r.kind desk_by_desk e
