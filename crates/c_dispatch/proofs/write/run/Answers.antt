-- `c_dispatch::write::run` meets its contract. Assumes nothing.
use mathlib.Core.Path.{◌∙◌, ap}
use native.Mathlib.Omega.{arith}
use lib.ListN.{length, length-set}
use Rattle.c_dispatch.specs.Words.{write_run}
use Rattle.c_dispatch.proofs.WordLaws.{record_length}
use Rattle.c_dispatch.proofs.write.run.Goals as goal

pub bounds-words-at-2 : goal.bounds-words-at-2
bounds-words-at-2 c =
    let e = ap length c.record.ensures ∙ record_length _ _ _ in
    rw length-set (omega (arith, e, c.requires))

pub returns : goal.returns
unfolding write_run
returns c =
    rw (c.place.ensures, c.number.ensures, c.record.ensures)
