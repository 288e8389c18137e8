-- `lines::make` meets its contract. The parts of the line follow one another. Assumes nothing.
use native.Mathlib.Omega.{arith}
use Rattle.std.proofs.Common.{length-take-le, refl}
use Rattle.texts.proofs.PutTheorems.{put_then}
use Rattle.single_listing.specs.Lines.{line_made, no_line}
use Rattle.single_listing.proofs.lines.make.Goals as goal

pub returns-in_err-size : goal.returns-in_err-size
returns-in_err-size c = rw c.from_residual.ensures (no_line c.in_err-size.ensures)

pub returns : goal.returns
returns c =
    line_made c.in_ok-size.ensures c.requires.0 c.requires.2
    (put_then c.rising-named.ensures.put (put_then c.word-word.ensures (put_then c.ordered-end.ensures.put c.byte.ensures)))
    (omega (
      arith,
      c.byte.ensures.place,
      c.ordered-end.ensures.upper_bound,
      c.rising-named.ensures.upper_bound,
      c.word-word.ensures.place,
      (c.in_ok-size.ensures.ordered _ refl).few,
      length-take-le c.in_ok-size.size c.order_of.new.order,
    ))
