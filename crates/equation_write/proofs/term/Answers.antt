-- `equation_write::term` meets its contract. Assumes nothing.
use mathlib.Core.Path.{ap, ◌∙◌}
use native.Mathlib.Omega.{arith}
use lib.IntN.{pos, nat_abs}
use lib.Signed.{lt_z}
use mir.Syntax.{w32}
use mir.Val.{of_z, to_z}
use mir.Facts.{to_z-of_z}
use Rattle.texts.proofs.PutTheorems.{put_then}
use Rattle.equation_spec.proofs.WriteLaws.{multiple_short}
use Rattle.equation_write.specs.TextLaws.{lead_short, negative_is}
use Rattle.equation_write.proofs.term.Goals as goal

pub multiple-requires : goal.multiple-requires
multiple-requires c = let e = c.size.ensures ∙ ap nat_abs (to_z-of_z c.ranges.c) in (
  rw e c.requires.0,
  rw e (omega (
    arith,
    c.lead-next.ensures.place,
    c.lead-next.ensures.same,
    lead_short c.args.first (lt_z (to_z w32 (of_z w32 c.args.c)) (pos 0)),
    multiple_short (nat_abs c.args.c) c.args.k c.requires.1 c.requires.2,
    c.requires.3,
  )),
)

pub returns : goal.returns
returns c = let e = c.size.ensures ∙ ap nat_abs (to_z-of_z c.ranges.c) in
    put_then (rw (to_z-of_z c.ranges.c, negative_is c.args.c) at c.lead-next.ensures) (rw e at c.multiple.ensures)
