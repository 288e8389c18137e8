-- `lines::before_space` meets its contract. An unknown has at most two digits. Assumes nothing.
use native.Mathlib.Omega.{arith}
use Rattle.texts.proofs.PutTheorems.{put_then}
use Rattle.single_listing.specs.Lines.{two_digits}
use Rattle.single_listing.proofs.lines.before_space.Goals as goal

pub number-end-requires : goal.number-end-requires
number-end-requires c =
    omega (arith, two_digits c.args.j c.requires.0)

pub byte-requires : goal.byte-requires
byte-requires c =
    omega (arith, c.number-end.ensures.place, c.number-end.ensures.same, two_digits c.args.j c.requires.0)

pub returns : goal.returns
returns c =
    record {
      put = put_then c.number-end.ensures c.byte.ensures;
      upper_bound = omega (arith, c.byte.ensures.place, c.number-end.ensures.place, two_digits c.args.j c.requires.0);
    }
