-- `lines::after_space` meets its contract. An unknown has at most two digits. Assumes nothing.
use native.Mathlib.Omega.{arith}
use Rattle.texts.proofs.PutTheorems.{put_then}
use Rattle.single_listing.specs.Lines.{two_digits}
use Rattle.single_listing.proofs.lines.after_space.Goals as goal

pub number-requires : goal.number-requires
number-requires c =
    omega (arith, c.byte-digits.ensures.place, c.byte-digits.ensures.same, two_digits c.args.j c.requires.0)

pub returns : goal.returns
returns c =
    record {
      put = put_then c.byte-digits.ensures c.number.ensures;
      upper_bound = omega (arith, c.byte-digits.ensures.place, c.number.ensures.place, two_digits c.args.j c.requires.0);
    }
