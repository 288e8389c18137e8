-- `lines::write` meets its contract. The line that was made is copied. Assumes nothing.
use native.Mathlib.Omega.{arith}
use mathlib.Core.Path.{sym}
use lib.Seq.{length-take-le}
use Rattle.single_listing.specs.Lines.{line_there}
use Rattle.single_listing.proofs.lines.write.Goals as goal

pub unwrap-n-requires : goal.unwrap-n-requires
unwrap-n-requires c = line_there c.make.ensures c.requires.2.minimal

pub slice_bounds-line-end : goal.slice_bounds-line-end
slice_bounds-line-end c = let made = c.make.ensures.made _ c.unwrap-n.ensures in omega (arith, made.few)

pub slice_bounds-word-end : goal.slice_bounds-word-end
slice_bounds-word-end c = let made = c.make.ensures.made _ c.unwrap-n.ensures in sym (length-take-le _ _ made.inside)

pub word-requires : goal.word-requires
word-requires c = let made = c.make.ensures.made _ c.unwrap-n.ensures in rw made.text (omega (arith, c.requires.2.fits))

pub returns : goal.returns
returns c = let made = c.make.ensures.made _ c.unwrap-n.ensures in rw made.text at c.word.ensures
