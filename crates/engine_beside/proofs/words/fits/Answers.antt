-- `words::fits` meets its contract: the guards alone are no less than a word. Assumes nothing.
use mathlib.Core.Path.{refl}
use native.Mathlib.Omega.{arith}
use lib.Bits.{and_le_l, or_add_and}
use Rattle.engine_spec.specs.Words.{digits, fits as fits_word, guards}
use Rattle.engine_beside.proofs.words.fits.Goals as goal

pub overflow_sub-result : goal.overflow_sub-result
overflow_sub-result c = omega (arith, or_add_and c.args.b 9838263505978427528, and_le_l c.args.b 9838263505978427528)

pub returns : goal.returns
unfolding fits_word guards digits
returns c = refl
