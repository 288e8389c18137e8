-- `texts::put::number` meets its contract: the digits before the last are those of a tenth. Assumes nothing.
use native.Mathlib.Omega.{arith}
use Rattle.texts.proofs.DecimalLaws.{decimal_digit, decimal_more, digits_more, digits_one}
use Rattle.texts.proofs.PutTheorems.{put_then}
use Rattle.texts.proofs.put.+number.Goals as goal

pub byte-requires : goal.byte-requires
byte-requires t c = omega (arith, digits_one c.args.n c.if-n-lt10.true)

pub returns-then-n-lt10 : goal.returns-then-n-lt10
returns-then-n-lt10 t c = rw (decimal_digit _ c.if-n-lt10.true) c.byte.ensures

pub number-next-requires : goal.number-next-requires
number-next-requires t c = (omega arith, omega (arith, digits_more c.args.n c.if-n-lt10.false))

pub byte-requires-2 : goal.byte-requires-2
byte-requires-2 t c = omega (arith, c.number-next.ensures.place, c.number-next.ensures.same, digits_more c.args.n c.if-n-lt10.false)

pub returns : goal.returns
returns t c = rw (decimal_more _ c.if-n-lt10.false) (put_then c.number-next.ensures c.byte-2.ensures)
