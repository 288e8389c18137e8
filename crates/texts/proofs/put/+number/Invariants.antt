-- The measure of `number` is the number: the digits before the last are those of a tenth.
use Rattle.texts.proofs.put.+number.Given as goal

abbrev pub decreases-number : goal.decreases-number
decreases-number l = l.n
