-- `list_file::words::signed` meets its contract: a word in the upper half is one less than the negation of what it lacks. Assumes nothing.
use Rattle.std.proofs.Common.{◌-◌, ◌^◌, ◌<◌, arith, to_z-of_z}
use Rattle.list_file.specs.SignLaws.{natural_word, negative_fits, one_less, negative_word}
use Rattle.list_file.proofs.words.signed.Goals as goal
use Rattle.list_file.proofs.words.signed.Goals.{Else-w-lt2147483648}

small : (c : Else-w-lt2147483648) → 4294967295 - c.args.w < 2 ^ 31
small c = omega arith

pub overflow_sub-result : goal.overflow_sub-result
overflow_sub-result c = rw (natural_word _ (small c), one_less) (negative_fits _ (small c))

pub returns-else-w-lt2147483648 : goal.returns-else-w-lt2147483648
returns-else-w-lt2147483648 c = rw (natural_word _ (small c), one_less, to_z-of_z (negative_fits _ (small c))) (negative_word _ c.if-w-lt2147483648.false)
