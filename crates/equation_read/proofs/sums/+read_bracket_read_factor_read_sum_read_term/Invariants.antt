-- The depth falls with each bracket, and the text that is left with each term of a sum. Assumes nothing.
use Rattle.std.proofs.Common.{◌+◌, ◌*◌, ◌-◌, length}
use Rattle.equation_read.specs.SumLaws.{Due}
use Rattle.equation_read.proofs.sums.+read_bracket_read_factor_read_sum_read_term.Given as goal

abbrev pub decreases-read_bracket : goal.decreases-read_bracket
decreases-read_bracket l = 4 * l.depth

abbrev pub decreases-read_factor : goal.decreases-read_factor
decreases-read_factor l = 4 * l.depth + 1

abbrev pub decreases-read_sum : goal.decreases-read_sum
decreases-read_sum l = 4 * l.depth + 3

abbrev pub decreases-read_term : goal.decreases-read_term
decreases-read_term l = 4 * l.depth + 2

abbrev pub invariant-read_sum-loop-term : goal.invariant-read_sum-loop-term
invariant-read_sum-loop-term l = Due l.q l.depth l.text l.at l.times l.initial.totals l.totals l.next l.minus l.exceeds

abbrev pub decreases-read_sum-loop-term : goal.decreases-read_sum-loop-term
decreases-read_sum-loop-term l = length l.text - l.next
