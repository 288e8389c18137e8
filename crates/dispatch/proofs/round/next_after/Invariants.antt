-- `dispatch::round::next_after` meets its contract. Assumes nothing.
use Rattle.dispatch.specs.Form.{stays_for}
use Rattle.dispatch.specs.Asking.{Asking}
use Rattle.dispatch.proofs.round.next_after.Given as goal

abbrev pub invariant-loop-k : goal.invariant-loop-k
invariant-loop-k l = Asking l.count l.last (stays_for l.progress) l.start l.k
