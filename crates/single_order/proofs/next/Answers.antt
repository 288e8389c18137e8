-- `next` meets its contract. Assumes nothing.
use Rattle.std.proofs.Common.{rules, refl}
use borrow.Author.Tests.{tests}
use Rattle.single_spec.specs.Graph.{leaving}
use Rattle.single_order.proofs.RangeLaws.{found_in_range}
use Rattle.single_order.specs.Rows.{map_of, same_node}
use Rattle.single_order.proofs.next.Goals as goal

pub returns : goal.returns
unfolding leaving
returns c =
    found_in_range _ c.find.ensures.ran refl
    (λ x b q k. search (rules, tests, c.node-head.ensures, same_node (map_of c.args.p c.args.q c.args.coefs.now) x c.args.j))
