-- `solved` meets its contract. Assumes nothing.
use Rattle.definitions.specs.System.{most_component}
use borrow.Author.Rules.{rules}
use Rattle.report_spec.specs.Printed as paper
use Rattle.report_spec.proofs.RunLaws.{ran_is, ran_fits}
use Rattle.report.proofs.solved.Goals as goal

pub ran-requires : goal.ran-requires
ran-requires c =
    let a = c.args in
    let run = ran_is a.p a.q a.coefs.now _ (rw c.new-blank.ensures at (c.started-begun.ensures most_component)) c.resumed-ended.ensures in
    (search rules, ran_fits a.p a.q a.coefs.now run, search rules)

pub returns : goal.returns
unfolding paper.run_text
returns c =
    let a = c.args in
    rw (← ran_is a.p a.q a.coefs.now _ (rw c.new-blank.ensures at (c.started-begun.ensures most_component)) c.resumed-ended.ensures) c.ran.ensures
