-- `refused` meets its contract. Assumes nothing.
use Rattle.report_spec.specs.Printed as paper
use Rattle.report.proofs.refused.Goals as goal

pub returns-in-Equations : goal.returns-in-Equations
unfolding paper.refusal_text
returns-in-Equations c = rw c.in-Equations.is c.counted.ensures.put

pub returns-in-Unknowns : goal.returns-in-Unknowns
unfolding paper.refusal_text
returns-in-Unknowns c = rw c.in-Unknowns.is c.counted-in-Unknowns.ensures.put

pub returns-in-Coefficient : goal.returns-in-Coefficient
unfolding paper.refusal_text
returns-in-Coefficient c = rw c.in-Coefficient.is c.refused_with.ensures

pub returns-in-Form : goal.returns-in-Form
unfolding paper.refusal_text
returns-in-Form c = rw c.in-Form.is c.refused_with-in-Form.ensures

pub returns-in-Length : goal.returns-in-Length
unfolding paper.refusal_text
returns-in-Length c = rw c.in-Length.is c.counted-in-Length.ensures.put
