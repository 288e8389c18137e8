-- `reasons::explain_within` meets its contract: the refusals decide first. Assumes nothing.
use Rattle.laws.proofs.ReasonLaws.{reason_askable}
use Rattle.calls.proofs.CallLaws.{handed_on, passes}
use Rattle.reasons.proofs.Amounts.{asked_largely}
use Rattle.reasons.proofs.AnswerLaws.{passed_at, refused_at}
use Rattle.reasons.proofs.explain_within.Goals as goal

pub returns-in_err-check : goal.returns-in_err-check
returns-in_err-check c = rw (handed_on c.from_residual.ensures) (refused_at _ _ _ _ _ c.check.ensures c.in_err-check.was)

pub first_true-requires : goal.first_true-requires
first_true-requires c = asked_largely c.requires (reason_askable _ _ _ _ _ (passes c.check.ensures c.in_ok-check.was))

pub returns : goal.returns
returns c = passed_at _ _ _ _ _ c.check.ensures c.in_ok-check.was c.first_true.ensures
