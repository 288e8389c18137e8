-- `reasons::in_list` meets its contract. Assumes nothing.
use Rattle.reasons.proofs.AnswerLaws.{above_at, stands_at, unlisted_at}
use Rattle.reasons.proofs.in_list.Goals as goal

pub returns-in-Some : goal.returns-in-Some
returns-in-Some c = stands_at _ _ _ _ c.standing.ensures c.in-Some.is

pub returns-in-Some-highest : goal.returns-in-Some-highest
returns-in-Some-highest c = above_at _ _ _ _ c.standing.ensures c.in-None.is c.highest.ensures c.in-Some-highest.is

pub returns-in-None-highest : goal.returns-in-None-highest
returns-in-None-highest c = unlisted_at _ _ _ _ c.standing.ensures c.in-None.is c.highest.ensures c.in-None-highest.is
