-- `decompose_within` meets its contract: the refusals decide first, then the equations. Assumes nothing.
use Rattle.std.proofs.Common.{sym}
use Rattle.definitions.specs.Refusals.{sizes}
use Rattle.calls.proofs.CallLaws.{handed_on}
use Rattle.multiples.proofs.Answers.{off_told}
use Rattle.multiples.proofs.AnswerLaws.{off_at, refused_at, solved_at, solves_fits}
use Rattle.multiples.proofs.decompose_within.Goals as goal

pub returns-in_err-k : goal.returns-in_err-k
returns-in_err-k c =
    let a = c.args in
    rw (handed_on c.from_residual.ensures)
    (refused_at (sizes a.equations a.unknowns) a.p a.q a.coefs.now a.list.now a.found a.t.now a.times.now
    (rw c.in_err-k.was at c.why_not.ensures))

pub apart-requires : goal.apart-requires
apart-requires c =
    let a = c.args in
    solves_fits (sizes a.equations a.unknowns) a.p a.q a.coefs.now a.list.now a.found a.t.now
    c.requires
    (rw (c.in_ok-k.was, c.in-None.is) at c.why_not.ensures)

pub returns-in-Some : goal.returns-in-Some
returns-in-Some c =
    let a = c.args in
    off_at (sizes a.equations a.unknowns) a.p a.q a.coefs.now a.list.now a.found a.t.now a.times.now
    (off_told c.requires a.p a.q a.coefs.now a.list.now a.found a.t.now
    (sym (rw (c.in_ok-k.was, c.in-Some.is) at c.why_not.ensures)))

pub returns-in-None : goal.returns-in-None
returns-in-None c =
    let a = c.args in
    solved_at (sizes a.equations a.unknowns) a.p a.q a.coefs.now a.list.now a.found a.t.now a.times.now
    (rw (c.in_ok-k.was, c.in-None.is) at c.why_not.ensures) c.apart.ensures
