-- `apart` meets its contract: nothing is left, or something is. Assumes nothing.
use lib.ListN.{replicate}
use borrow.Author.Rules.{rules}
use Rattle.multiples.proofs.AnswerLaws.{made_at, no_space_at, unlisted_at, written_long, written_same}
use Rattle.multiples.proofs.apart.Goals as goal

pub returns-then-times-found : goal.returns-then-times-found
returns-then-times-found c = let a = c.args in no_space_at a.q a.found a.list.now a.t.now a.times.now c.if-times-found.true

pub take-requires : goal.take-requires
take-requires c =
    (c.requires.2, rw (written_long c.args.q (replicate 32 0) c.args.t.now c.write.ensures) c.requires.0, search rules)

pub returns-then-vanishes : goal.returns-then-vanishes
returns-then-vanishes c =
    let a = c.args in
    made_at a.q a.found a.list.now a.t.now a.times.now (search rules)
    (written_same a.q (replicate 32 0) a.t.now (search rules) c.write.ensures)
    c.take.ensures.left c.take.ensures.times_after c.vanishes.ensures c.if-vanishes.true

pub returns : goal.returns
returns c =
    let a = c.args in
    unlisted_at a.q a.found a.list.now a.t.now a.times.now (search rules)
    (written_same a.q (replicate 32 0) a.t.now (search rules) c.write.ensures)
    c.take.ensures.left c.take.ensures.times_after c.vanishes.ensures c.if-vanishes.false
