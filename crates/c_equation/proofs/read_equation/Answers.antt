-- `c_equation::read_equation` meets its contract: each answer as its number. Assumes nothing.
use Rattle.c_equation.proofs.CodeLaws.{read_refusal_fits, read_refused_told, read_told_lem}
use Rattle.c_equation.proofs.read_equation.Goals as goal

pub refusal-requires : goal.refusal-requires
refusal-requires c =
    read_refusal_fits c.args.q c.args.text.now c.args.row.now _ _ c.read_equation.ensures c.in-Err.is

pub returns-in-Ok : goal.returns-in-Ok
returns-in-Ok c =
    read_told_lem c.args.q c.args.text.now c.args.row.now _ _ c.read_equation.ensures c.args.side.now c.in-Ok.is

pub returns-in-Err : goal.returns-in-Err
returns-in-Err c =
    read_refused_told c.args.q c.args.text.now c.args.row.now _ _ c.read_equation.ensures c.args.side.now
    c.in-Err.is c.refusal.ensures
