-- `equation_systems::read_equations` meets its contract: what was read is handed out, or a line is refused. Assumes nothing.
use Rattle.std.proofs.lemmas.Result.{err_from_is_err_and}
use Rattle.equation_systems.specs.CallLaws.{bad_line, lines_accepted}
use Rattle.equation_systems.proofs.read_equations.Goals as goal

pub returns-in_err-read_lines : goal.returns-in_err-read_lines
returns-in_err-read_lines c =
    let p = err_from_is_err_and c.from_residual.result c.from_residual.ensures.1 in
    rw p.1 (bad_line _ _ _ _ _ _ c.in_err-read_lines.field-0.0 _ p.2 c.in_err-read_lines.ensures)

pub returns : goal.returns
returns c = lines_accepted _ _ _ _ c.in_ok-read_lines.ensures c.hand_out.ensures
