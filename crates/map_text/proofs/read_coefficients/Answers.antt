-- `map_text::read_coefficients` meets its contract: what was read is accepted, or a line is not in the form. Assumes nothing.
use Rattle.map_text.proofs.AnswerLaws.{malformed_row}
use Rattle.std.proofs.lemmas.Result.{err_from_is_err_and}
use Rattle.map_text.proofs.read_coefficients.Goals as goal

pub returns-in_err-read_rows : goal.returns-in_err-read_rows
returns-in_err-read_rows c =
    let p = err_from_is_err_and c.from_residual.result c.from_residual.ensures.1 in
    rw (p.1, p.2) (malformed_row _ _ _ c.in_err-read_rows.ensures)
