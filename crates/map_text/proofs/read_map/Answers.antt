-- `map_text::read_map` meets its contract: the length, the first line, and what follows it. Assumes nothing.
use Rattle.std.proofs.Common.{pos, get_or, w32, rules, to_z-of_z}
use Rattle.map_text.proofs.StageLaws.{first_parsed}
use Rattle.map_text.proofs.AnswerLaws.{too_long, first_malformed}
use Rattle.map_text.proofs.read_map.Goals as goal

pub returns-then-text-gt4096 : goal.returns-then-text-gt4096
returns-then-text-gt4096 c = too_long _ _ c.if-text-gt4096.true

pub returns-in_default : goal.returns-in_default
returns-in_default c = first_malformed _ _ c.if-text-gt4096.false c.in_default.ensures

pub returns : goal.returns
returns c =
    let counts = c.read_line.new.coefs in
    let word-p = to_z-of_z {w = w32} {z = get_or counts 0 (pos 0)} (search rules) in
    let word-q = to_z-of_z {w = w32} {z = get_or counts 1 (pos 0)} (search rules) in
    rw (← first_parsed c.args.text.now counts c.if-text-gt4096.false c.in-Some.ensures) (rw (word-p, word-q) at c.read_body.ensures)
