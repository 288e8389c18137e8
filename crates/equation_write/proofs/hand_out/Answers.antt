-- `equation_write::hand_out` meets its contract. Assumes nothing.
use Rattle.equation_write.specs.CallLaws.{no_space_lem, handed_out}
use Rattle.equation_write.proofs.hand_out.Goals as goal

pub returns-then-out-text : goal.returns-then-out-text
returns-then-out-text c = no_space_lem c.args.text.now c.args.out.now c.if-out-text.true

pub returns : goal.returns
returns c =
    handed_out c.args.text.now c.args.out.now c.if-out-text.false c.word.ensures
