-- `answers::number` meets its contract. Assumes nothing.
use mathlib.Core.Path.{◌∙◌, sym, ap}
use Rattle.calls.specs.Paper.{answer_of}
use Rattle.c_record.specs.Codes.{code}
use Rattle.c_record.proofs.answers.number.Goals as goal

pub refusal-requires : goal.refusal-requires
refusal-requires c = rw c.in-Refused.is at c.requires

pub returns-in-Refused : goal.returns-in-Refused
returns-in-Refused c = c.refusal.ensures ∙ sym (ap (λ a. code (answer_of a)) c.in-Refused.is)
