-- `value_of` meets its contract: a refusal of a call has its value. Assumes nothing.
use mathlib.Core.Path.{◌∙◌, sym, ap}
use Rattle.calls.specs.Paper.{value}
use Rattle.single_listing.specs.Listed.{values_of}
use Rattle.single_listing.proofs.value_of.Goals as goal

pub returns-in-Call : goal.returns-in-Call
returns-in-Call c = c.value_of.ensures ∙ sym (ap (λ why. value (values_of why)) c.in-Call.is)
