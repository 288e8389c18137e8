-- `number_of` meets its contract: a refusal of a call has its number. Assumes nothing.
use mathlib.Core.Path.{◌∙◌, sym, ap}
use Rattle.single_listing.specs.Listed.{number_of}
use Rattle.single_listing.proofs.number_of.Goals as goal

pub returns-in-Call : goal.returns-in-Call
returns-in-Call c = c.number_of.ensures ∙ sym (ap number_of c.in-Call.is)
