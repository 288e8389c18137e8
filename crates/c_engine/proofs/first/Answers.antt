-- `first` meets its contract. Assumes nothing.
use mathlib.Core.Path.{◌∙◌, sym}
use Rattle.calls.specs.Paper.{values_of}
use Rattle.c_engine.specs.WordLaws.{number_instead, place_instead}
use Rattle.c_engine.proofs.first.Goals as goal

pub returns-then-n-eq7 : goal.returns-then-n-eq7
returns-then-n-eq7 c = place_instead _ (values_of c.args.why) (sym c.number_of-n.ensures ∙ c.if-n-eq7.true)

pub returns : goal.returns
returns c =
    c.number_of-n.ensures
    ∙ number_instead _ (values_of c.args.why) (λ e. c.if-n-eq7.false (c.number_of-n.ensures ∙ e))
