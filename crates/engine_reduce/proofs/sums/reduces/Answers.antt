use mathlib.Core.Path.{sym, ◌∙◌}
use Rattle.engine_reduce.specs.Sums.{found, never}
use Rattle.engine_reduce.proofs.sums.reduces.Goals as goal

pub returns-then-n-i : goal.returns-then-n-i
returns-then-n-i c = record { named = λ e. never e }

pub returns : goal.returns
returns c = record { named = λ e. found _ _ _ _ _ c.args.pair.n c.args.i c.if-n-i.false (sym c.reduces_at.ensures ∙ e) }
