-- `run` is the stage's turns: what is left of the budget, from where the loop stands, comes to what the whole call comes to. Assumes nothing.
use Rattle.std.proofs.Common.{◌-◌}
use Rattle.engine_stage.specs.Running.{Going}
use Rattle.engine_stage.specs.Standing.{lent_of, sides_of}
use Rattle.engine_stage.proofs.stages.run.Given as goal

abbrev pub invariant-loop : goal.invariant-loop
invariant-loop l =
    Going l.f (lent_of l.coefs l.basis l.sizes) l.budget l.initial.table
    (sides_of l.initial.values l.initial.words l.initial.degrees l.initial.marks l.initial.mothers) l.initial.at (l.budget - l.counter) l.table
    (sides_of l.values l.words l.degrees l.marks l.mothers) l.at
