-- The premises of the third demand can be met: 2 −3 with room for its 20 steps, whatever the tables held. Assumes nothing.
use Rattle.std.specs.Prelude.{◌≡◌, refl, ◌∷◌, [], pos, negsuc, replicate}
use Rattle.std.proofs.Common.{arith}
use Rattle.linear.specs.Choose.{choose}
use Rattle.linear.specs.Tests.{max_to}
use Rattle.definitions.specs.Answers.{◌then◌, refuse_first, refuse_with}
use Rattle.definitions.specs.Bound.{depth, largest, lowest, step_bound}
use Rattle.definitions.specs.Calls.{start}
use Rattle.definitions.specs.Input.{Input, input_of, system_of}
use Rattle.definitions.specs.Machine.{checked}
use Rattle.definitions.specs.Refusals.{check7, start_checks}
use Rattle.definitions.specs.System.{MinimalSolution}
use Rattle.definitions.specs.Tables.{State, begun as outset_of, plain_run}
use Rattle.theorems.proofs.Proved.{third_demands}
use Rattle.theorems.specs.Listed.{Exactly}
use Rattle.theorems.specs.OwnCalls.{Completed, Log}
use Rattle.theorems.specs.Series.{Lending, Series, begun, foreign, leaves, meanwhile, own, starting}
use Rattle.theorems.specs.Third.{Premises}

input : Input
input = input_of 1 2 (pos 2 ∷ negsuc 2 ∷ [])

lent : State
lent =
    record {
      stack = replicate 7 9;
      list = replicate 41 9;
      second = [];
      run = record { kind = plain_run; height = 9; found = 9; steps = 9; found2 = 9; steps2 = 9; deepest = 9 };
    }

premises : Premises input lent
unfolding input lent choose max_to refuse_first refuse_with ◌then◌ largest lowest depth step_bound check7 start_checks checked start
premises = record { one = refl; begins = refl; limited = omega arith; roomy = omega arith; roomy₂ = tt; brief = omega arith }

-- the run's own tables and record, all of them
everything : Lending State
everything = record { handed = λ s. s; returned = λ s t. t; unaltered = λ s. refl }

-- the run's list table in the place of the stack table, and other things besides
crosswise : Lending State
crosswise =
    record {
      handed = λ s. record { stack = s.list; list = []; second = []; run = outset_of plain_run 3 };
      returned = λ s t. record { stack = s.stack; list = t.stack; second = s.second; run = s.run };
      unaltered = λ s. refl;
    }

-- a call of 7 steps; foreign starts that are refused, on all of the run's things and on its list table; a call of 13 steps
series : (g : Log State) × Series input lent g × (g.allowed ≡ 20)
unfolding input lent everything crosswise refuse_first refuse_with ◌then◌ check7 start_checks checked start
series = (
  _,
  own (foreign (foreign (own begun 7) (meanwhile (leaves (starting (input_of 9 2 []))) everything) refl)
      (meanwhile (leaves (starting (input_of 1 0 []))) crosswise) refl) 13,
  refl,
)

-- it ends with the whole list
whole : Completed series.0.answers × Exactly 2 (MinimalSolution (system_of input)) series.0.state.list series.0.state.run.found
unfolding choose max_to largest lowest depth step_bound input
whole = (third_demands.third_demand input lent premises series.0 series.1).ends (omega (arith, series.2))
