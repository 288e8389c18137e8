-- The record counts the steps. Assumes nothing.
use Rattle.std.specs.Prelude.{◌≡◌, ℕ, zero, suc, ◌+◌}
use Rattle.std.proofs.Common.{arith}
use Rattle.definitions.specs.Calls.{machine}
use Rattle.definitions.specs.Input.{Input, system_of}
use Rattle.definitions.specs.Machine.{after}
use Rattle.definitions.specs.Step.{step}
use Rattle.definitions.specs.System.{System}
use Rattle.definitions.specs.Tables.{State}
use Rattle.laws.proofs.LowerLaws.{step_kept}

pub step_counts : (m : System) (s : State) → (step m s).run.steps ≡ s.run.steps + 1
step_counts m s = (step_kept m s).counted

pub after_counts : (i : Input) (n : ℕ) (s : State) → (after n (machine i) s).run.steps ≡ s.run.steps + n
unfolding after
after_counts i zero s = omega arith
after_counts i (suc n) s = omega (arith, after_counts i n (step (system_of i) s), step_counts (system_of i) s)
