-- `checks::coefficients::any_outside` meets its contract: `any` says whether an entry passed is out of range. Assumes nothing.
use Rattle.std.specs.Prelude.{◌≡◌, ℕ, Bool, ◌||◌, ◌+◌, get_or, pos}
use Rattle.std.proofs.Common.{refl, le_antisymm, add-one}
use borrow.Author.Rules.{rules}
use Rattle.linear.specs.Tests.{any_to}
use Rattle.definitions.specs.Refusals.{out_of_range}
use Rattle.checks.proofs.coefficients.any_outside.Goals as goal
use Rattle.checks.proofs.coefficients.any_outside.Goals.{After-out_of_range-any}

-- one entry more is asked
any_more : (n : ℕ) (f : ℕ → Bool) {a b : Bool} → a ≡ any_to n f → b ≡ f n → (a || b) ≡ any_to (n + 1) f
unfolding any_to
any_more n f e t = rw (e, t, add-one n) refl

-- what the call tested is the entry
tested : (c : After-out_of_range-any) → c.out_of_range-any.result ≡ out_of_range (get_or c.args.entries.now c.loop-i.i (pos 0))
tested c = search rules

pub loop-i-init : goal.loop-i-init
unfolding any_to
loop-i-init c = refl

pub loop-i-preserved : goal.loop-i-preserved
loop-i-preserved c = any_more c.loop-i.i _ c.loop-i.invariant (tested c)

pub returns : goal.returns
returns c = rw (le_antisymm c.loop-i.auto.i-end c.loop-i-test.false) at c.loop-i.invariant
