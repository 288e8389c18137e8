-- `checks::coefficients::out_of_range` meets its contract: the two comparisons of signed numbers are one of the size. Assumes nothing.
use mathlib.Core.Bool.{true, false}
use mathlib.Core.Path.{◌≡◌, refl, sym, ◌∙◌}
use lib.Dec.{leb-suc-suc}
use lib.IntN.{ℤ, pos, negsuc}
use lib.Signed.{lt_z}
use mir.Facts.{to_z-of_z}
use Rattle.definitions.specs.Refusals.{out_of_range}
use Rattle.checks.proofs.coefficients.out_of_range.Goals as goal

below : (z : ℤ) → lt_z z (negsuc 9999) ≡ true → out_of_range z ≡ true
below (pos n) e = cc
below (negsuc n) e = leb-suc-suc 10000 n ∙ e

above : (z : ℤ) → lt_z z (negsuc 9999) ≡ false → lt_z (pos 10000) z ≡ out_of_range z
above (pos n) e = refl
above (negsuc n) e = sym (leb-suc-suc 10000 n ∙ e)

pub returns-then-x-ltminus10000 : goal.returns-then-x-ltminus10000
returns-then-x-ltminus10000 c = sym (below c.args.x (rw (to_z-of_z c.ranges.x) at c.if-x-ltminus10000.true))

pub returns : goal.returns
returns c =
    let e = to_z-of_z c.ranges.x in rw e (above c.args.x (rw e at c.if-x-ltminus10000.false))
