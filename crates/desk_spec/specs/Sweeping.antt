-- A sweep keeps what a walk keeps, at any time; and after a finished walk it leaves the basis, each tuple once. Assumes nothing.
use Rattle.std.specs.Prelude.{◌≡◌, ℕ, suc}
use Rattle.theorems.specs.View.{Kept, View}
use Rattle.theorems.specs.Reaching.{Raising}
use Rattle.laws.specs.SweepLaws.{Swept}

-- there is no list but the first
abbrev pub OneList : View → Type 0
OneList v = (c : ℕ) → v.found (suc c) ≡ 0

-- w is v with its list swept
pub record Sweeps (r : Raising) (v w : View) : Type 0 where
  pub height : w.height ≡ v.height
  pub kept : Kept r.q r.n v w v.height
  pub one : OneList v
  pub one' : OneList w
  pub swept : Swept r.q (v.found 0) (v.row 0) (w.found 0) (w.row 0)
