-- The lowest arc of a row. Assumes nothing.
use Rattle.std.specs.Prelude.{ℕ, ◌≤◌, ◌<◌}
use Rattle.std.proofs.Common.{arith, lt→ltb}
use Rattle.std.proofs.Math.Dec.{ltb→lt}
use Rattle.linear.proofs.TestLaws.{count_at}
use Rattle.single_spec.proofs.FirstLaws.{first_found, first_of}
use Rattle.single_spec.specs.Graph.{lowest, named, size}

module _ (q : ℕ) (x : ℕ → ℕ) where
  pub lowest_named : lowest q x < q → 0 < x (lowest q x)
  unfolding lowest
  lowest_named l = ltb→lt 0 (x (lowest q x)) ((first_of q (named x)).holds l)

  pub lowest_below : (j : ℕ) → j < q → 0 < x j → lowest q x ≤ j
  unfolding lowest
  lowest_below j l s = first_found q (named x) j l (lt→ltb 0 (x j) s)

  -- a row that names an arc has a lowest one
  pub lowest_inside : 0 < size q x → lowest q x < q
  unfolding size
  lowest_inside s = let (j, l, t, e) = count_at (named x) q 0 s in omega (arith, lowest_below j l (ltb→lt 0 (x j) t))
