-- The test of a sum is exact: it holds where some row reduces the sum, so any answer of which one of the two is proved is the test. Assumes nothing.
use Rattle.std.specs.Prelude.{Bool, true, false, not, cond, ◌&&◌, ℕ, T, ℤ, pos, ◌<ℤ◌, ◌≤ℤ◌}
use Rattle.std.proofs.Common.{arith}
use Rattle.std.specs.Int.Signed.{le_z, lt_z, lt_z_no, lt_z_yes}
use Rattle.linear.specs.Differences.{le_up, up_le, up_lt}
use Rattle.linear.proofs.Differences.{one_side}
use Rattle.linear.specs.Systems.{value}
use Rattle.linear.proofs.TestLaws.{and_both, any_from}
use Rattle.laws.proofs.SystemLaws.{below_to}
use Rattle.definitions.specs.System.{is_at_or_below}
use Rattle.engine_spec.specs.Reduction.{is_within, reduces, reducible}
use Rattle.engine_spec.specs.Signs.{Reduced, Within}

pub within_to : (y x : ℤ) → Within y x → T (is_within y x)
unfolding is_within
within_to y x w = go (lt_z x (pos 0)) (λ h. lt_z_yes h) (λ h. lt_z_no h)
  where
    go : (b : Bool) → (T b → x <ℤ pos 0) → (T (not b) → pos 0 ≤ℤ x) → T (le_z (cond b x (pos 0)) y && le_z y (cond b (pos 0) x))
    go true f g =
        let l : x ≤ℤ y = le_up (omega (arith, w.ups, w.downs, one_side x, up_lt (f tt))) in
        let u : y ≤ℤ pos 0 = le_up (omega (arith, w.ups, w.downs, one_side x, up_lt (f tt))) in
        and_both (le_z x y) (le_z y (pos 0)) l.le u.le
    go false f g =
        let l : pos 0 ≤ℤ y = le_up (omega (arith, w.ups, w.downs, one_side x, up_le (g tt))) in
        let u : y ≤ℤ x = le_up (omega (arith, w.ups, w.downs, one_side x, up_le (g tt))) in
        and_both (le_z (pos 0) y) (le_z y x) l.le u.le

pub reducible_to : (q : ℕ) (c : ℕ → ℤ) (n : ℕ) (row : ℕ → ℕ → ℕ) (z : ℕ → ℕ) → Reduced q c n row z → T (reducible q c n row z (value c q z))
unfolding reducible
reducible_to q c n row z r =
    any_from n (reduces q c row z (value c q z)) r.by r.low
    (and_both (is_within (value c q (row r.by)) (value c q z)) (is_at_or_below q (row r.by) z)
    (within_to (value c q (row r.by)) (value c q z) r.within) (below_to q (row r.by) z r.under))
