-- Theorems about what specs/ReductionLaws.antt defines. Assumes nothing.
use Rattle.std.specs.Prelude.{refl, Bool, true, false, cond, ◌&&◌, List, ℕ, ◌+◌, ◌*◌, ◌≤◌, ◌<◌, T, ℤ, pos, length, ◌≤ℤ◌}
use Rattle.std.proofs.Common.{◌∙◌, inl, arith, leb→le}
use Rattle.std.proofs.Math.IntN.{+ℤ_idl}
use Rattle.std.specs.Int.Signed.{lt_z, le_z, le_z_yes}
use Rattle.linear.specs.Differences.{up_le}
use Rattle.linear.proofs.Differences.{one_side}
use Rattle.linear.proofs.SystemLaws.{value_same, value_sum}
use Rattle.linear.specs.Systems.{value}
use Rattle.linear.proofs.TestLaws.{all_at, and_parts, any_at}
use Rattle.linear.specs.Tuples.{Same}
use Rattle.definitions.specs.System.{most_component}
use Rattle.definitions.specs.Tables.{at, write_to}
use Rattle.laws.proofs.SystemLaws.{below_from}
use Rattle.laws.proofs.TableLaws.{row_before, write_inside, write_outside}
use Rattle.engine_spec.specs.Caps.{Inside}
use Rattle.engine_spec.specs.Equations.{Wanted}
use Rattle.engine_spec.proofs.Equations.{wanted_from, wanted_some}
use Rattle.engine_spec.specs.Reduction.{is_small, is_within, reduces, reducible}
use Rattle.engine_spec.specs.Signs.{Reduced, Within, plus}

-- ---- tests of integers

pub within_from : (y x : ℤ) → T (is_within y x) → Within y x
unfolding is_within
within_from y x h = go (lt_z x (pos 0)) h
  where
    go : (b : Bool) → T (le_z (cond b x (pos 0)) y && le_z y (cond b (pos 0) x)) → Within y x
    go true h =
        let (l, u) = and_parts (le_z x y) _ h in
        let below : x ≤ℤ y = le_z_yes l in
        let above : y ≤ℤ pos 0 = le_z_yes u in
        record { ups = omega (arith, one_side y, up_le above); downs = omega (arith, one_side y, up_le above, up_le below) }
    go false h =
        let (l, u) = and_parts (le_z (pos 0) y) _ h in
        let below : pos 0 ≤ℤ y = le_z_yes l in
        let above : y ≤ℤ x = le_z_yes u in
        record { ups = omega (arith, one_side y, up_le above, up_le below); downs = omega (arith, one_side y, up_le below) }

-- ---- tests of rows

module _ (q : ℕ) (c : ℕ → ℤ) (n : ℕ) (row : ℕ → ℕ → ℕ) (z : ℕ → ℕ) where
  pub reducible_from : T (reducible q c n row z (value c q z)) → Reduced q c n row z
  unfolding reducible
  reducible_from h =
      let (i, l, r) = any_at n (reduces q c row z (value c q z)) h in
      let (w, b) = and_parts (is_within (value c q (row i)) (value c q z)) _ r in
      record { by = i; low = l; under = below_from q (row i) z b; within = within_from (value c q (row i)) (value c q z) w }

pub small_from : (q : ℕ) (z : ℕ → ℕ) → T (is_small q z) → (j : ℕ) → j < q → z j ≤ most_component
unfolding is_small
small_from q z h j l = leb→le (z j) most_component (all_at q _ h j l)

-- ---- reduced sums among more rows

pub reduced_more : (q : ℕ) (c : ℕ → ℤ) (n n' : ℕ) (row row' : ℕ → ℕ → ℕ) (z z' : ℕ → ℕ) → n ≤ n' → ((i : ℕ) → i < n → Same q (row' i) (row i)) → Same q z' z
    → Reduced q c n row z → Reduced q c n' row' z'
reduced_more q c n n' row row' z z' more rows same r =
    let e = rows r.by r.low in
    record {
      by = r.by;
      low = omega (arith, r.low);
      under = λ j jq. omega (arith, e j jq, same j jq, r.under j jq);
      within = rw (value_same c q e, value_same c q same) r.within;
    }

-- a row reduces a sum that it is
pub reduced_itself : (q : ℕ) (c : ℕ → ℤ) (n : ℕ) (row : ℕ → ℕ → ℕ) (i : ℕ) (z : ℕ → ℕ) → i < n → Same q (row i) z → Reduced q c n row z
reduced_itself q c n row i z l e =
    record {
      by = i;
      low = l;
      under = λ j jq. omega (arith, e j jq);
      within = rw (value_same c q e) (record { ups = omega arith; downs = omega arith });
    }

-- ---- the table

module _ (q : ℕ) (table : List ℕ) (n : ℕ) (z : ℕ → ℕ) where
  pub append_kept : (i : ℕ) → i < n → Same q (at (write_to q table (n * q) z) q i) (at table q i)
  append_kept i l j jq = let b = row_before q n i 0 j l jq in write_outside z table (n * q) q (i * q + j) (inl (omega arith))

  pub append_new : n * q + q ≤ length table → Same q (at (write_to q table (n * q) z) q n) z
  append_new fits j jq = write_inside z table (n * q) q j fits jq

-- ---- sums of solutions

pub plus_wanted : (cap p q : ℕ) (a : ℕ → ℕ → ℤ) (x y : ℕ → ℕ) → Wanted cap p q a x → Wanted cap p q a y → Inside cap q (plus x y)
    → Wanted cap p q a (plus x y)
plus_wanted cap p q a x y u w inside =
    let (j, jq, h) = wanted_some cap p q a u in
    wanted_from cap p q a (λ i l. value_sum (a i) q x y (plus x y) (λ j jq. refl) ∙ rw (u.solution i l, w.solution i l) (+ℤ_idl (pos 0)))
    (j, jq, omega arith) inside
