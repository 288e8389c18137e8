-- `walk::extended::row` meets its contract. Assumes nothing.
use mathlib.Core.Path.{◌≡◌, sym, subst, ◌∙◌, ap}
use Prim.Native.Nat.{ℕ, ◌+◌, ◌*◌, ◌≤◌, ◌<◌}
use native.Mathlib.Nat.{le_antisymm}
use native.Mathlib.Omega.{arith}
use lib.IntN.{pos, neg_ℤ, nat_abs}
use lib.ListN.{length, get_or, length-set}
use mir.Facts.{to_z-of_z}
use mir.Syntax.{w32}
use mir.Val.{of_z, to_z}
use borrow.Author.Rules.{sfits_of}
use Rattle.definitions.specs.System.{coef_limit}
use Rattle.walk.specs.ExtendLaws.{coef_fits, coef_number_fits, place_fits, row_all, row_first, row_next, side_fits}
use Rattle.walk.proofs.extended.row.Goals as goal
use Rattle.walk.proofs.extended.row.Goals.{After-negated, Start}

module _ (s : Start) where
  first_place : s.args.i * (s.args.q + 1) + 0 < 128
  first_place = place_fits s.requires.0 s.args.i 0 (omega arith) (omega arith)

  next_place : (j : ℕ) → j < s.args.q → s.args.i * (s.args.q + 1) + (j + 1) < 128
  next_place j l = place_fits s.requires.0 s.args.i (j + 1) (omega arith) (omega arith)

  -- numbers read
  side : to_z w32 (of_z w32 (get_or s.args.rights.now s.args.i (pos 0))) ≡ get_or s.args.rights.now s.args.i (pos 0)
  side = to_z-of_z {w = w32} (side_fits s.requires.0 s.args.i)

  next_coef : (j : ℕ) → j < s.args.q → s.args.i * s.args.q + j < length s.args.coefs.now
  next_coef j l = coef_fits s.requires.0 s.args.i j (omega arith) l

-- the extra unknown's number
first_number : (c : After-negated) → to_z w32 (of_z w32 c.negated.result) ≡ neg_ℤ (get_or c.args.rights.now c.args.i (pos 0))
first_number c = to_z-of_z {w = w32} (sfits_of c.negated.type_inv) ∙ c.negated.ensures ∙ ap neg_ℤ (side c.before.before)

pub bounds-rights-i : goal.bounds-rights-i
bounds-rights-i c = omega (arith, c.requires.0.sides)

pub negated-requires : goal.negated-requires
negated-requires c = subst (λ z. nat_abs z ≤ coef_limit) (sym (side (goal.at.negated-requires c).Start)) (c.requires.0.small c.args.i)

pub overflow_add-q : goal.overflow_add-q
overflow_add-q c = omega (arith, c.requires.0.few)

pub overflow_mul-i : goal.overflow_mul-i
overflow_mul-i c = omega (arith, first_place (goal.at.overflow_mul-i c).Start)

pub offset_bounds-wide-i : goal.offset_bounds-wide-i
offset_bounds-wide-i c = omega (arith, first_place (goal.at.offset_bounds-wide-i c).Start)

pub bounds-wide-i : goal.bounds-wide-i
bounds-wide-i c = omega (arith, first_place (goal.at.bounds-wide-i c).Start)

pub loop-j-init : goal.loop-j-init
loop-j-init c =
    row_first c.args.i c.args.q c.args.coefs.now c.args.rights.now c.args.wide.now (first_number c)
    (omega (arith, first_place (goal.at.loop-j-init c).Start, c.requires.1))

pub overflow_mul-wide : goal.overflow_mul-wide
overflow_mul-wide c = omega (arith, next_coef (goal.at.overflow_mul-wide c).Start c.loop-j.j c.loop-j-test.true)

pub overflow_add-wide : goal.overflow_add-wide
overflow_add-wide c = omega (arith, next_coef (goal.at.overflow_add-wide c).Start c.loop-j.j c.loop-j-test.true)

pub offset_bounds-coefs-i : goal.offset_bounds-coefs-i
offset_bounds-coefs-i c = omega (arith, next_coef (goal.at.offset_bounds-coefs-i c).Start c.loop-j.j c.loop-j-test.true)

pub bounds-coefs-i : goal.bounds-coefs-i
bounds-coefs-i c = next_coef (goal.at.bounds-coefs-i c).Start c.loop-j.j c.loop-j-test.true

pub overflow_add-q-in-loop-j : goal.overflow_add-q-in-loop-j
overflow_add-q-in-loop-j c = omega (arith, c.requires.0.few)

pub overflow_mul-i-in-loop-j : goal.overflow_mul-i-in-loop-j
overflow_mul-i-in-loop-j c = omega (arith, next_place (goal.at.overflow_mul-i-in-loop-j c).Start c.loop-j.j c.loop-j-test.true)

pub overflow_add-j : goal.overflow_add-j
overflow_add-j c = omega (arith, next_place (goal.at.overflow_add-j c).Start c.loop-j.j c.loop-j-test.true)

pub overflow_add-i : goal.overflow_add-i
overflow_add-i c = omega (arith, next_place (goal.at.overflow_add-i c).Start c.loop-j.j c.loop-j-test.true)

pub offset_bounds-wide-i-in-loop-j : goal.offset_bounds-wide-i-in-loop-j
offset_bounds-wide-i-in-loop-j c = omega (arith, next_place (goal.at.offset_bounds-wide-i-in-loop-j c).Start c.loop-j.j c.loop-j-test.true)

pub bounds-wide-i-in-loop-j : goal.bounds-wide-i-in-loop-j
bounds-wide-i-in-loop-j c = omega (arith, next_place (goal.at.bounds-wide-i-in-loop-j c).Start c.loop-j.j c.loop-j-test.true)

pub loop-j-preserved : goal.loop-j-preserved
loop-j-preserved c =
    let w = c.loop-j.invariant in
    let number = to_z-of_z {w = w32} (coef_number_fits c.requires.0 (c.args.i * c.args.q + c.loop-j.j)) in
    row_next c.args.i c.args.q c.args.coefs.now c.args.rights.now number w
    (omega (
      arith,
      next_place (goal.at.loop-j-preserved c).Start c.loop-j.j c.loop-j-test.true,
      w.size,
      length-set c.args.wide.now (c.args.i * (c.args.q + 1)) (to_z w32 (of_z w32 c.negated.result)),
      c.requires.1,
    ))

pub returns : goal.returns
returns c =
    row_all c.args.i c.args.q c.args.coefs.now c.args.rights.now c.args.wide.now
    (to_z w32 (of_z w32 c.negated.result)) (rw (le_antisymm c.loop-j.auto.j-end c.loop-j-test.false) at c.loop-j.invariant)
