-- Theorems about what specs/Caps.antt defines. Assumes nothing.
use Rattle.std.proofs.Common.{inl, inr, arith, eqb→eq, ltb→lt, lt→ltb}
use Rattle.std.specs.Prelude.{ℕ, zero, suc, ◌<◌, T}
use Rattle.linear.proofs.Cases.{split}
use Rattle.linear.proofs.TupleLaws.{term_le_total, total_unit}
use Rattle.linear.specs.Tuples.{Nonzero, Same, unit}
use Rattle.engine_spec.specs.Caps.{Admitted, Inside, Over, is_capped, is_over}

-- ---- what the tests say

pub over_from : (cap : ℕ) (z : ℕ → ℕ) → T (is_over cap z) → Over cap z
over_from zero z h = absurd h
over_from (suc c) z h = (omega arith, ltb→lt (suc c) (z 0) h)

pub over_to : (cap : ℕ) (z : ℕ → ℕ) → Over cap z → T (is_over cap z)
over_to zero z (capped, l) = absurd (omega arith)
over_to (suc c) z (capped, l) = lt→ltb (suc c) (z 0) l

pub over_outside : (cap q : ℕ) (z : ℕ → ℕ) → 0 < q → T (is_over cap z) → ¬ (Inside cap q z)
over_outside cap q z some h inside = let (capped, l) = over_from cap z h in omega (arith, inside capped some)

pub inside_over : (cap q : ℕ) (z : ℕ → ℕ) → ¬ (T (is_over cap z)) → Inside cap q z
inside_over cap q z h capped some = elim (split cap (z 0)) [ inl l ↦ absurd (h (over_to cap z (capped, l))) | inr l ↦ l ]

pub not_capped : (cap f : ℕ) → ¬ (T (is_capped cap f)) → 0 < cap → 0 < f
not_capped zero f h capped = absurd (omega arith)
not_capped (suc c) zero h capped = absurd (h tt)
not_capped (suc c) (suc f) h capped = omega arith

pub capped_not : (cap f : ℕ) → (0 < cap → 0 < f) → ¬ (T (is_capped cap f))
capped_not zero f more h = h
capped_not (suc c) f more h = let l = more (omega arith) in omega (arith, eqb→eq f 0 h)

pub inside_unit : (cap q i : ℕ) (z : ℕ → ℕ) → i < q → Same q z (unit i) → Inside cap q z
inside_unit cap q i z iq e capped some = omega (arith, e 0 some, term_le_total (unit i) q 0 some, total_unit i q iq)

pub admitted_some : (cap q : ℕ) (z : ℕ → ℕ) → Admitted cap q z → Nonzero q z
admitted_some zero q z h = h
admitted_some (suc c) q z h = h.some

pub admitted_inside : (cap q : ℕ) (z : ℕ → ℕ) → Admitted cap q z → Inside cap q z
admitted_inside zero q z h capped some = absurd (omega arith)
admitted_inside (suc c) q z h capped some = h.inside capped some

pub admitted_from : (cap q : ℕ) (z : ℕ → ℕ) → Nonzero q z → Inside cap q z → Admitted cap q z
admitted_from zero q z some inside = some
admitted_from (suc c) q z some inside = record { some = some; inside = inside }
