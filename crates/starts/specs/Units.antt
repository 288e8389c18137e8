-- The rows of the plain start, written into a part of the table that holds zeros. Assumes nothing.
use Rattle.std.specs.Prelude.{◌≡◌, List, ℕ, suc, ◌+◌, ◌*◌, ◌-◌, ◌/◌, ◌%◌, ◌≤◌, ◌<◌, length, get_or, set}
use Rattle.std.proofs.Common.{sym, ◌∙◌, inl, inr, div-add-mod', div-lt_iff_lt-mul, mod-lt, zero-add, arith, length-set, ext_get_or, get_or-set_same}
use Rattle.std.proofs.Common.{get_or-set_other}
use Rattle.std.proofs.Math.Decide.{ℕ_discrete}
use Rattle.linear.proofs.Cases.{split}
use Rattle.linear.specs.Tuples.{unit}
use Rattle.linear.specs.TupleLaws.{unit_same, unit_other}
use Rattle.definitions.specs.Tables.{at, units_to, write_to}
use Rattle.laws.proofs.TableLaws.{row_fits, units_length, units_outside, units_row, write_inside, write_length, write_outside}

-- the tuple of row k is zero
pub record ZeroRow (q : ℕ) (table : List ℕ) (k : ℕ) : Type 0 where
  pub zero_at : (j : ℕ) → j < q → at table (q + 1) k j ≡ 0

-- with a 1 written at place i it is the unit tuple
pub unit_row : (q : ℕ) (table : List ℕ) (k i : ℕ) → i < q → k * (q + 1) + q ≤ length table → ZeroRow q table k
    → set table (k * (q + 1) + i) 1 ≡ write_to q table (k * (q + 1)) (unit i)
unit_row q table k i l room z =
    ext_get_or 0 (set table (base + i) 1) (write_to q table base (unit i))
    (length-set table (base + i) 1 ∙ sym (write_length (unit i) table base q)) (λ e _. there e)
  where
    base : ℕ
    base = k * (q + 1)

    inside : (j : ℕ) → j < q → get_or (set table (base + i) 1) (base + j) 0 ≡ unit i j
    inside j h =
        elim (ℕ_discrete j i) [
          | yes is ↦ rw is (get_or-set_same table (base + i) 1 0 (omega arith) ∙ sym (unit_same i))
          | no ne ↦ get_or-set_other table (base + i) (base + j) 1 0 (omega arith) ∙ z.zero_at j h ∙ sym (unit_other i j ne)
        ]

    there : (e : ℕ) → get_or (set table (base + i) 1) e 0 ≡ get_or (write_to q table base (unit i)) e 0
    there e =
        elim (split e base) [
          | inl h ↦ get_or-set_other table (base + i) e 1 0 (omega arith) ∙ sym (write_outside (unit i) table base q e (inl h))
          | inr h ↦ elim (split e (base + q)) [
            | inl m ↦
                let at_j : base + (e - base) ≡ e = omega arith in
                rw at_j at (inside (e - base) (omega arith) ∙ sym (write_inside (unit i) table base q (e - base) room (omega arith)))
            | inr m ↦ get_or-set_other table (base + i) e 1 0 (omega arith) ∙ sym (write_outside (unit i) table base q e (inr m))
          ]
        ]

module _ (q : ℕ) (table : List ℕ) (long : q * (q + 1) ≤ length table) where
  abbrev pub cleared : List ℕ
  cleared = write_to (q * (q + 1)) table 0 (λ _. 0)

  cleared_long : q * (q + 1) ≤ length cleared
  cleared_long = omega (arith, write_length (λ _. 0) table 0 (q * (q + 1)))

  -- what has not been reached holds zeros
  pub zero_row : (k : ℕ) → k < q → ZeroRow q (units_to k q cleared) k
  zero_row k l =
      record {
        zero_at = λ j h.
            units_outside q cleared k (k * (q + 1) + j) (omega arith)
            ∙ rw zero-add at (write_inside (λ _. 0) table 0 (q * (q + 1)) (k * (q + 1) + j) (omega (arith, long)) (omega (arith, row_fits (q + 1) k q l)));
      }

  -- a start looks at no old content
  in_row : (k j : ℕ) → k < q → j < suc q → at (units_to q q cleared) (q + 1) k j ≡ at (units_to q q table) (q + 1) k j
  in_row k j l h =
      let a = units_row q cleared q (omega arith) cleared_long k l in
      let b = units_row q table q (omega arith) long k l in
      elim (split j q) [
        | inl i ↦ a.tuple j i ∙ sym (b.tuple j i)
        | inr i ↦ let e : j ≡ q = omega arith in rw e (a.marks_are ∙ sym b.marks_are)
      ]

  there : (e : ℕ) → get_or (units_to q q cleared) e 0 ≡ get_or (units_to q q table) e 0
  there e =
      elim (split e (q * (q + 1))) [
        | inl h ↦
            let at_row : e / (q + 1) * (q + 1) + e % (q + 1) ≡ e = div-add-mod' e (q + 1) in
            rw at_row at (in_row (e / (q + 1)) (e % (q + 1)) ((div-lt_iff_lt-mul (omega arith)).1 h) (omega (arith, mod-lt e {m = q + 1} (omega arith))))
        | inr h ↦
            units_outside q cleared q e h
            ∙ write_outside (λ _. 0) table 0 (q * (q + 1)) e (inr (omega (arith, h)))
            ∙ sym (units_outside q table q e h)
      ]

  pub units_cleared : units_to q q cleared ≡ units_to q q table
  units_cleared =
      ext_get_or 0 (units_to q q cleared) (units_to q q table)
      (units_length q cleared q ∙ write_length (λ _. 0) table 0 (q * (q + 1)) ∙ sym (units_length q table q))
      (λ e _. there e)
