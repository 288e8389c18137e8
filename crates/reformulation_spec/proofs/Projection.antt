-- Rows without their further unknowns, as the call leaves them: exactly these numbers, and everything behind them as it was. Assumes nothing.
use Rattle.std.specs.Prelude.{◌≡◌, List, get_or, length}
use Rattle.std.proofs.Math.Path.{refl}
use Rattle.std.proofs.Common.{◌∙◌, div-mul-le_self, mul-le-mul_right, arith}
use Rattle.std.proofs.Math.Logic.{inl, inr}
use Prim.Native.Nat.{ℕ, zero, suc, ◌+◌, ◌*◌, ◌≤◌, ◌<◌}
use Rattle.std.proofs.Math.Numerals.{add-one}
use Rattle.linear.specs.Cases.{below_suc}
use Rattle.definitions.specs.Answers.{go, refuse}
use Rattle.definitions.specs.Tables.{at, write_to}
use Rattle.laws.proofs.TableLaws.{row_before, write_inside, write_length, write_outside}
use Rattle.reformulation_spec.specs.Reformulation.{project_checks, project_to, projected}
use Rattle.reformulation_spec.proofs.Rules.{project_sizes}

module _ (q : ℕ) (row : ℕ → ℕ → ℕ) (out : List ℕ) where
  pub project_length : (n : ℕ) → length (project_to n q row out) ≡ length out
  unfolding project_to
  project_length zero = refl
  project_length (suc n) = write_length (row n) (project_to n q row out) (n * q) q ∙ project_length n

  pub project_next : (n : ℕ) → project_to (n + 1) q row out ≡ write_to q (project_to n q row out) (n * q) (row n)
  unfolding project_to
  project_next n = rw add-one

  project_row : (n : ℕ) → n * q ≤ length out → (i j : ℕ) → i < n → j < q → at (project_to n q row out) q i j ≡ row i j
  unfolding project_to
  project_row zero fits i j l jq = absurd (omega arith)
  project_row (suc n) fits i j l jq =
      elim (below_suc l) [
        | inl h ↦
            write_outside (row n) (project_to n q row out) (n * q) q (i * q + j) (inl (omega (arith, row_before q n i 0 j h jq)))
            ∙ project_row n (omega arith) i j h jq
        | inr e ↦ rw e (write_inside (row n) (project_to n q row out) (n * q) q j (omega (arith, project_length n)) jq)
      ]

  project_behind : (n e : ℕ) → n * q ≤ e → get_or (project_to n q row out) e 0 ≡ get_or out e 0
  unfolding project_to
  project_behind zero e l = refl
  project_behind (suc n) e l =
      write_outside (row n) (project_to n q row out) (n * q) q e (inr (omega arith)) ∙ project_behind n e (omega arith)

module _ (q k found : ℕ) (rows out : List ℕ) where
  -- What a call that is not refused leaves;
  module _ (yes : project_checks q k found rows out ≡ go) where
    pub rows_fit : (found * (q + k) ≤ length rows) × (found * q ≤ length out)
    rows_fit =
        let (_, a, b) = project_sizes q k found rows out yes in (
          omega (arith, mul-le-mul_right (q + k) a, div-mul-le_self (length rows) (q + k)),
          omega (arith, mul-le-mul_right q b, div-mul-le_self (length out) q),
        )

    -- the first q numbers of each row,
    pub projected_row : (i j : ℕ) → i < found → j < q → at (projected q k found rows out) q i j ≡ at rows (q + k) i j
    unfolding projected
    projected_row i j l jq = rw yes (project_row q (at rows (q + k)) out found rows_fit.1 i j l jq)

    -- and everything behind them as it was.
    pub projected_behind : (e : ℕ) → found * q ≤ e → get_or (projected q k found rows out) e 0 ≡ get_or out e 0
    unfolding projected
    projected_behind e l = rw yes (project_behind q (at rows (q + k)) out found e l)

  -- One that is refused changes nothing.
  pub projected_not : {n : ℕ} {values : List ℕ} → project_checks q k found rows out ≡ refuse n values → projected q k found rows out ≡ out
  unfolding projected
  projected_not e = rw e
