-- The children's rows written: what is known ahead of it, and one turn. Assumes nothing.
use Rattle.std.specs.Prelude.{◌≡◌, refl, Bool, true, false, List, ℕ, ◌+◌, ◌*◌, ◌^◌, ◌%◌, ◌≤◌, ◌<◌, length, get_or}
use Rattle.std.proofs.Common.{◌∙◌, ap, add-one}
use Rattle.std.proofs.Math.Nat.{one-mul}
use native.Mathlib.Omega.{arith}
use Rattle.linear.proofs.TestLaws.{count_step}
use Rattle.linear.specs.Tests.{count_to}
use Rattle.definitions.specs.Step.{marks_to}
use Rattle.definitions.specs.System.{most_component}
use Rattle.definitions.specs.Tables.{at, frozen, write_to}
use Rattle.laws.proofs.TableLaws.{row_fits}
use Rattle.laws.specs.Pack.{pack_to}
use Rattle.laws.proofs.Pack.{pack_length}
use Rattle.laws.proofs.MarkLaws.{shift_one_wide}
use Rattle.desk_spec.specs.Desks.{desk_row, plus}
use Rattle.desk_rows.specs.Rows.{Raised, SmallTuple, row_alike}
use Rattle.table_rows.specs.Rows.{tuple}

-- the stack table after the first n generators: a row for each that f picks
abbrev pub pushed : (n q : ℕ) (generators stack : List ℕ) (level : ℕ) (x : ℕ → ℕ) (marks : ℕ) (f : ℕ → Bool) → List ℕ
pushed n q generators stack level x marks f = pack_to n (q + 2) stack level f (λ j. desk_row q (plus x (at generators q j)) (marks + marks_to j f))

pub record Pushing (q : ℕ) (generators : List ℕ) (n : ℕ) (stack : List ℕ) (level : ℕ) (top : List ℕ) (marks made : ℕ) : Type 0 where
  pub unknowns : q ≤ 16
  pub few : n ≤ 64
  pub whole : n * q ≤ length generators
  pub handed : (i : ℕ) → get_or generators i 0 ≤ most_component
  pub small : SmallTuple q top
  pub low : level + count_to n (frozen made) ≤ 64
  pub room : (level + count_to n (frozen made)) * (q + 2) ≤ length stack
  pub fits : (j : ℕ) → j ≤ n → marks + marks_to j (frozen made) < 18446744073709551616

module _ (q : ℕ) (generators stack₀ : List ℕ) (level : ℕ) (top : List ℕ) (marks : ℕ) (f : ℕ → Bool) where
  abbrev x : ℕ → ℕ
  x = tuple top

  -- the first j have been gone through
  pub record Pushed (j : ℕ) (stack : List ℕ) (h passed : ℕ) : Type 0 where
    pub rows : stack ≡ pushed j q generators stack₀ level x marks f
    pub height : h ≡ level + count_to j f
    pub marked : passed ≡ marks + marks_to j f

  pub pushed_none : Pushed 0 stack₀ level marks
  unfolding pack_to count_to marks_to
  pushed_none = record { rows = refl; height = omega arith; marked = omega arith }

  module _ {j : ℕ} {stack : List ℕ} {h passed : ℕ} (s : Pushed j stack h passed) where
    pub pushed_length : length stack ≡ length stack₀
    pushed_length = ap length s.rows ∙ pack_length (q + 2) stack₀ level f _ j

    pub pushed_skip : f j ≡ false → Pushed (j + 1) stack h passed
    unfolding pack_to count_to marks_to
    pushed_skip e =
        record {
          rows = rw (add-one j, e) s.rows;
          height = rw (add-one j, e) (omega (arith, s.height));
          marked =
              rw (add-one j, e) (omega (arith, s.marked));
        }

    -- its row fits the table
    pub pushed_place : (n : ℕ) → j < n → f j ≡ true → (level + count_to n f) * (q + 2) ≤ length stack₀ → h * (q + 2) + (q + 2) ≤ length stack
    pushed_place n l e room =
        omega (arith, pushed_length, row_fits (q + 2) h (level + count_to n f) (omega (arith, s.height, count_step f j n l (rw e tt))))

    pub pushed_low : (n : ℕ) → j < n → f j ≡ true → level + count_to n f ≤ 64 → h < 64
    pushed_low n l e low = omega (arith, s.height, count_step f j n l (rw e tt))

    marks_one : f j ≡ true → passed + 2 ^ j ≡ marks + marks_to (j + 1) f
    unfolding marks_to
    marks_one e = rw (add-one j, e) (omega (arith, s.marked, one-mul (2 ^ j)))

    pub pushed_room : j < 64 → f j ≡ true → marks + marks_to (j + 1) f < 18446744073709551616
        → passed + (1 * 2 ^ j) % 18446744073709551616 < 18446744073709551616
    pushed_room l e fits = rw (shift_one_wide j l) (omega (arith, marks_one e))

    pub pushed_one : j < 64 → f j ≡ true → {held : List ℕ} → Raised q held top generators (j * q) → {after : List ℕ}
        → after ≡ write_to (q + 2) stack (h * (q + 2)) (desk_row q (tuple held) passed)
        → Pushed (j + 1) after (h + 1) (passed + (1 * 2 ^ j) % 18446744073709551616)
    pushed_one l e {held} r {after} w =
        record {
          rows = w ∙ row_alike q stack (h * (q + 2)) {x = tuple held} {y = plus x (at generators q j)} passed r.sums
              ∙ (unfold pack_to in (rw (add-one j, e, ← s.rows, ← s.height, ← s.marked)));
          height = unfold count_to in (rw (add-one j, e) (omega (arith, s.height)));
          marked = rw (shift_one_wide j l) (marks_one e);
        }
