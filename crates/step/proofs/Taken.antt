-- Theorems about what specs/Taken.antt defines. Assumes nothing.
use Rattle.std.specs.Prelude.{◌≡◌, ◌≢◌, true, false, List, ℕ, ◌+◌, ◌*◌, Ok, Err}
use Rattle.std.proofs.Math.Path.{refl}
use Rattle.std.proofs.Common.{ne_eqb}
use Rattle.linear.specs.Tests.{count_to}
use Rattle.definitions.specs.Answers.{refuse_with, ◌then◌}
use Rattle.definitions.specs.System.{System, solves}
use Rattle.definitions.specs.Tables.{State, write_to}
use Rattle.definitions.specs.Step.{children_to, full_for, full_in, grown, level, listed, makes, row_of, step, to_second, top, width}
use Rattle.definitions.specs.Refusals.{search_checks, step_limit, too_large}
use Rattle.calls.specs.declared.Refusal.TheVariants.{ListFull, ComponentLimit}
use Rattle.step.specs.declared.Stepped.TheVariants.{Listed, ListedSecond, Grown}
use Rattle.step.specs.Taken.{Steps}

-- ---- the ways out

module _ (m : System) (s : State) (early : s.run.steps ≢ step_limit) where
  -- 14 is not given
  pub step_full : solves m (top m s) ≡ true → full_for m.kind m.q s (top m s) ≡ true → Steps m s (Err ListFull) s.stack s.list s.second
  unfolding search_checks refuse_with ◌then◌
  step_full y f = record { checks = rw (ne_eqb s.run.steps step_limit early, y, f); leaves = refl }

  pub step_listed : {list : List ℕ} → solves m (top m s) ≡ true → to_second m.kind (top m s) ≡ false → full_in false (width m) s ≡ false
      → list ≡ write_to (width m) s.list (s.run.found * width m) (row_of m.kind (top m s)) → Steps m s (Ok Listed) s.stack list s.second
  unfolding search_checks refuse_with ◌then◌ step listed
  step_listed y b f e = record { checks = rw (ne_eqb s.run.steps step_limit early, y, b, f); leaves = rw (y, b, e) }

  pub step_listed₂ : {second : List ℕ} → solves m (top m s) ≡ true → to_second m.kind (top m s) ≡ true → full_in true (width m) s ≡ false
      → second ≡ write_to (width m) s.second (s.run.found2 * width m) (row_of m.kind (top m s)) → Steps m s (Ok ListedSecond) s.stack s.list second
  unfolding search_checks refuse_with ◌then◌ step listed
  step_listed₂ y b f e = record { checks = rw (ne_eqb s.run.steps step_limit early, y, b, f); leaves = rw (y, b, e) }

  pub step_large : solves m (top m s) ≡ false → too_large m s ≡ true → Steps m s (Err ComponentLimit) s.stack s.list s.second
  unfolding search_checks refuse_with ◌then◌
  step_large n l = record { checks = rw (ne_eqb s.run.steps step_limit early, n, l); leaves = refl }

  pub step_grown : {stack : List ℕ} {height : ℕ} → solves m (top m s) ≡ false → too_large m s ≡ false → stack ≡ children_to m.q m s
      → height ≡ level s + count_to m.q (makes m s) → Steps m s (Ok (Grown height)) stack s.list s.second
  unfolding search_checks refuse_with ◌then◌ step grown
  step_grown n l e f = record { checks = rw (ne_eqb s.run.steps step_limit early, n, l); leaves = rw (n, e, f) }
