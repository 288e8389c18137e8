-- The second walk on tables as a walk of the theory: what the theory sees of a state, of the start, of a step and of a sweep. Assumes nothing.
use Rattle.std.specs.Prelude.{List, ℤ}
use Prim.Native.Nat.{ℕ, zero, suc}
use Rattle.definitions.specs.System.{coef}
use Rattle.definitions.specs.Tables.{State, at, frozen}
use Rattle.theorems.specs.Reaching.{Raising}
use Rattle.theorems.specs.View.{View}
use Rattle.linear.proofs.Loops.{Solutions}
use Rattle.desk_spec.specs.Records.{lent_with}
use Rattle.desk_spec.specs.Desks.{Desk, desk_marks, desk_tuple}
use Rattle.desk_spec.specs.Desks.{generator, generator_count, second_group}
use Rattle.desk_spec.specs.Valid.{DeskValid}
use Rattle.desk_spec.specs.Second.{Walked, by_generators}

-- there is one list
abbrev pub one_found : ℕ → ℕ → ℕ
one_found n zero = n
one_found n (suc c) = 0

abbrev pub desk_view : ℕ → State → View
desk_view q s =
    record {
      height = s.run.height;
      tuple = desk_tuple q s.stack;
      frozen = λ l. frozen (desk_marks q s.stack l);
      found = one_found s.run.found;
      row = λ c. at s.list q;
    }

-- another list table
abbrev pub with_list : State → List ℕ → State
with_list s list = lent_with s s.stack list s.run

module _ (d : Desk) (p₁ : ℕ) (a₁ : ℕ → ℕ → ℤ) (solve : Solutions p₁ d.q a₁ (generator_count d) (generator d)) where
  abbrev pub r : Raising
  r = by_generators p₁ d.p d.q a₁ (coef (second_group d)) (generator_count d) (generator d)

  abbrev pub view : State → View
  view = desk_view d.q

  -- ---- what is kept along a run

  pub record Sound (s : State) : Type 0 where
    pub valid : DeskValid d s
    pub walked : Walked r (view s)
