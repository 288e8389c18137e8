-- What is known once a call of the second walk has made its checks; and that its start, its sweeps and its steps leave record and tables in order: what refusal
-- 6 looks for does not come about by itself, and no step needs a row beyond the last (document 02, Job 11, of this walk). Assumes nothing.
use Rattle.std.specs.Prelude.{◌≡◌, List, ℕ, ◌+◌, ◌*◌, ◌%◌, ◌≤◌, ◌<◌, T, nat_abs, pos, length, get_or}
use Rattle.definitions.specs.Refusals.{step_limit}
use Rattle.definitions.specs.System.{coef_limit, image_of, most_component, most_equations, most_unknowns, solves}
use Rattle.definitions.specs.Tables.{State, at, capacity}
use Rattle.laws.specs.SweepLaws.{Swept}
use Rattle.desk_spec.specs.Records.{IsDesk}
use Rattle.desk_spec.specs.Desks.{Desk, desk_grown, desk_makes}
use Rattle.desk_spec.specs.Desks.{desk_top, freed, generator}
use Rattle.desk_spec.specs.Desks.{generator_count, image_limit, most_generators, plus, second_group}
use Rattle.desk_spec.specs.Rules.{DeskInOrder, high}

-- ---- what is known once a call has made its checks

-- what is handed over, and the number of entries of the stack table
pub record DeskShaped (d : Desk) (size : ℕ) : Type 0 where
  pub p_some : 0 < d.p
  pub p_few : d.p ≤ most_equations
  pub q_some : 0 < d.q
  pub q_few : d.q ≤ most_unknowns
  pub coefs : length d.coefs ≡ d.p * d.q
  pub whole : length d.generators % d.q ≡ 0
  pub stack : generator_count d * (d.q + 2) ≤ size
  pub handed : (i : ℕ) → i < length d.generators → get_or d.generators i 0 ≤ most_component
  pub range : (i : ℕ) → i < length d.coefs → nat_abs (get_or d.coefs i (pos 0)) ≤ coef_limit
  pub few : generator_count d ≤ most_generators
  pub images : (k i : ℕ) → k < generator_count d → i < d.p → nat_abs (image_of (second_group d) (generator d k) i) ≤ image_limit

-- a continuing call goes on: the shape, and the record and tables in order
pub record DeskValid (d : Desk) (s : State) : Type 0 where
  pub shaped : DeskShaped d (length s.stack)
  pub ordered : DeskInOrder d s

-- ---- what lets a step be taken

pub record DeskGoing (d : Desk) (s : State) : Type 0 where
  pub high : 0 < s.run.height
  pub early : s.run.steps < step_limit
  pub roomy : T (solves (second_group d) (desk_top d s)) → (freed d s).run.found < capacity d.q s.list
  pub small : ¬ (T (solves (second_group d) (desk_top d s))) → (j : ℕ) → j < generator_count d → T (desk_makes d s j) → (i : ℕ) → i < d.q
      → plus (desk_top d s) (generator d j) i ≤ most_component

-- ---- a sweep

-- t is s but for the rows listed and their number
pub record SweepOf (s t : State) : Type 0 where
  pub stack : t.stack ≡ s.stack
  pub kind : IsDesk s.run → IsDesk t.run
  pub height : t.run.height ≡ s.run.height
  pub steps : t.run.steps ≡ s.run.steps
  pub deepest : t.run.deepest ≡ s.run.deepest
  pub length_same : length t.list ≡ length s.list
  pub fewer : t.run.found ≤ s.run.found

-- ---- a step

module _ (d : Desk) (s : State) (v : DeskValid d s) (h : 0 < s.run.height) where
  abbrev pub stack' : List ℕ
  stack' = (desk_grown d s).stack

-- ---- what a sweep leaves in the list table

-- "removes each row that lies above another row or repeats an earlier one, and closes the gaps, order kept": the rows that stay, in their order; and past their
-- number every entry of the table keeps what it held
pub record SweepLeaves (q : ℕ) (s t : State) : Type 0 where
  pub rows : Swept q s.run.found (at s.list q) t.run.found (at t.list q)
  pub past : (e : ℕ) → t.run.found * q ≤ e → get_or t.list e 0 ≡ get_or s.list e 0
