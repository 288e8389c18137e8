-- What stays as it is while a run desk by desk goes on: in each step the stack rows below the one taken off and the rows listed, but for a sweep; in each step,
-- each sweep and each call what is none of such a run's. And when a sweep is made. Assumes nothing.
use Rattle.std.specs.Prelude.{◌≡◌, ℕ, ◌+◌, ◌*◌, ◌<◌, T, get_or}
use Rattle.definitions.specs.System.{solves}
use Rattle.definitions.specs.Tables.{State, at, capacity}
use Rattle.desk_spec.specs.Desks.{Desk, desk_level, desk_top, freed, second_group}

-- ---- each step

-- rows of q numbers and two of marks, below level h
abbrev pub RowsBelow : ℕ → ℕ → State → State → Type 0
RowsBelow q h s t = (l j : ℕ) → l < h → j < q + 2 → at t.stack (q + 2) l j ≡ at s.stack (q + 2) l j

-- the lists of s and t are the same, and so are the numbers found
pub record ListKept (s t : State) : Type 0 where
  pub list : t.list ≡ s.list
  pub found : t.run.found ≡ s.run.found

-- "the tuple becomes the next row of the list": the rows listed in s stand in t as they were, and the next is x where the table has room for it
pub record NextRow (q : ℕ) (x : ℕ → ℕ) (s t : State) : Type 0 where
  pub found : t.run.found ≡ s.run.found + 1
  pub rows : (e : ℕ) → e < s.run.found * q → get_or t.list e 0 ≡ get_or s.list e 0
  pub row : s.run.found < capacity q s.list → (j : ℕ) → j < q → at t.list q s.run.found j ≡ x j

-- a step takes off the top: the stack rows below it stay; a solution becomes the next row, after the sweep if one is due, and else the list stays
pub record TopTaken (d : Desk) (s t : State) : Type 0 where
  pub below : RowsBelow d.q (desk_level s) s t
  pub lists : T (solves (second_group d) (desk_top d s)) → NextRow d.q (desk_top d s) (freed d s) t
  pub grows : ¬ (T (solves (second_group d) (desk_top d s))) → ListKept s t

-- ---- what is none of such a run's

-- the kind of the run, the second list with its count, and the steps of another walk
pub record Aside (s t : State) : Type 0 where
  pub kind : t.run.kind ≡ s.run.kind
  pub second : t.second ≡ s.second
  pub found2 : t.run.found2 ≡ s.run.found2
  pub steps2 : t.run.steps2 ≡ s.run.steps2
