-- What the lists of a run that was begun with units hold, in the words of the map: the minimal solutions, and where there are right sides the minimal tuples
-- that meet them. Assumes nothing.
use Rattle.std.specs.Prelude.{◌≡◌, List, ℕ, suc, ◌*◌, ◌<◌, ℤ, length}
use Rattle.definitions.specs.Input.{Extra, Input, alone, map_of, rights}
use Rattle.definitions.specs.Reader.{at_one, at_zero, row_of_either}
use Rattle.definitions.specs.System.{MinimalMeeting, MinimalSolution, System, extended}
use Rattle.definitions.specs.Tables.{State}
use Rattle.theorems.specs.Listed.{Exactly, IsRow, Only, Reads}

-- "at 0 the loops of the plain map, at 1 the smallest tuples that meet the right sides": such tuples only
abbrev pub Part : Extra → Input → State → Type 0
Part alone i s = Only i.q (MinimalSolution (map_of i)) s.list s.run.found
Part (rights b) i s = Only i.q (MinimalSolution (map_of i)) s.list s.run.found × Only i.q (MinimalMeeting (map_of i) b) s.second s.run.found2

-- and all of them
abbrev pub Whole : Extra → Input → State → Type 0
Whole alone i s = Exactly i.q (MinimalSolution (map_of i)) s.list s.run.found
Whole (rights b) i s =
    Exactly i.q (MinimalSolution (map_of i)) s.list s.run.found × Exactly i.q (MinimalMeeting (map_of i) b) s.second s.run.found2

-- what a user reads of each list; of two, "A row asked for is handed out as a part of whichever table it was asked from"
abbrev pub Read : Extra → Input → State → Type 0
Read alone i s = (n : ℕ) → n < s.run.found → Reads i.q s.list s.run.found n
Read (rights b) i s =
    ((n : ℕ) → n < s.run.found → Reads i.q s.list s.run.found n) × ((n : ℕ) → n < s.run.found2 → Reads i.q s.second s.run.found2 n)
    × ((n : ℕ) → n < s.run.found → IsRow i.q s.list n (row_of_either at_zero i.q s.list s.second s.run.found (suc n)))
    × ((n : ℕ) → n < s.run.found2 → IsRow i.q s.second n (row_of_either at_one i.q s.list s.second s.run.found2 (suc n)))

module _ (i : Input) (b : List ℤ) (len : length i.coefs ≡ i.p * i.q) (s : State) where
  abbrev pub m : System
  m = extended b (map_of i)
