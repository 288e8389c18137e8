-- The seat's own calls: its runs are the core's under its limit, so that what the demands say of those holds of them: what is let go on again, a longer list
-- after 11, what is left untouched, the marks of rows. Assumes nothing.
use Rattle.std.specs.Prelude.{◌≡◌, List, ℕ, ℤ}
use Rattle.definitions.specs.Answers.{Answer, complete, paused, refused, started}
use Rattle.definitions.specs.Input.{Input}
use Rattle.definitions.specs.Tables.{State}
use Rattle.theorems.specs.Maps.{Map}
use Rattle.theorems.specs.Run.{SameRows, with_list, with_second}
use Rattle.seat_spec.specs.Training.{seat_input, seat_limit, seat_resume, seat_resume_from}
use Rattle.seat_spec.specs.Training.{seat_start, seat_start_from}

-- a map at the seat, by itself
abbrev pub seat_map : ℕ → ℕ → List ℤ → Map
seat_map p q coefs = record { p = p; q = q; coefs = coefs; limit = seat_limit }

-- ---- what a seat's run is

-- A run at the seat that nobody else alters: its start, its continuing calls, and between them other list tables with the same rows.
pub data SeatRun (p q : ℕ) (coefs : List ℤ) : State → Type 0 where
  begun : (s : State) → (seat_start (seat_input p q coefs) s).answer ≡ started → SeatRun p q coefs (seat_start (seat_input p q coefs) s).state
  resumed : {s : State} → SeatRun p q coefs s → (budget : ℕ) → SeatRun p q coefs (seat_resume budget (seat_input p q coefs) s).state
  lent : {s : State} → SeatRun p q coefs s → (list : List ℕ) → SameRows q s.run.found s.list list → SeatRun p q coefs (with_list s list)

pub data SeatRunFrom (lower : List ℕ) (p q : ℕ) (coefs : List ℤ) : State → Type 0 where
  begun_from : (s : State) → (seat_start_from lower (seat_input p q coefs) s).answer ≡ started
      → SeatRunFrom lower p q coefs (seat_start_from lower (seat_input p q coefs) s).state
  resumed_from : {s : State} → SeatRunFrom lower p q coefs s → (budget : ℕ)
      → SeatRunFrom lower p q coefs (seat_resume_from budget lower (seat_input p q coefs) s).state
  lent_from : {s : State} → SeatRunFrom lower p q coefs s → (list : List ℕ) → SameRows q s.run.found s.list list
      → SeatRunFrom lower p q coefs (with_list s list)
  lent_second : {s : State} → SeatRunFrom lower p q coefs s → (second : List ℕ) → SameRows q s.run.found2 s.second second
      → SeatRunFrom lower p q coefs (with_second s second)

abbrev pub number_of : Answer → ℕ
number_of started = 0
number_of complete = 0
number_of paused = 0
number_of (refused n values) = n

module _ (p q : ℕ) (coefs : List ℤ) where
  abbrev pub i : Input
  i = seat_input p q coefs
