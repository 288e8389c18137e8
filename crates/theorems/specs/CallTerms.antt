-- The terms in which the first demand is said, of any kind of run and of those of document 01. Assumes nothing.
use Rattle.std.specs.Prelude.{List, ℕ, ◌+◌}
use Rattle.definitions.specs.Answers.{Check}
use Rattle.definitions.specs.Calls.{start, start_from}
use Rattle.definitions.specs.Input.{Input, map_of, system_of}
use Rattle.definitions.specs.Machine.{Machine, Outcome, call}
use Rattle.definitions.specs.Refusals.{lower_checks, start_checks}
use Rattle.definitions.specs.Step.{width}
use Rattle.definitions.specs.Tables.{State, lower_start, units_start}
use Rattle.laws.specs.CheckLaws.{Rules}
use Rattle.laws.specs.LowerLaws.{resume_from_rules, search_from_rules}
use Rattle.laws.specs.RefusalLaws.{lower_rules, resume_rules, search_rules, start_rules}
use Rattle.theorems.specs.Deepest.{top_sum, top_sum_from}
use Rattle.theorems.specs.LowerFirst.{LongerFrom}
use Rattle.theorems.specs.Maps.{Map, by_itself}
use Rattle.theorems.specs.Run.{Longer}
use Rattle.theorems.specs.Untouched.{Marked, Untouched}

-- A kind of run: its start, with the checks before it, their rules, and what it leaves where they let it go on; the rules of the refusals before and within the
-- walk of a continuing call; the steps that its record counts, the number that it shows (document 02, Job 6), and the sum of the tuple that the next step takes
-- off; what a call leaves alone, from what it was lent to what it leaves; what marks rows carry; and which state, with a longer list table, may take the place
-- of one in which 11 was given.
pub record CallTerms (S : Type 0) : Type 1 where
  pub start : S → Outcome S
  pub start_checks : S → Check
  pub start_rules : S → Rules
  pub begun : S → S
  pub before : S → Rules
  pub within : S → Rules
  pub steps : S → ℕ
  pub deepest : S → ℕ
  pub top_sum : S → ℕ
  pub untouched : (lent left : S) → Type 0
  pub marked : S → Type 0
  pub longer : (full longer : S) → Type 0

-- what a continuing call leaves
abbrev pub left : {S : Type 0} → ℕ → Machine S → S → S
left budget k s = (call budget k s).state

-- ---- plain runs, and runs with right sides

abbrev pub plain_terms : Input → CallTerms State
plain_terms i =
    record {
      start = start i;
      start_checks = start_checks i;
      start_rules = start_rules i;
      begun = units_start (system_of i);
      before = resume_rules i;
      within = search_rules (system_of i);
      steps = λ s. s.run.steps;
      deepest = λ s. s.run.deepest;
      top_sum = top_sum i;
      untouched = Untouched (system_of i).q (width (system_of i));
      marked = Marked (system_of i).q;
      longer = Longer (system_of i);
    }

-- ---- runs from a lower bound

-- "The run record names the walk and both walks' steps": together they are those taken. "In a floor run the floor's own components count, the plain run before
-- it does not."
abbrev pub from_terms : List ℕ → Map → CallTerms State
from_terms lower m =
    record {
      start = start_from lower (by_itself m);
      start_checks = lower_checks lower (by_itself m);
      start_rules = lower_rules lower (by_itself m);
      begun = lower_start (map_of (by_itself m));
      before = resume_from_rules lower (by_itself m);
      within = search_from_rules lower (by_itself m);
      steps = λ s. s.run.steps + s.run.steps2;
      deepest = λ s. s.run.deepest;
      top_sum = top_sum_from lower (by_itself m);
      untouched = Untouched m.q m.q;
      marked = Marked m.q;
      longer = LongerFrom m.q;
    }
