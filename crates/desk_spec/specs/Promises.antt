-- THE PROMISES OF A RUN ONE DESK AFTER THE OTHER (document 02, Job 10), each under its words. Open this file first. They are about the definitions of
-- `desk_spec` (Desks, Records), which the code's contracts equate with what the code does. The minimal solutions of the first group that are handed over (the
-- trade's loops) are the generators of the second walk. Assumes nothing.
use Rattle.std.specs.Prelude.{◌≡◌, List, ◌<◌, ◌≤◌, ℕ}
use Rattle.linear.specs.Combinations.{Enumerates}
use Rattle.linear.specs.Systems.{SolutionIn}
use Rattle.linear.specs.Tuples.{Nonzero, Same, total}
use Rattle.definitions.specs.Answers.{complete}
use Rattle.definitions.specs.System.{MinimalSolution, coef}
use Rattle.definitions.specs.Tables.{State, at, capacity}
use Rattle.theorems.specs.Demands.{FirstDemand}
use Rattle.theorems.specs.Listed.{Exactly, Reads}
use Rattle.theorems.specs.CallTerms.{CallTerms}
use Rattle.desk_spec.specs.Desks.{Desk, desk_begin, desk_machine, desk_resume}
use Rattle.desk_spec.specs.Desks.{desk_start, desk_start_checks, desk_step, desk_top, freed, generator}
use Rattle.desk_spec.specs.Desks.{generator_count, settled, swept}
use Rattle.desk_spec.specs.Rules.{desk_resume_rules, desk_search_rules, desk_start_rules}
use Rattle.desk_spec.specs.Valid.{SweepLeaves}
use Rattle.desk_spec.specs.First.{DeskLonger, DeskMarked, Kept, Untouched}
use Rattle.desk_spec.specs.Frames.{Aside, TopTaken}
use Rattle.desk_spec.specs.Groups.{FirstGroup, first_system, whole_system}
use Rattle.desk_spec.specs.Runs.{left}

-- ---- 1

-- the calls of a run one desk after the other, in the terms of the first demand (theorems/specs/Demands): "the greatest sum of components" is here of the q
-- components; a list table of the same rows with room for one more takes the place of a full one
abbrev pub desk_terms : Desk → CallTerms State
desk_terms d =
    record {
      start = desk_begin d;
      start_checks = desk_start_checks d;
      start_rules = desk_start_rules d;
      begun = desk_start d;
      before = desk_resume_rules d;
      within = desk_search_rules d;
      steps = λ s. s.run.steps;
      deepest = λ s. s.run.deepest;
      top_sum = λ s. total (desk_top d s) d.q;
      untouched = Untouched d;
      marked = DeskMarked d;
      longer = DeskLonger d;
    }

-- "The tables and the run record lent to a call hold afterwards exactly what document 01 says, for every content and length they came with." What each call
-- leaves is the definition `desk_begin` or `desk_resume`. Of these:
pub record FirstDemandDesks (d : Desk) : Type 0 where
  -- after each step comes the sweep that is due before "complete"
  pub calls : FirstDemand (desk_machine d) (desk_terms d)
  -- a start, each step and each sweep: "Table rows above the height keep what they last held.", and so do entries of the list table past the new count
  pub start_kept : (s : State) → Kept d.q s (desk_start d s)
  pub step_kept : (s : State) → Kept d.q s (desk_step d s)
  pub settled_kept : (s : State) → Kept d.q s (settled d s)
  -- frames: a step leaves the stack rows below the one taken off; the rows listed stay, but for the sweep of a full list, and the tuple is the next; the call
  -- keeps the kind of the run and what other runs have beside
  pub takes : (s : State) → TopTaken d s (desk_step d s)
  pub aside_kept : (budget : ℕ) (s : State) → Aside s (left budget d s)
  -- "a sweep removes each row that lies above another row or repeats an earlier one, and closes the gaps, order kept": `Swept` (laws/specs/SweepLaws) says
  -- which rows stay
  pub sweep : (q : ℕ) (s : State) → SweepLeaves q s (swept q s)
  -- "It runs before each "complete", and when a solution is due and the list is full.": then and at no other time
  pub sweeps_done : (s : State) → (s.run.height ≡ 0 → settled d s ≡ swept d.q s) × (0 < s.run.height → settled d s ≡ s)
  pub sweeps_full : (s : State)
      → (capacity d.q s.list ≤ s.run.found → freed d s ≡ swept d.q s) × (s.run.found < capacity d.q s.list → freed d s ≡ s)
  -- also with allowance 0
  pub swept_before : (budget : ℕ) (s : State) → (desk_resume budget d s).answer ≡ complete → swept d.q (left budget d s) ≡ left budget d s

-- ---- 2

-- the generators handed over are "the first group's whole list"
abbrev pub WholeList : (d : Desk) → FirstGroup d → Type 0
WholeList d g = Enumerates d.q (MinimalSolution (first_system d g)) (generator_count d) (generator d)

-- "From the first group's whole list, a complete result is, as a set, the list of the whole map, each once; cut short, it promises solutions only."
pub record SecondDemand (d : Desk) (g : FirstGroup d) (s : State) : Type 0 where
  -- from any nonzero solutions of the first group: the table has as many rows as are counted, and each is a nonzero solution of the whole map
  pub room : s.run.found ≤ capacity d.q s.list
  pub cut_short : ((k : ℕ) → k < generator_count d → SolutionIn g.p d.q (coef (first_system d g)) (Nonzero d.q) (generator d k))
      → (i : ℕ) → i < s.run.found → SolutionIn (whole_system d g).p d.q (coef (whole_system d g)) (Nonzero d.q) (at s.list d.q i)
  pub finished : WholeList d g → (budget : ℕ) → (desk_resume budget d s).answer ≡ complete
      → Exactly d.q (MinimalSolution (whole_system d g)) (left budget d s).list (left budget d s).run.found
  -- "A finished list is read through a small reader": what it shows of each row listed is that row
  pub read : WholeList d g → (budget : ℕ) → (desk_resume budget d s).answer ≡ complete → (n : ℕ) → n < (left budget d s).run.found
      → Reads d.q (left budget d s).list (left budget d s).run.found n

-- the same rows, as many, each row of either in the other
pub record SameList (q : ℕ) (one : List ℕ) (n : ℕ) (other : List ℕ) (m : ℕ) : Type 0 where
  pub number : n ≡ m
  pub there : (i : ℕ) → i < n → (k : ℕ) × (k < m) × Same q (at other q k) (at one q i)
  pub back : (k : ℕ) → k < m → (i : ℕ) × (i < n) × Same q (at one q i) (at other q k)
