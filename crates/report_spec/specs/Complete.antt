-- THE PROMISE OF THE PROGRAM: where "end complete" is printed, the rows printed are exactly the basis of the map read; where "end paused" or "end refused 11"
-- is, they are of it. It is about the definition of what is printed (`printed`), with which the contract of `report` equates what the code writes. Which texts
-- are read as a map and which refusal another gets: map_text/proofs/RuleLaws.antt (`text_renders`). Assumes nothing.
use Rattle.std.specs.Prelude.{ℕ, List, ◌++◌, map, ◌≡◌, ℤ, pos}
use Rattle.definitions.specs.Answers.{complete, refused}
use Rattle.definitions.specs.Input.{Input, input_of, map_of}
use Rattle.definitions.specs.System.{MinimalSolution}
use Rattle.theorems.specs.Listed.{Exactly, Only}
use Rattle.texts.specs.Decimals.{bytes}
use Rattle.map_spec.specs.Form.{lines, written, MapInRange}
use Rattle.map_spec.specs.Reading as reading
use Rattle.map_spec.specs.Reading.{read_map}
use Rattle.report_spec.specs.Printed.{counted, counts, ending, run, printed}

abbrev pub end_complete : List ℕ
end_complete = bytes "end complete\n"

abbrev pub end_paused : List ℕ
end_paused = bytes "end paused\n"

-- "end refused 11" and the like
abbrev pub end_refused : ℕ → List ℕ
end_refused n = counted (bytes "end refused ") n

-- The text was accepted as the written form of a map. What is printed are the counts of the program's run on it, the rows listed in the order found, and the
-- ending; and each row listed is one of the map's minimal solutions, none twice.
pub record PrintedRun (t : List ℕ) : Type 0 where
  pub p : ℕ
  pub q : ℕ
  pub coefs : List ℤ
  pub accepted : read_map t ≡ reading.accepted p q coefs
  pub text : t ≡ written p q coefs
  pub range : MapInRange p q coefs
  pub shown : let o = run (input_of p q coefs) in
      printed t ≡ counts p q o.state.run.steps o.state.run.found ++ (lines o.state.run.found q (map pos o.state.list) ++ ending o.answer)
  -- "Cut short, it holds only such tuples."
  pub only : let s = (run (input_of p q coefs)).state in Only q (MinimalSolution (map_of (input_of p q coefs))) s.list s.run.found

-- and the run was complete: the rows listed are the map's minimal solutions, each once and no other
pub record PrintedBasis (t : List ℕ) : Type 0 where
  pub ran : PrintedRun t
  pub answer : (run (input_of ran.p ran.q ran.coefs)).answer ≡ complete
  pub basis : let i = input_of ran.p ran.q ran.coefs in let s = (run i).state in
      Exactly ran.q (MinimalSolution (map_of i)) s.list s.run.found

-- ---- a map

module _ (t : List ℕ) (p q : ℕ) (coefs : List ℤ) (e : read_map t ≡ reading.accepted p q coefs) where
  abbrev pub input : Input
  input = input_of p q coefs

  -- what stands before the ending
  abbrev pub front : List ℕ
  front = counts p q (run input).state.run.steps (run input).state.run.found

  abbrev pub listed : List ℕ
  listed = lines (run input).state.run.found q (map pos (run input).state.list)
