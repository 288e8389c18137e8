-- The promises of the engine, in one place: open this file first. They hold of every run that nobody else alters, whichever row operations, equations and fresh
-- unknowns its caller handed over, calls that were refused included. Kinds.antt has right sides, lower bounds and starts from a list, SidesRuns.antt the start
-- for the first two, Groups.antt that a list is the same however it was made. Rules.antt has the refusals before a call's work, each in its case and in no
-- other; CallAnswers.antt has each answer of a continuing call in its case and in no other (`engine_answers`) and the turns that it took (`counted`,
-- `few_turns`); CallRules.antt has calls one after the other: "the same call again refuses again", more room than there was (`longer`, `after_31`), a pause
-- changes nothing, calls do not pause for ever (`paused_within`), and refused calls as foreign ones of document 01 (`refused_leaves`). That a run ends is not
-- promised. Assumes nothing.
use Rattle.std.specs.Prelude.{List, ℕ, ℤ}
use Rattle.definitions.specs.Input.{input_of}
use Rattle.definitions.specs.Input as map
use Rattle.definitions.specs.System.{System}
use Rattle.engine_spec.specs.Calls.{resume}
use Rattle.engine_spec.specs.Engine.{Work}
use Rattle.engine_spec.specs.Promise.{Runs}

-- the map of document 01, beyond its own limits of 8 and 16 where p and q are
abbrev pub map_of : (p q : ℕ) (coefs : List ℤ) → System
map_of p q coefs = map.system_of (input_of p q coefs)

module _ (p q : ℕ) (coefs : List ℤ) {most room : ℕ} {w : Work} (r : Runs p q coefs most room w) where
  -- what a continuing call leaves
  abbrev pub left : ℕ → Work
  left budget = (resume p q most room budget w).work
